-- The plain property that a property of a table shows, this project's own.
use Rattle.std.specs.Prelude.{ℕ, List, map}
use Rattle.elastic_ast.specs.declared.declarations.Entry.{Entry}
use Rattle.elastic_ast.specs.declared.declarations.Keyset.{Keyset}
use Rattle.elastic_ast.specs.declared.statements.Expr.{Expr}
use Rattle.elastic_ast.specs.Tree.{Name, PlainEntry, PlainExpr, PlainKeyset}
use Rattle.elastic_ast.specs.Seen.{seen_entry, seen_exprs, seen_keyset}
use Rattle.p4_tables.specs.Tables.{Property}
use Rattle.p4_tables.specs.declared.properties.Part.{Part}
use Rattle.p4_tables.specs.declared.properties.Part.TheVariants as part

abbrev pub seen_part : Part → Property
seen_part (part.Keys keys) = Property.Keys keys
seen_part (part.Actions names) = Property.Actions names
seen_part (part.Fallback action args) = Property.Fallback action (seen_exprs args)
seen_part (part.Size size) = Property.Size size
seen_part (part.Entries entries) = Property.Entries (map seen_entry entries)

abbrev pub seen_parts : List Part → List Property
seen_parts = map seen_part

abbrev pub seen_entries : List Entry → List PlainEntry
seen_entries = map seen_entry

abbrev pub seen_sets : List Keyset → List PlainKeyset
seen_sets = map seen_keyset

-- a call of an action, with its arguments on the plain tree
abbrev pub seen_call : List ℕ × List Expr → Name × List PlainExpr
seen_call call = (call.0, seen_exprs call.1)
