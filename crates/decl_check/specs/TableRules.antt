-- The rule that is broken first by a match-action table and its parts; this project's own.
use Rattle.std.specs.Prelude.{ℕ, Bool, ◌||◌, List, ◌∷◌, ◌++◌, length, map, flat_map, Option}
use Rattle.elastic_ast.specs.declared.rule.Rule.{Rule}
use Rattle.elastic_ast.specs.declared.statements.Expr.{Expr}
use Rattle.elastic_ast.specs.declared.declarations.Decl.{Decl}
use Rattle.elastic_ast.specs.declared.declarations.Entry.{Entry}
use Rattle.elastic_ast.specs.declared.declarations.Key.{Key}
use Rattle.elastic_ast.specs.declared.declarations.Keyset.{Keyset}
use Rattle.elastic_ast.specs.declared.declarations.Local.{Local}
use Rattle.elastic_ast.specs.declared.declarations.Param.{Param}
use Rattle.elastic_ast.specs.declared.declarations.Table.{Table}
use Rattle.elastic_ast.specs.Tree.{Name}
use Rattle.elastic_ast.specs.Seen.{seen_exprs, seen_keyset, seen_entry, seen_table}
use Rattle.elastic_ast.specs.Typing.Demand.{Keyed, Listed, first_broken}
use Rattle.elastic_ast.specs.Typing.Scope.{among}
use Rattle.elastic_ast.specs.Typing.Types.{lval_type}
use Rattle.elastic_ast.specs.Typing.AskedInLocals.{asks_values, asks_run, asks_listed, asks_key, asks_set, asks_sets, is_one, asks_size, asks_entry, asks_fallback, asks_table}
use Rattle.stmt_check.specs.PlaceRules.{each_breaks}
use Rattle.expr_types.specs.Scoped.{before_of}
use Rattle.program_names.specs.LocalParts.{seen_locals}

-- by what a table runs, and by its actions
abbrev pub values_break : Bool → List Decl × ℕ → List Expr → List Param → Option Rule
values_break allow place values params = first_broken allow (asks_values (before_of place) (seen_exprs values) params)

abbrev pub run_breaks : Bool → List Decl × ℕ → List Local → Name → List Expr → Option Rule
run_breaks allow place locals name values = first_broken allow (asks_run (before_of place) (seen_locals locals) name (seen_exprs values))

abbrev pub listed_breaks : Bool → List Local → Name → Option Rule
listed_breaks allow locals name = first_broken allow (asks_listed (seen_locals locals) name)

abbrev pub listeds_break : Bool → List Local → List Name → Option Rule
listeds_break allow locals names = each_breaks allow (asks_listed (seen_locals locals)) names

-- by its keys, its size, its entries and its default action
abbrev pub key_breaks : Bool → List Decl × ℕ → Key → Option Rule
key_breaks allow place key = first_broken allow (asks_key (before_of place) key)

abbrev pub keys_break : Bool → List Decl × ℕ → List Key → Option Rule
keys_break allow place keys = each_breaks allow (asks_key (before_of place)) keys

abbrev pub key_set_breaks : Bool → List Decl × ℕ → Key → Keyset → Option Rule
key_set_breaks allow place key set =
    first_broken allow (Keyed (key.ternary || is_one (seen_keyset set)) ∷ asks_set (before_of place) (lval_type (before_of place) key.field) (seen_keyset set))

abbrev pub sets_break : Bool → List Decl × ℕ → List Keyset → List Key → Option Rule
sets_break allow place sets keys = first_broken allow (asks_sets (before_of place) (map seen_keyset sets) keys)

abbrev pub size_breaks : Bool → ℕ → Option ℕ → Option Rule
size_breaks allow count size = first_broken allow (asks_size count size)

abbrev pub own_run_breaks : Bool → List Decl × ℕ → List Local → Table → Name → List Expr → Option Rule
own_run_breaks allow place locals table name values =
    first_broken allow (Listed (among table.actions name) ∷ asks_run (before_of place) (seen_locals locals) name (seen_exprs values))

abbrev pub entry_breaks : Bool → List Decl × ℕ → List Local → Table → Entry → Option Rule
entry_breaks allow place locals table entry = first_broken allow (asks_entry (before_of place) (seen_locals locals) (seen_table table) (seen_entry entry))

abbrev pub entries_break : Bool → List Decl × ℕ → List Local → Table → List Entry → Option Rule
entries_break allow place locals table entries = each_breaks allow (asks_entry (before_of place) (seen_locals locals) (seen_table table)) (map seen_entry entries)

abbrev pub fallback_breaks : Bool → List Decl × ℕ → List Local → Table → Option Rule
fallback_breaks allow place locals table =
    first_broken allow (asks_fallback (before_of place) (seen_locals locals) (seen_table table) (seen_table table).fallback)

abbrev pub rows_break : Bool → List Decl × ℕ → List Local → Table → Option Rule
rows_break allow place locals table =
    first_broken allow (asks_size (length (seen_table table).entries) table.size
    ++ (flat_map (asks_entry (before_of place) (seen_locals locals) (seen_table table)) (seen_table table).entries
    ++ asks_fallback (before_of place) (seen_locals locals) (seen_table table) (seen_table table).fallback))

abbrev pub table_breaks : Bool → List Decl × ℕ → List Local → Table → Option Rule
table_breaks allow place locals table = first_broken allow (asks_table (before_of place) (seen_locals locals) (seen_table table))
