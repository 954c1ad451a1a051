-- The rule that is broken first by what stands in a declaration; this project's own.
use Rattle.std.specs.Prelude.{ℕ, Bool, true, false, List, [], ◌∷◌, map, Option}
use Rattle.elastic_ast.specs.declared.declarations.Decl.{Decl}
use Rattle.elastic_ast.specs.declared.declarations.Field.{Field}
use Rattle.elastic_ast.specs.declared.declarations.UtilTerm.{UtilTerm}
use Rattle.elastic_ast.specs.declared.declarations.UtilTerm.TheVariants as util
use Rattle.elastic_ast.specs.declared.rule.Rule.{Rule}
use Rattle.elastic_ast.specs.Tree.{Name, PlainDecl}
use Rattle.elastic_ast.specs.Seen.{seen_decl}
use Rattle.elastic_ast.specs.Typing.Demand.{first_broken}
use Rattle.elastic_ast.specs.Typing.AskedOfNames.{asks_names, asks_symbol}
use Rattle.elastic_ast.specs.Typing.Asked.{asks_decl, asks_fields, asks_util, field_name}
use Rattle.expr_types.specs.Scoped.{before_of}

-- of a name that is put to others
abbrev pub one_breaks : Bool → List Name → Name → Option Rule
one_breaks allow names name = first_broken allow (asks_names names (name ∷ []))

-- a declaration has no parts with names of their own
abbrev pub has_no_parts : PlainDecl → Bool
has_no_parts (PlainDecl.Header name fields) = false
has_no_parts (PlainDecl.Headers members) = false
has_no_parts (PlainDecl.Meta fields) = false
has_no_parts (PlainDecl.Parser name states) = false
has_no_parts (PlainDecl.Control name locals body) = false
has_no_parts _ = true

-- of the names of fields, in a scope of their own
abbrev pub field_names_break : Bool → List Field → Option Rule
field_names_break allow fields = first_broken allow (asks_names [] (map field_name fields))

-- of a size, of the fields of the metadata, of what stands in a declaration, and of a whole declaration, behind the first of some
abbrev pub symbol_breaks : Bool → List Decl × ℕ → Option Name → Option Rule
symbol_breaks allow place symbol = first_broken allow (asks_symbol (before_of place) symbol)

-- of the terms of the utility
abbrev pub utility_breaks : Bool → List Decl × ℕ → List UtilTerm → Option Rule
utility_breaks allow place terms = first_broken allow (asks_decl (before_of place) (PlainDecl.Maximize terms))

-- of a step table, whatever its sign
abbrev pub steps_break : Bool → List Decl × ℕ → Name → List (ℕ × ℕ) → Option Rule
steps_break allow place symbol pairs = first_broken allow (asks_util (before_of place) (util.Steps false symbol pairs))

abbrev pub fields_break : Bool → List Decl × ℕ → List Field → Option Rule
fields_break allow place fields = first_broken allow (asks_fields (before_of place) fields)

abbrev pub inside_breaks : Bool → List Decl × ℕ → Decl → Option Rule
inside_breaks allow place decl = first_broken allow (asks_decl (before_of place) (seen_decl decl))
