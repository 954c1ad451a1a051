-- The rule that is broken first by the parts of a declaration, their names aside; this project's own.
use Rattle.std.specs.Prelude.{ℕ, Bool, List, [], ◌∷◌, ◌++◌, flat_map, Option}
use Rattle.elastic_ast.specs.declared.rule.Rule.{Rule}
use Rattle.elastic_ast.specs.declared.statements.Amount.{Amount}
use Rattle.elastic_ast.specs.declared.statements.Stmt.{Stmt}
use Rattle.elastic_ast.specs.declared.declarations.Decl.{Decl}
use Rattle.elastic_ast.specs.declared.declarations.Field.{Field}
use Rattle.elastic_ast.specs.declared.declarations.Local.{Local}
use Rattle.elastic_ast.specs.declared.declarations.State.{State}
use Rattle.elastic_ast.specs.Tree.{Name, PlainDecl}
use Rattle.elastic_ast.specs.Seen.{seen_stmts}
use Rattle.elastic_ast.specs.Typing.LookUps.{bits_of_fields}
use Rattle.elastic_ast.specs.Typing.Demand.{Wide, Bytes, first_broken}
use Rattle.elastic_ast.specs.Typing.AskedOfNames.{asks_amount, asks_symbol}
use Rattle.elastic_ast.specs.Typing.Asked.{asks_header, asks_members, asks_structs, asks_decl, asks_width, asks_member, asks_named_header}
use Rattle.stmt_check.specs.PlaceRules.{each_breaks}
use Rattle.expr_types.specs.Scoped.{before_of}
use Rattle.program_names.specs.LocalParts.{seen_locals, seen_states}

-- by the fields of a header, by the members of `headers_t`, by names of headers, and by a register
abbrev pub widths_break : Bool → List Field → Option Rule
widths_break allow fields = first_broken allow (flat_map asks_width fields ++ (Bytes (bits_of_fields fields) ∷ []))

abbrev pub members_break : Bool → List Decl × ℕ → List (Name × Name) → Option Rule
members_break allow place members = each_breaks allow (asks_member (before_of place)) members

abbrev pub headers_break : Bool → List Decl × ℕ → List Name → Option Rule
headers_break allow place headers = each_breaks allow (asks_named_header (before_of place)) headers

abbrev pub register_decl_breaks : Bool → List Decl × ℕ → ℕ → Amount → Option Name → Option Rule
register_decl_breaks allow place width cells size =
    first_broken allow (Wide width ∷ (asks_amount (before_of place) cells ++ asks_symbol (before_of place) size))

-- by `headers_t` and `meta_t`, which a parser and a control name, by a deparser, and by `main`
abbrev pub structs_break : Bool → List Decl × ℕ → Option Rule
structs_break allow place = first_broken allow (asks_structs (before_of place))

abbrev pub emits_break : Bool → List Decl × ℕ → List Name → Option Rule
emits_break allow place emits = first_broken allow (asks_decl (before_of place) (PlainDecl.Deparser [] emits))

abbrev pub main_breaks : Bool → List Decl × ℕ → Name → Name → Name → Option Rule
main_breaks allow place parser control deparser = first_broken allow (asks_decl (before_of place) (PlainDecl.Main parser control deparser))

-- by a header, and by `headers_t`
abbrev pub header_breaks : Bool → List Field → Option Rule
header_breaks allow fields = first_broken allow (asks_header fields)

abbrev pub headers_t_breaks : Bool → List Decl × ℕ → List (Name × Name) → Option Rule
headers_t_breaks allow place members = first_broken allow (asks_members (before_of place) members)

-- by a parser, and by a control
abbrev pub parser_breaks : Bool → List Decl × ℕ → List State → Option Rule
parser_breaks allow place states = first_broken allow (asks_decl (before_of place) (PlainDecl.Parser [] (seen_states states)))

abbrev pub control_breaks : Bool → List Decl × ℕ → List Local → List Stmt → Option Rule
control_breaks allow place locals body = first_broken allow (asks_decl (before_of place) (PlainDecl.Control [] (seen_locals locals) (seen_stmts body)))
