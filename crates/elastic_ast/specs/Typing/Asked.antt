-- What each declaration asks where it stands; this project's own.
use Rattle.std.specs.Prelude.{ℕ, ◌+◌, Bool, true, false, not, List, [], ◌∷◌, ◌++◌, length, map, flat_map, Option, Some, None, option_map, unwrap_or, is_some, codes}
use Rattle.std.specs.List.{list_any}
use Rattle.elastic_ast.specs.declared.declarations.Field.{Field}
use Rattle.elastic_ast.specs.declared.declarations.Comp.{Comp}
use Rattle.elastic_ast.specs.declared.declarations.LinTerm.{LinTerm}
use Rattle.elastic_ast.specs.declared.declarations.UtilTerm.{UtilTerm}
use Rattle.elastic_ast.specs.declared.declarations.UtilTerm.TheVariants as util
use Rattle.elastic_ast.specs.Tree.{Name, PlainDecl, PlainKeyset, PlainNext, PlainState}
use Rattle.elastic_ast.specs.Typing.Scope.{among, found, is_symbol, top}
use Rattle.elastic_ast.specs.Typing.LookUps.{is_header_type, has_headers, member_name, is_member, bits_of_fields, has_meta}
use Rattle.elastic_ast.specs.Typing.Types.{Ty, Bare, bits_of, type_of}
use Rattle.elastic_ast.specs.Packets.MainParts.{parser_in, control_in, deparser_in}
use Rattle.elastic_ast.specs.Typing.Demand.{Demand, Known, First, Wide, Fits, Number, Term, Few, Rising, Bytes, Keyed, has_width}
use Rattle.elastic_ast.specs.Typing.AskedOfNames.{asks_names, top_name, top_names, asks_symbol, asks_amount}
use Rattle.elastic_ast.specs.Typing.AskedInExpressions.{names_at, asks_expr}
use Rattle.elastic_ast.specs.Typing.AskedInStatements.{asks_stmts}
use Rattle.elastic_ast.specs.Typing.AskedInLocals.{asks_set, local_name, asks_locals}
use Rattle.elastic_ast.specs.Typing.ParserLoops.{state_names}

-- the kinds of declarations that may stand once in a program
pub data DeclKind : Type 0 where
  Utility : DeclKind
  Headers : DeclKind
  Metadata : DeclKind
  Parser : DeclKind
  Control : DeclKind
  Deparser : DeclKind
  Main : DeclKind

-- the kind of a declaration, where that may stand once
abbrev pub decl_kind : PlainDecl → Option DeclKind
decl_kind (PlainDecl.Maximize terms) = Some DeclKind.Utility
decl_kind (PlainDecl.Headers members) = Some DeclKind.Headers
decl_kind (PlainDecl.Meta fields) = Some DeclKind.Metadata
decl_kind (PlainDecl.Parser name states) = Some DeclKind.Parser
decl_kind (PlainDecl.Control name locals body) = Some DeclKind.Control
decl_kind (PlainDecl.Deparser name emits) = Some DeclKind.Deparser
decl_kind (PlainDecl.Main parser control deparser) = Some DeclKind.Main
decl_kind _ = None

abbrev pub is_of_kind : DeclKind → PlainDecl → Bool
is_of_kind DeclKind.Utility (PlainDecl.Maximize terms) = true
is_of_kind DeclKind.Headers (PlainDecl.Headers members) = true
is_of_kind DeclKind.Metadata (PlainDecl.Meta fields) = true
is_of_kind DeclKind.Parser (PlainDecl.Parser name states) = true
is_of_kind DeclKind.Control (PlainDecl.Control name locals body) = true
is_of_kind DeclKind.Deparser (PlainDecl.Deparser name emits) = true
is_of_kind DeclKind.Main (PlainDecl.Main parser control deparser) = true
is_of_kind _ _ = false

abbrev pub has : DeclKind → List PlainDecl → Bool
has kind decls = list_any (is_of_kind kind) decls

-- no declaration of its kind stands before, if its kind may stand once
abbrev pub is_first : List PlainDecl → PlainDecl → Bool
is_first before decl = unwrap_or (option_map (λ kind. not (has kind before)) (decl_kind decl)) true

abbrev pub asks_term : List PlainDecl → LinTerm → List Demand
asks_term before term = Term term.by ∷ asks_symbol before term.symbol

-- the two sides of a comparison have not too many terms together
abbrev pub asks_comp : List PlainDecl → Comp → List Demand
asks_comp before comp =
    Few (length comp.left + length comp.right) ∷ (flat_map (asks_term before) comp.left ++ flat_map (asks_term before) comp.right)

abbrev pub asks_pair : ℕ × ℕ → List Demand
asks_pair pair = Term pair.0 ∷ Term pair.1 ∷ []

abbrev pub pair_key : ℕ × ℕ → ℕ
pair_key pair = pair.0

-- the keys of a step table are few and rise from 0
abbrev pub asks_util : List PlainDecl → UtilTerm → List Demand
asks_util before (util.Lin term) = asks_term before term
asks_util before (util.Steps minus symbol pairs) =
    Known (is_symbol before symbol) ∷ Few (length pairs) ∷ Rising (map pair_key pairs) ∷ flat_map asks_pair pairs

abbrev pub field_name : Field → Name
field_name field = field.name

abbrev pub asks_field : List PlainDecl → Field → List Demand
asks_field before field = Wide field.width ∷ asks_symbol before field.size

abbrev pub asks_fields : List PlainDecl → List Field → List Demand
asks_fields before fields = asks_names [] (map field_name fields) ++ flat_map (asks_field before) fields

abbrev pub asks_width : Field → List Demand
asks_width field = Wide field.width ∷ []

-- the fields of a header are whole bytes together
abbrev pub asks_header : List Field → List Demand
asks_header fields = asks_names [] (map field_name fields) ++ (flat_map asks_width fields ++ (Bytes (bits_of_fields fields) ∷ []))

abbrev pub asks_member : List PlainDecl → Name × Name → List Demand
asks_member before member = Known (is_header_type before member.0) ∷ []

abbrev pub asks_members : List PlainDecl → List (Name × Name) → List Demand
asks_members before members = asks_names [] (map member_name members) ++ flat_map (asks_member before) members

-- a name is that of a header
abbrev pub asks_named_header : List PlainDecl → Name → List Demand
asks_named_header before header = Known (is_member before header) ∷ []

-- the states of one parser, before or after; `accept` and `reject` count as declared
abbrev pub is_state : List PlainState → Name → Bool
is_state states name = among (codes "accept" ∷ codes "reject" ∷ state_names states) name

abbrev pub asks_case : List PlainDecl → List PlainState → Ty → PlainKeyset × Name → List Demand
asks_case before states width option = asks_set before width option.0 ++ (Known (is_state states option.1) ∷ [])

-- what a `select` is over has a width, which its sets take
abbrev pub asks_next : List PlainDecl → List PlainState → PlainNext → List Demand
asks_next before states (PlainNext.To name) = Known (is_state states name) ∷ []
asks_next before states (PlainNext.Select expression cases) =
    asks_expr (top before) expression Bare
    ++ (Number (type_of (names_at (top before)) expression) ∷ Keyed (has_width (type_of (names_at (top before)) expression))
    ∷ flat_map (asks_case before states (type_of (names_at (top before)) expression)) cases)

abbrev pub asks_state : List PlainDecl → List PlainState → PlainState → List Demand
asks_state before states state = flat_map (asks_named_header before) state.extracts ++ asks_next before states state.next

-- a parser and a control name `headers_t` and `meta_t`
abbrev pub asks_structs : List PlainDecl → List Demand
asks_structs before = Known (has_headers before) ∷ Known (has_meta before) ∷ []

abbrev pub asks_decl : List PlainDecl → PlainDecl → List Demand
asks_decl before (PlainDecl.Include number) = []
asks_decl before (PlainDecl.Symbol name) = []
asks_decl before (PlainDecl.Assume comps) = flat_map (asks_comp before) comps
asks_decl before (PlainDecl.Maximize terms) = Few (length terms) ∷ flat_map (asks_util before) terms
asks_decl before (PlainDecl.Const name width value) = Wide width ∷ Fits value (bits_of width) ∷ []
asks_decl before (PlainDecl.Header name fields) = asks_header fields
asks_decl before (PlainDecl.Headers members) = asks_members before members
asks_decl before (PlainDecl.Meta fields) = asks_fields before fields
asks_decl before (PlainDecl.Register name width cells size) = Wide width ∷ (asks_amount before cells ++ asks_symbol before size)
asks_decl before (PlainDecl.Parser name states) = asks_structs before ++ (asks_names [] (state_names states) ++ flat_map (asks_state before states) states)
asks_decl before (PlainDecl.Control name locals body) =
    asks_structs before ++ (asks_names [] (map local_name locals) ++ (asks_locals before body [] locals ++ asks_stmts (top before) locals body))
asks_decl before (PlainDecl.Deparser name emits) = Known (has_headers before) ∷ flat_map (asks_named_header before) emits
asks_decl before (PlainDecl.Main parser control deparser) =
    Known (is_some (found (parser_in parser) before)) ∷ Known (is_some (found (control_in control) before)) ∷ Known (is_some (found (deparser_in deparser) before)) ∷ []

-- all that a declaration asks, after the given ones
abbrev pub asked : List PlainDecl → PlainDecl → List Demand
asked before decl = asks_names (top_names before) (top_name decl) ++ (First (is_first before decl) ∷ asks_decl before decl)
