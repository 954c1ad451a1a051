-- What declarations declare, each thing by its name: constants, header types, headers, metadata, registers, actions and
-- tables (P4-16 language specification 1.2.3, section 6.8; the fields of `std` are this project's own).
use Rattle.std.specs.Prelude.{ℕ, Bool, List, [], ◌∷◌, map, flat_map, find, sum_by, Option, Some, None, option_map, unwrap_or, is_some, codes, if◌then◌else◌}
use Rattle.elastic_ast.specs.Typing.LanguageLimits.{port_width}
use Rattle.elastic_ast.specs.declared.declarations.Field.{Field}
use Rattle.elastic_ast.specs.Tree.{Name, PlainDecl, PlainLocal, PlainAction, PlainTable}
use Rattle.elastic_ast.specs.Typing.Scope.{same, among, found}

-- a constant of this name, as its width and its number
abbrev pub constant_in : Name → PlainDecl → Option (ℕ × ℕ)
constant_in name (PlainDecl.Const constant width value) = if same name constant then Some (width, value) else None
constant_in name _ = None

abbrev pub declared_constant : List PlainDecl → Name → Option (ℕ × ℕ)
declared_constant decls name = found (constant_in name) decls

abbrev pub header_type_in : Name → PlainDecl → Option (List Field)
header_type_in name (PlainDecl.Header header fields) = if same name header then Some fields else None
header_type_in name _ = None

-- the members of `headers_t`: of each the name of its type, and its own
abbrev pub members_in : PlainDecl → Option (List (Name × Name))
members_in (PlainDecl.Headers members) = Some members
members_in _ = None

abbrev pub members_of : List PlainDecl → List (Name × Name)
members_of decls = unwrap_or (found members_in decls) []

abbrev pub fields_of_type : List PlainDecl → Name → List Field
fields_of_type decls name = unwrap_or (found (header_type_in name) decls) []

abbrev pub is_header_type : List PlainDecl → Name → Bool
is_header_type decls name = is_some (found (header_type_in name) decls)

-- `headers_t` is declared
abbrev pub has_headers : List PlainDecl → Bool
has_headers decls = is_some (found members_in decls)

abbrev pub member_name : Name × Name → Name
member_name member = member.1

-- the name is that of a header
abbrev pub is_member : List PlainDecl → Name → Bool
is_member decls header = among (map member_name (members_of decls)) header

-- the fields of a header, which is a member of `headers_t`, in the order of the text
abbrev pub header_fields : List PlainDecl → Name → List Field
header_fields decls header =
    unwrap_or (option_map (λ member. fields_of_type decls member.0) (find (λ member. same header member.1) (members_of decls))) []

-- how many bits a header has
abbrev pub bits_of_fields : List Field → ℕ
bits_of_fields fields = sum_by (λ field. field.width) fields

abbrev pub meta_in : PlainDecl → Option (List Field)
meta_in (PlainDecl.Meta fields) = Some fields
meta_in _ = None

abbrev pub meta_fields : List PlainDecl → List Field
meta_fields decls = unwrap_or (found meta_in decls) []

-- `meta_t` is declared
abbrev pub has_meta : List PlainDecl → Bool
has_meta decls = is_some (found meta_in decls)

abbrev pub meta_field : List PlainDecl → Name → Option Field
meta_field decls name = find (λ field. same name field.name) (meta_fields decls)

abbrev pub width_among : List Field → Name → Option ℕ
width_among fields name = option_map (λ field. field.width) (find (λ field. same name field.name) fields)

-- the fields of `std`, each with its width
unfoldable pub std_fields : List (Name × ℕ)
std_fields = (codes "in_port", port_width) ∷ (codes "out_port", port_width) ∷ (codes "drop", 1) ∷ []

abbrev pub std_width : Name → Option ℕ
std_width name = option_map (λ field. field.1) (find (λ field. same name field.0) std_fields)

-- a register of this name, as the width of its cells
abbrev pub register_in : Name → PlainDecl → Option ℕ
register_in name (PlainDecl.Register register width cells size) = if same name register then Some width else None
register_in name _ = None

abbrev pub register_width : List PlainDecl → Name → Option ℕ
register_width decls name = found (register_in name) decls

-- a register of this name, as the size that it has where it is an array
abbrev pub register_size_in : Name → PlainDecl → Option (Option Name)
register_size_in name (PlainDecl.Register register width cells size) = if same name register then Some size else None
register_size_in name _ = None

abbrev pub register_size : List PlainDecl → Name → Option (Option Name)
register_size decls name = found (register_size_in name) decls

abbrev pub locals_in : PlainDecl → List PlainLocal
locals_in (PlainDecl.Control control locals body) = locals
locals_in _ = []

-- what the control declares before its body
abbrev pub locals_of : List PlainDecl → List PlainLocal
locals_of = flat_map locals_in

abbrev pub action_in : Name → PlainLocal → Option PlainAction
action_in name (PlainLocal.OfAction action) = if same name action.name then Some action else None
action_in name (PlainLocal.OfTable table) = None

abbrev pub action_of : List PlainDecl → Name → Option PlainAction
action_of decls name = found (action_in name) (locals_of decls)

abbrev pub table_in : Name → PlainLocal → Option PlainTable
table_in name (PlainLocal.OfTable table) = if same name table.name then Some table else None
table_in name (PlainLocal.OfAction action) = None

abbrev pub table_of : List PlainDecl → Name → Option PlainTable
table_of decls name = found (table_in name) (locals_of decls)
