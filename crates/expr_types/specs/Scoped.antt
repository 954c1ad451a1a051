-- The scope of the program after some of its declarations: the names that these declare; this project's own.
use Rattle.std.specs.Prelude.{◌≡◌, ℕ, ◌≤◌, Bool, true, List, map, take, length, slice_get, Option, Some, None, option_map, option_and_then, find, is_some, IfSome, if◌then◌else◌}
use Rattle.std.specs.Option.{option_copied}
use denote.Bor.{Bor}
use Rattle.elastic_ast.specs.declared.declarations.Decl.{Decl}
use Rattle.elastic_ast.specs.declared.declarations.Field.{Field}
use Rattle.elastic_ast.specs.declared.statements.Amount.{Amount}
use Rattle.elastic_ast.specs.declared.rule.Rule.{Rule}
use Rattle.elastic_ast.specs.Tree.{Name, PlainDecl}
use Rattle.elastic_ast.specs.Seen.{seen_decl, seen_decls}
use Rattle.elastic_ast.specs.Typing.Scope.{same, among, found, symbol_of}
use Rattle.elastic_ast.specs.Typing.LookUps.{constant_in, fields_of_type, header_fields, header_type_in, members_of, width_among, register_in, register_size_in}
use Rattle.elastic_ast.specs.Packets.MainParts.{parser_in, control_in, deparser_in}
use Rattle.elastic_ast.specs.Typing.Demand.{first_broken}
use Rattle.elastic_ast.specs.Typing.AskedOfNames.{asks_names, top_name, top_names}
use Rattle.program_names.specs.Distinct.{are_distinct}
use Rattle.program_names.specs.declared.names.Names.{Names}
use Rattle.program_names.specs.Named.{first_named}
use Rattle.program_names.specs.TopNames.{AreNames, part_names}

-- the declarations before a place
abbrev pub before_of : List Decl × ℕ → List PlainDecl
before_of place = seen_decls (take place.1 place.0)

-- the rule that the name of a declaration breaks behind a place
abbrev pub own_name_breaks : Bool → List Decl × ℕ → Decl → Option Rule
own_name_breaks allow place decl = first_broken allow (asks_names (top_names (before_of place)) (top_name (seen_decl decl)))

-- tables are those of the declarations before a place, whose names differ
pub record HasNames (place : List Decl × ℕ) (names : Names) : Type 0 where
  pub are : AreNames names (before_of place)
  pub distinct : are_distinct (top_names (before_of place)) ≡ true
  pub within : place.1 ≤ length place.0

-- a declaration, where there is one
abbrev pub decl_shown : Option (Bor Decl) → Option PlainDecl
decl_shown decl = option_map seen_decl (option_copied decl)

-- a member of `headers_t`, a field of a header type, and the widths of such a field and of a header's
abbrev pub member_at : List Decl × ℕ → Name → Option (Name × Name)
member_at place header = find (λ member. same header member.1) (members_of (before_of place))

abbrev pub field_of : List Decl × ℕ → Name → Name → Option Field
field_of place name field = find (λ x. same field x.name) (fields_of_type (before_of place) name)

abbrev pub type_field : List Decl × ℕ → Name → Name → Option ℕ
type_field place name field = width_among (fields_of_type (before_of place) name) field

abbrev pub header_field : List Decl × ℕ → Name → Name → Option ℕ
header_field place header field = width_among (header_fields (before_of place) header) field

-- the fields of the declaration of a header type
abbrev pub type_fields : PlainDecl → Option (List Field)
type_fields (PlainDecl.Header name fields) = Some fields
type_fields _ = None

-- a part of the declaration of a number, by its name
abbrev pub part_at : {T : Type 0} → (PlainDecl → Option (List T)) → (T → Name) → List Decl × ℕ → ℕ → Name → Option T
part_at parts_in name_of place number name = option_and_then (λ parts. first_named name_of parts name) (option_and_then parts_in (slice_get (before_of place) number))

-- a part is found by its name, where the names are those of the parts of the declaration of a number
abbrev pub FindsPart : {T : Type 0} → List Decl × ℕ → ℕ → List T → Name → Option T → Type 0
FindsPart {T} place number parts name result =
    (name_of : T → Name) (decl : PlainDecl) → slice_get (before_of place) number ≡ Some decl → part_names decl ≡ map name_of parts → result ≡ first_named name_of parts name

-- a register of this name, as its cells and their width
abbrev pub register_kept : Name → PlainDecl → Option (Amount × ℕ)
register_kept name (PlainDecl.Register register width cells size) = if same name register then Some (cells, width) else None
register_kept name _ = None

abbrev pub kept_shown : Option (Bor Amount × ℕ) → Option (Amount × ℕ)
kept_shown kept = option_map (λ kept. (kept.0.now, kept.1)) kept

-- What some declarations declare under a name, each kind of thing, is what one declaration does, or there is none of any kind.
pub record StandsUnder (name : Name) (decls : List PlainDecl) (decl : Option PlainDecl) : Type 0 where
  pub named : IfSome decl (λ decl. among (top_name decl) name ≡ true)
  pub declared : is_some decl ≡ among (top_names decls) name
  pub symbol : found (symbol_of name) decls ≡ option_and_then (symbol_of name) decl
  pub constant : found (constant_in name) decls ≡ option_and_then (constant_in name) decl
  pub header : found (header_type_in name) decls ≡ option_and_then (header_type_in name) decl
  pub register : found (register_in name) decls ≡ option_and_then (register_in name) decl
  pub size : found (register_size_in name) decls ≡ option_and_then (register_size_in name) decl
  pub kept : found (register_kept name) decls ≡ option_and_then (register_kept name) decl
  pub parser : found (parser_in name) decls ≡ option_and_then (parser_in name) decl
  pub control : found (control_in name) decls ≡ option_and_then (control_in name) decl
  pub deparser : found (deparser_in name) decls ≡ option_and_then (deparser_in name) decl
