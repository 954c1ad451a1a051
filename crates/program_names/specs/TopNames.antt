-- What tables of names know of the declarations of a program; this project's own.
use Rattle.std.specs.Prelude.{◌≡◌, ℕ, ◌+◌, List, [], ◌∷◌, ◌++◌, map, flat_map, slice_get, Bool, Option, Some, None, is_some, if◌then◌else◌, option_map, option_and_then}
use Rattle.std.specs.Option.{option_copied}
use Rattle.std.specs.Map.{lookup}
use denote.Bor.{Bor}
use Rattle.elastic_ast.specs.declared.declarations.Decl.{Decl}
use Rattle.elastic_ast.specs.Tree.{Name, PlainDecl}
use Rattle.elastic_ast.specs.Seen.{seen_decl}
use Rattle.elastic_ast.specs.Typing.Scope.{same, found, or_else}
use Rattle.elastic_ast.specs.Typing.Asked.{field_name}
use Rattle.elastic_ast.specs.Typing.AskedInLocals.{local_name}
use Rattle.elastic_ast.specs.Typing.AskedOfNames.{top_name, top_names}
use Rattle.elastic_ast.specs.Packets.MainParts.{main_in}
use Rattle.elastic_ast.specs.Typing.LookUps.{member_name, members_in, meta_in}
use Rattle.elastic_ast.specs.Typing.ParserLoops.{state_names}
use Rattle.program_names.specs.declared.names.Names.{Names}

-- the names of the parts of a declaration, which are a scope of their own
abbrev pub part_names : PlainDecl → List Name
part_names (PlainDecl.Header name fields) = map field_name fields
part_names (PlainDecl.Headers members) = map member_name members
part_names (PlainDecl.Meta fields) = map field_name fields
part_names (PlainDecl.Parser name states) = state_names states
part_names (PlainDecl.Control name locals body) = map local_name locals
part_names _ = []

abbrev pub with_decl : PlainDecl → Name → Name × PlainDecl
with_decl decl name = (name, decl)

abbrev pub names_with : PlainDecl → List (Name × PlainDecl)
names_with decl = map (with_decl decl) (top_name decl)

-- each declared name, with its declaration
abbrev pub named_decls : List PlainDecl → List (Name × PlainDecl)
named_decls = flat_map names_with

-- the number of the first declaration that gives something
abbrev pub first_giving : {B : Type 0} → (PlainDecl → Option B) → List PlainDecl → Option ℕ
first_giving gives [] = None
first_giving gives (decl ∷ decls) = if is_some (gives decl) then Some 0 else option_map (λ number. number + 1) (first_giving gives decls)

abbrev pub option_list : {A : Type 0} → Option A → List A
option_list None = []
option_list (Some x) = x ∷ []

-- the number of the first, where a number more may be that of one
abbrev pub number_after : Option ℕ → Bool → ℕ → Option ℕ
number_after known here number = or_else known (if here then Some number else None)

-- a declaration, if it is that of a control, and those of controls among some
abbrev pub controls_with : PlainDecl → List PlainDecl
controls_with (PlainDecl.Control name locals body) = PlainDecl.Control name locals body ∷ []
controls_with _ = []

abbrev pub controls_of : List PlainDecl → List PlainDecl
controls_of = flat_map controls_with

-- tables of names are those of some declarations
pub record AreNames (names : Names) (decls : List PlainDecl) : Type 0 where
  pub top : names.top ≡ top_names decls
  pub numbers : map (slice_get decls) names.numbers.items ≡ map (λ entry. Some entry.1) (named_decls decls)
  pub parts : names.parts.items ≡ map part_names decls
  pub headers : names.headers ≡ first_giving members_in decls
  pub metadata : names.metadata ≡ first_giving meta_in decls
  pub main : names.main ≡ first_giving main_in decls
  pub controls : map (slice_get decls) names.controls.items ≡ map Some (controls_of decls)

-- tables of some declarations have become those with one more
abbrev pub HasNext : Names → Names → Decl → Type 0
HasNext old new decl = (decls : List PlainDecl) → AreNames old decls → AreNames new (decls ++ seen_decl decl ∷ [])

-- tables stay those of some declarations
abbrev pub KeepsNames : Names → Names → Type 0
KeepsNames old new = (decls : List PlainDecl) → AreNames old decls → AreNames new decls

-- the number of a declaration, for each name that it declares
abbrev pub numbers_with : Decl → ℕ → List ℕ
numbers_with decl number = map (λ name. number) (top_name (seen_decl decl))

-- the number of a declaration, if it is that of a control
abbrev pub control_numbers : Decl → ℕ → List ℕ
control_numbers decl number = map (λ control. number) (controls_with (seen_decl decl))

-- a number is that of the declaration of a name
abbrev pub IsNumberOf : Names → Name → Option ℕ → Type 0
IsNumberOf names name number = (decls : List PlainDecl) → AreNames names decls → option_and_then (slice_get decls) number ≡ lookup (same name) (named_decls decls)

-- a table is that of the parts of a declaration
abbrev pub IsTableAt : Names → ℕ → Option (Bor (List Name)) → Type 0
IsTableAt names number table = (decls : List PlainDecl) → AreNames names decls → option_copied table ≡ option_map part_names (slice_get decls number)

-- a number is that of the first declaration that gives something
abbrev pub IsNumberGiving : {B : Type 0} → (PlainDecl → Option B) → Names → Option ℕ → Type 0
IsNumberGiving gives names number = (decls : List PlainDecl) → AreNames names decls → option_and_then gives (option_and_then (slice_get decls) number) ≡ found gives decls

-- numbers are those of the declarations of controls
abbrev pub AreControls : Names → List ℕ → Type 0
AreControls names numbers = (decls : List PlainDecl) → AreNames names decls → map (slice_get decls) numbers ≡ map Some (controls_of decls)
