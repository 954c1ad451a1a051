-- The parts of one declaration, each found by its name.
use Rattle.std.proofs.lemmas.List.{append-nil}
use Rattle.std.proofs.Common.{◌≡◌, ℕ, Bool, true, false, cond, ◌||◌, List, [], ◌∷◌, map, find, Option, Some, None, IfSome, is_some, refl, sym, ap, ◌∙◌}
use Rattle.std.specs.Prelude.{if◌then◌else◌, slice_get, option_map, option_and_then, unwrap_or}
use Rattle.std.specs.Option.{option_copied}
use denote.Bor.{Bor}
use Rattle.elastic_ast.specs.declared.declarations.Decl.{Decl}
use Rattle.elastic_ast.specs.declared.declarations.Field.{Field}
use Rattle.elastic_ast.specs.Tree.{Name, PlainDecl}
use Rattle.elastic_ast.specs.Typing.Scope.{same, among}
use Rattle.elastic_ast.specs.Typing.Asked.{field_name}
use Rattle.elastic_ast.specs.Typing.AskedOfNames.{top_name}
use Rattle.elastic_ast.specs.Typing.LookUps.{header_type_in, member_name}
use Rattle.program_names.specs.Named.{FindsNamed, first_named}
use Rattle.program_names.specs.TopNames.{part_names}
use Rattle.expr_types.specs.Scoped.{before_of, FindsPart, StandsUnder, field_of, type_fields}

-- by the table of the declaration
pub part_found : {T : Type 0} (place : List Decl × ℕ) (number : ℕ) (parts : List T) (name : Name) (names : List Name) (result : Option T) → Some names ≡ option_map part_names (slice_get (before_of place) number) → FindsNamed names parts name result
    → FindsPart place number parts name result
part_found place number parts name names result table finds name_of decl here are =
    let all : Some names ≡ Some (part_names decl) = table ∙ ap (option_map part_names) here in
    let these : names ≡ part_names decl = cc in
    finds name_of [] (these ∙ are ∙ ap (map name_of) (sym (append-nil parts)))

-- a member of a name, where there is one
member_known : (name : Name) (members : List (Name × Name)) → is_some (find (λ member. same name member.1) members) ≡ among (map member_name members) name
member_known name [] = refl
member_known name (m ∷ ms) = by (same name m.1) (member_known name ms)
  where
    by : (b : Bool) → is_some (find (λ member. same name member.1) ms) ≡ among (map member_name ms) name → is_some (cond b (Some m) (find (λ member. same name member.1) ms)) ≡ (b || among (map member_name ms) name)
    by true h = refl
    by false h = h

pub member_is : (name : Name) (members : List (Name × Name)) (member : Option (Bor (Name × Name))) → option_copied member ≡ find (λ member. same name member.1) members → is_some member ≡ among (map member_name members) name
member_is name members member e = shown member ∙ ap is_some e ∙ member_known name members
  where
    shown : (o : Option (Bor (Name × Name))) → is_some o ≡ is_some (option_copied o)
    shown None = refl
    shown (Some x) = refl

pub or_left_true : (b : Bool) → (b || false) ≡ true → b ≡ true
or_left_true true h = refl
or_left_true false h = h

-- a field of the header type of a name
type_found : (name field : Name) (decl : Option PlainDecl) → IfSome decl (λ d. among (top_name d) name ≡ true)
    → option_and_then (λ parts. first_named field_name parts field) (option_and_then type_fields decl) ≡ find (λ x. same field x.name) (unwrap_or (option_and_then (header_type_in name) decl) [])
type_found name field None h = refl
type_found name field (Some (PlainDecl.Header header fields)) h = sym (ap (λ b. find (λ x. same field x.name) (unwrap_or (if b then Some fields else None) [])) (or_left_true (same name header) h))
type_found name field (Some _) h = refl

pub field_found : (name field : Name) (place : List Decl × ℕ) (decl : Option PlainDecl) (result : Option Field) → StandsUnder name (before_of place) decl
    → result ≡ option_and_then (λ parts. first_named field_name parts field) (option_and_then type_fields decl) → result ≡ field_of place name field
field_found name field place decl result under e = e ∙ type_found name field decl under.named ∙ ap (λ z. find (λ x. same field x.name) (unwrap_or z [])) (sym under.header)
