-- What was told of the action of a name.
use Rattle.std.proofs.lemmas.List.{length-map}
use Rattle.std.proofs.Common.{◌≡◌, ℕ, zero, suc, ◌<◌, Bool, true, false, List, [], ◌∷◌, take, length, slice_get, Option, Some, None, IfSome, refl, sym, ap, subst, ◌∙◌}
use Rattle.std.specs.Prelude.{if◌then◌else◌, option_map, option_and_then}
use Rattle.elastic_ast.specs.declared.declarations.Local.{Local}
use Rattle.elastic_ast.specs.Tree.{Name, PlainLocal}
use Rattle.elastic_ast.specs.Seen.{seen_local}
use Rattle.elastic_ast.specs.Typing.Scope.{same}
use Rattle.elastic_ast.specs.Typing.LookUps.{action_in}
use Rattle.program_names.specs.Distinct.{are_distinct}
use Rattle.program_names.specs.Named.{place_of}
use Rattle.program_names.specs.LocalParts.{name_of_local}
use Rattle.program_names.proofs.NewNames.{place_within}
use Rattle.program_names.proofs.Places.{named_at}
use Rattle.program_names.proofs.LocalLaws.{local_under}
use Rattle.program_names.proofs.TopLaws.{slice_get-map}
use Rattle.decl_check.specs.RegisterFree.{is_register_free, is_register_free_local, register_free_local, AreRegisterFree, IsRegisterFreeUnder}

take_got : {X : Type 0} (xs : List X) (count place : ℕ) (x : X) → slice_get (take count xs) place ≡ Some x → slice_get xs place ≡ Some x
take_got xs zero place x e = cc
take_got [] (suc count) place x e = cc
take_got (y ∷ ys) (suc count) zero x e = e
take_got (y ∷ ys) (suc count) (suc place) x e = take_got ys count place x e

given : (n : Name) (told : Bool) (local : PlainLocal) → told ≡ is_register_free_local local → IfSome (action_in n local) (λ action. told ≡ is_register_free action)
given n told (PlainLocal.OfAction action) e = by (same n action.name)
  where
    by : (b : Bool) → IfSome (if b then Some action else None) (λ action. told ≡ is_register_free action)
    by true = e
    by false = tt
given n told (PlainLocal.OfTable table) e = tt

module _ (n : Name) (names : List Name) (locals : List Local) (free : List Bool) (are : AreRegisterFree names locals free) where
  pub told_within : (place : ℕ) → Some place ≡ place_of names n → place < length free
  told_within place e =
      subst (λ k. place < k) (ap length are.all ∙ length-map locals name_of_local ∙ sym (ap length are.told ∙ length-map locals register_free_local)) (place_within names n place e)

  pub free_under : (place : Option ℕ) (told : Bool) → are_distinct names ≡ true → place ≡ place_of names n → ((at : ℕ) → place ≡ Some at → slice_get free at ≡ Some told) → IsRegisterFreeUnder locals n told
  free_under place told distinct e here count =
      let under = local_under n names locals count (option_and_then (slice_get shown) place) are.all distinct (λ name_of more all. ap (option_and_then (slice_get shown)) e ∙ named_at name_of n names shown more all) in
      subst (λ action. IfSome action (λ action. told ≡ is_register_free action)) (sym under.action) (by place here)
    where
      shown : List Local
      shown = take count locals

      by : (place : Option ℕ) → ((at : ℕ) → place ≡ Some at → slice_get free at ≡ Some told) → IfSome (option_and_then (action_in n) (option_map seen_local (option_and_then (slice_get shown) place))) (λ action. told ≡ is_register_free action)
      by None here = tt
      by (Some at) here = local (slice_get shown at) refl
        where
          local : (o : Option Local) → slice_get shown at ≡ o → IfSome (option_and_then (action_in n) (option_map seen_local o)) (λ action. told ≡ is_register_free action)
          local None e = tt
          local (Some x) e =
              let both : Some told ≡ Some (register_free_local x) = sym (here at refl) ∙ ap (λ z. slice_get z at) are.told ∙ slice_get-map register_free_local locals at ∙ ap (option_map register_free_local) (take_got locals count at x e) in
              let is : told ≡ register_free_local x = cc in
              given n told (seen_local x) is
