-- Sizes that are all the same are those of a name where the first is.
use Rattle.std.proofs.Common.{◌≡◌, Bool, true, false, ◌&&◌, List, [], ◌∷◌, map, slice_get, Some, refl, sym, ap, ◌∙◌}
use Rattle.std.specs.List.{list_all}
use denote.Bor.{Bor}
use Rattle.elastic_ast.specs.Tree.{Name}
use Rattle.elastic_ast.specs.Typing.Scope.{same}
use Rattle.elastic_ast.proofs.Typing.SameNames.{same_self, same_told}
use Rattle.expr_types.specs.Agreeing.{name_now, all_one, are_one}

and_true : (b : Bool) → (b && true) ≡ b
and_true true = refl
and_true false = refl

and_false : (b : Bool) → (b && false) ≡ false
and_false true = refl
and_false false = refl

pub all_as_first : (name first : Name) (rest : List Name) → (all_one (first ∷ rest) && same name first) ≡ list_all (same name) (first ∷ rest)
all_as_first name first rest = by (same name first) refl
  where
    by : (b : Bool) → same name first ≡ b → (all_one (first ∷ rest) && b) ≡ (b && list_all (same name) rest)
    by true e =
        and_true (all_one (first ∷ rest)) ∙ ap (λ b. b && list_all (same first) rest) (same_self first) ∙ ap (λ n. list_all (same n) rest) (sym (same_told name first e))
    by false e = and_false (all_one (first ∷ rest))

-- by the first of them
pub as_first : (name : Name) (sizes : List (Bor Name)) (first : Bor Name) (agree : Bool) → Some first ≡ slice_get sizes 0 → agree ≡ are_one sizes → (agree && same name first.now) ≡ list_all (same name) (map name_now sizes)
as_first name [] first agree e one = cc
as_first name (size ∷ sizes) first agree e one =
    let here : first ≡ size = cc in
    ap (λ b. b && same name first.now) one ∙ ap (λ z. are_one (size ∷ sizes) && same name z.now) here ∙ all_as_first name size.now (map name_now sizes)
