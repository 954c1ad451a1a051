-- One step through a list, and an option that is none.
use Rattle.std.proofs.Common.{◌≡◌, ℕ, ◌+◌, ◌<◌, Bool, false, List, ◌∷◌, drop, length, get_or, Option, Some, None, refl, sym, ap, ◌∙◌, is_some}
use Rattle.std.proofs.lemmas.List.{drop_more}

pub drop_step : {A : Type 0} (xs : List A) (i : ℕ) (x : A) → i < length xs → x ≡ get_or xs i x → drop i xs ≡ x ∷ drop (i + 1) xs
drop_step xs i x h e = drop_more xs i x h ∙ ap (λ z. z ∷ drop (i + 1) xs) (sym e)

pub one_none : {A : Type 0} (o : Option A) → is_some o ≡ false → o ≡ None
one_none None h = refl
one_none (Some x) h = cc
