-- Lists that are read from the front.
use Rattle.std.proofs.Common.{◌≡◌, ℕ, zero, suc, ◌+◌, ◌<◌, ◌≤◌, List, [], ◌∷◌, ◌++◌, length, get_or, take, drop, arith, refl, ap, ◌∙◌}

drop_suc : {A : Type 0} (xs : List A) (k : ℕ) (d : A) → k < length xs → drop k xs ≡ get_or xs k d ∷ drop (suc k) xs
drop_suc [] k d l = absurd (omega (arith, l))
drop_suc (x ∷ xs) zero d l = refl
drop_suc (x ∷ xs) (suc k) d l = drop_suc xs k d (omega (arith, l))

pub drop_more : {A : Type 0} (xs : List A) (k : ℕ) (d : A) → k < length xs → drop k xs ≡ get_or xs k d ∷ drop (k + 1) xs
drop_more xs k d l =
    let next : suc k ≡ k + 1 = omega arith in
    drop_suc xs k d l ∙ ap (λ j. get_or xs k d ∷ drop j xs) next

pub drop_past : {A : Type 0} (xs : List A) (k : ℕ) → length xs ≤ k → drop k xs ≡ []
drop_past [] zero l = refl
drop_past [] (suc k) l = refl
drop_past (x ∷ xs) zero l = absurd (omega (arith, l))
drop_past (x ∷ xs) (suc k) l = drop_past xs k (omega (arith, l))

take_suc : {A : Type 0} (xs : List A) (k : ℕ) (d : A) → k < length xs → take (suc k) xs ≡ take k xs ++ get_or xs k d ∷ []
take_suc [] k d l = absurd (omega (arith, l))
take_suc (x ∷ xs) zero d l = refl
take_suc (x ∷ xs) (suc k) d l = ap (λ ys. x ∷ ys) (take_suc xs k d (omega (arith, l)))

pub take_more : {A : Type 0} (xs : List A) (k : ℕ) (d : A) → k < length xs → take (k + 1) xs ≡ take k xs ++ get_or xs k d ∷ []
take_more xs k d l =
    let next : k + 1 ≡ suc k = omega arith in
    ap (λ j. take j xs) next ∙ take_suc xs k d l

pub take_past : {A : Type 0} (xs : List A) (k : ℕ) → length xs ≤ k → take k xs ≡ xs
take_past [] zero l = refl
take_past [] (suc k) l = refl
take_past (x ∷ xs) zero l = absurd (omega (arith, l))
take_past (x ∷ xs) (suc k) l = ap (λ ys. x ∷ ys) (take_past xs k (omega (arith, l)))

pub length_take : {A : Type 0} (xs : List A) (k : ℕ) → k ≤ length xs → length (take k xs) ≡ k
length_take [] zero l = refl
length_take [] (suc k) l = absurd (omega (arith, l))
length_take (x ∷ xs) zero l = refl
length_take (x ∷ xs) (suc k) l = ap suc (length_take xs k (omega (arith, l)))
