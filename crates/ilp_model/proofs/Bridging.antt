-- Named rows by the numbers of their variables are the written ones.
use Rattle.std.proofs.Common.{◌≡◌, ℕ, ℤ, zero, suc, pos, neg_ℤ, ◌+◌, ◌-◌, ◌≤◌, ◌<◌, Bool, true, false, cond, not, List, [], ◌∷◌, ◌++◌, map, filter, refl, ap, ap₂, ◌∙◌, arith}
use Rattle.std.specs.Prelude.{nat_le, flat_map}
use Rattle.std.specs.Ordering.{int_eq}
use Rattle.std.specs.List.{AllByRecursion}
use Rattle.std.proofs.lemmas.Bool.Decides.{nat_tests}
use Rattle.std.proofs.lemmas.List.{map-append, append-nil}
use Rattle.std.proofs.lemmas.List.Elements.{filter-append}
use Rattle.elastic_ast.specs.Meaning.Values.{bit}
use Rattle.elastic_ast.specs.Units.Instances.{each_turn}
use Rattle.int_program.specs.declared.program.Part.{Part}
use Rattle.int_program.specs.declared.program.Row.{Row}
use Rattle.unroll_bound.specs.Counts.{numbers_below}
use Rattle.ilp_model.specs.Variables.{Variable}
use Rattle.ilp_model.specs.NamedRows.{NamedPart, NamedRow, part, row, plus, minus, once}
use Rattle.ilp_model.specs.IpOf.{has_coefficient, part_of, parts_of, row_of}
use Rattle.ilp_model.specs.Written.{written, written_run, written_sizes, written_row}
use Rattle.ilp_model.specs.Rows.{size_parts}
use Rattle.ilp_model.proofs.Places.{flat_map-append}

-- lists of turns
pub turns_same : {A : Type 0} (f g : ℕ → List A) (n : ℕ) → ((t : ℕ) → t < n → f t ≡ g t) → each_turn n f ≡ each_turn n g
turns_same f g zero h = refl
turns_same f g (suc n) h = ap₂ (λ xs ys. xs ++ ys) (turns_same f g n (λ t l. h t (omega (arith, l)))) (h n (omega arith))

pub flat_map_numbers : {A : Type 0} (f : ℕ → List A) (n : ℕ) → flat_map f (numbers_below n) ≡ each_turn n f
flat_map_numbers f zero = refl
flat_map_numbers f (suc n) =
    flat_map-append f (numbers_below n) (n ∷ [])
    ∙ ap₂ (λ xs ys. xs ++ ys) (flat_map_numbers f n) (append-nil (f n))

pub map_turns : {A B : Type 0} (f : A → B) (g : ℕ → List A) (n : ℕ) → map f (each_turn n g) ≡ each_turn n (λ t. map f (g t))
map_turns f g zero = refl
map_turns f g (suc n) = map-append f (each_turn n g) (g n) ∙ ap (λ xs. xs ++ map f (g n)) (map_turns f g n)

pub map_numbers : {A : Type 0} (f : ℕ → A) (n : ℕ) → map f (numbers_below n) ≡ each_turn n (λ t. f t ∷ [])
map_numbers f n = map_turns f (λ t. t ∷ []) n

pub map_flat_map : {A B C : Type 0} (f : B → C) (g : A → List B) (xs : List A) → map f (flat_map g xs) ≡ flat_map (λ x. map f (g x)) xs
map_flat_map f g [] = refl
map_flat_map f g (x ∷ xs) = map-append f (g x) (flat_map g xs) ∙ ap (λ ys. map f (g x) ++ ys) (map_flat_map f g xs)

pub flat_map_map : {A B C : Type 0} (f : B → List C) (g : A → B) (xs : List A) → flat_map f (map g xs) ≡ flat_map (λ x. f (g x)) xs
flat_map_map f g [] = refl
flat_map_map f g (x ∷ xs) = ap (λ ys. f (g x) ++ ys) (flat_map_map f g xs)

pub flat_map_same : {A B : Type 0} (f g : A → List B) (xs : List A) → AllByRecursion (λ x. f x ≡ g x) xs → flat_map f xs ≡ flat_map g xs
flat_map_same f g [] h = refl
flat_map_same f g (x ∷ xs) h = ap₂ (λ ys zs. ys ++ zs) h.0 (flat_map_same f g xs h.1)

module _ (num : Variable → ℕ) where
  -- parts by number
  pub parts_append : (xs ys : List NamedPart) → parts_of num (xs ++ ys) ≡ parts_of num xs ++ parts_of num ys
  parts_append xs ys = ap (map (part_of num)) (filter-append has_coefficient xs ys) ∙ map-append (part_of num) (filter has_coefficient xs) (filter has_coefficient ys)

  pub one_part : (by : ℤ) (v : Variable) → parts_of num (part by v ∷ []) ≡ written (num v) by
  one_part by v = go (int_eq by (pos 0))
    where
      go : (t : Bool) → map (part_of num) (cond (not t) (part by v ∷ []) []) ≡ cond t [] (record { var = num v; by = by } ∷ [])
      go true = refl
      go false = refl

  pub first_part : (by : ℤ) (v : Variable) (ps : List NamedPart) → parts_of num (part by v ∷ ps) ≡ written (num v) by ++ parts_of num ps
  first_part by v ps = parts_append (part by v ∷ []) ps ∙ ap (λ xs. xs ++ parts_of num ps) (one_part by v)

  -- parts one for each of a list
  pub listed_parts : {A : Type 0} (by : A → ℤ) (name : A → Variable) (xs : List A) → parts_of num (map (λ x. part (by x) (name x)) xs) ≡ flat_map (λ x. written (num (name x)) (by x)) xs
  listed_parts by name [] = refl
  listed_parts by name (x ∷ xs) = first_part (by x) (name x) (map (λ x. part (by x) (name x)) xs) ∙ ap (λ ys. written (num (name x)) (by x) ++ ys) (listed_parts by name xs)

  -- parts of rising numbers, where the first has one
  pub numbered_parts : (by : ℕ → ℤ) (name : ℕ → Variable) (first n : ℕ) → ((t : ℕ) → num (name t) ≡ first + t)
      → parts_of num (map (λ t. part (by t) (name t)) (numbers_below n)) ≡ each_turn n (λ t. written (first + t) (by t))
  numbered_parts by name first n h =
      listed_parts by name (numbers_below n)
      ∙ flat_map_numbers (λ t. written (num (name t)) (by t)) n
      ∙ turns_same (λ t. written (num (name t)) (by t)) (λ t. written (first + t) (by t)) n (λ t l. ap (λ v. written v (by t)) (h t))

  pub run_plus : (name : ℕ → Variable) (first n : ℕ) → ((t : ℕ) → num (name t) ≡ first + t) → parts_of num (plus once name (numbers_below n)) ≡ written_run first n (pos 1)
  run_plus name first n h = numbered_parts (λ t. pos 1) name first n h

  pub run_minus : (name : ℕ → Variable) (first n : ℕ) → ((t : ℕ) → num (name t) ≡ first + t) → parts_of num (minus once name (numbers_below n)) ≡ written_run first n (neg_ℤ (pos 1))
  run_minus name first n h = numbered_parts (λ t. neg_ℤ (pos 1)) name first n h

  pub sizes_parts : (by : List ℤ) (s : ℕ) → ((s : ℕ) → num (Variable.Size s) ≡ s) → parts_of num (size_parts s by) ≡ written_sizes s by
  sizes_parts [] s h = refl
  sizes_parts (a ∷ by) s h =
      first_part a (Variable.Size s) (size_parts (s + 1) by)
      ∙ ap₂ (λ v ys. written v a ++ ys) (h s) (sizes_parts by (s + 1) h)

  -- a row by number
  pub row_is : (ps : List NamedPart) (most : ℤ) (written_parts : List Part) → parts_of num ps ≡ written_parts → row_of num (row ps most) ≡ written_row written_parts most
  row_is ps most written_parts h = ap (λ xs. written_row xs most) h

  -- rows of each of a list
  pub each_row : {A : Type 0} (f : A → List NamedRow) (g : A → List Row) (xs : List A) → AllByRecursion (λ x. map (row_of num) (f x) ≡ g x) xs
      → map (row_of num) (flat_map f xs) ≡ flat_map g xs
  each_row f g xs h = map_flat_map (row_of num) f xs ∙ flat_map_same (λ x. map (row_of num) (f x)) g xs h

-- parts whose coefficient is 1 from a number on, and 0 below
pub run_from : (first from n : ℕ) → each_turn n (λ t. written (first + t) (pos (bit (nat_le from t)))) ≡ written_run (first + from) (n - from) (pos 1)
run_from first from zero = let e : 0 ≡ 0 - from = omega arith in ap (λ k. written_run (first + from) k (pos 1)) e
run_from first from (suc n) = go (nat_le from n) refl (run_from first from n)
  where
    below : nat_le from n ≡ true → from ≤ n
    below e = grind (arith, nat_tests, e)

    above : nat_le from n ≡ false → n < from
    above e = grind (arith, nat_tests, e)

    go : (t : Bool) → nat_le from n ≡ t → each_turn n (λ t. written (first + t) (pos (bit (nat_le from t)))) ≡ written_run (first + from) (n - from) (pos 1)
        → each_turn n (λ t. written (first + t) (pos (bit (nat_le from t)))) ++ written (first + n) (pos (bit t)) ≡ written_run (first + from) (suc n - from) (pos 1)
    go true e ih =
        let l = below e in
        let here : first + n ≡ first + from + (n - from) = omega (arith, l) in
        let count : suc (n - from) ≡ suc n - from = omega (arith, l) in
        ap₂ (λ xs v. xs ++ written v (pos 1)) ih here ∙ ap (λ k. written_run (first + from) k (pos 1)) count
    go false e ih =
        let l = above e in
        let count : n - from ≡ suc n - from = omega (arith, l) in
        append-nil (each_turn n (λ t. written (first + t) (pos (bit (nat_le from t))))) ∙ ih ∙ ap (λ k. written_run (first + from) k (pos 1)) count

-- parts whose coefficient is 1 up to a number, and 0 above
pub run_to : (first to n : ℕ) → to < n → each_turn n (λ t. written (first + t) (pos (bit (nat_le t to)))) ≡ written_run first (to + 1) (pos 1)
run_to first to zero h = absurd (omega (arith, h))
run_to first to (suc n) h = go (nat_le n to) refl (λ l. run_to first to n l)
  where
    parts : ℕ → List Part
    parts t = written (first + t) (pos (bit (nat_le t to)))

    test : (t : ℕ) → t ≤ to → nat_le t to ≡ true
    test t l = grind (arith, nat_tests, l)

    go : (t : Bool) → nat_le n to ≡ t → (to < n → each_turn n parts ≡ written_run first (to + 1) (pos 1)) → each_turn n parts ++ written (first + n) (pos (bit t)) ≡ written_run first (to + 1) (pos 1)
    go true e ih =
        let l : n ≤ to = grind (arith, nat_tests, e) in
        let count : suc n ≡ to + 1 = omega (arith, l, h) in
        ap (λ xs. xs ++ written (first + n) (pos 1)) (turns_same parts (λ t. written (first + t) (pos 1)) n (λ t k. ap (λ b. written (first + t) (pos (bit b))) (test t (omega (arith, k, l)))))
        ∙ ap (λ k. written_run first k (pos 1)) count
    go false e ih =
        let l : to < n = grind (arith, nat_tests, e) in
        append-nil (each_turn n parts) ∙ ih l
