-- Sums that grow by one term, by terms, and that turn their sign.
use Rattle.std.proofs.lemmas.Bool.{and_parts}
use Rattle.std.proofs.Common.{◌≡◌, ℕ, zero, suc, ◌+◌, ◌*◌, ◌^◌, ◌<◌, ◌≤◌, Bool, true, false, List, [], ◌∷◌, ◌++◌, map, length, drop, get_or, Some, None, refl, sym, ap, subst, ◌∙◌, arith, append_assoc, ℤ, pos, negsuc, ◌+ℤ◌, ◌-ℤ◌, ◌*ℤ◌, neg_ℤ}
use Rattle.std.specs.Prelude.{unsigned_abs, replicate}
use Rattle.std.specs.List.{list_all}
use Rattle.std.specs.Int.RustNames.{FitsSigned}
use Rattle.std.proofs.Math.Nat.{mul_comm}
use Rattle.std.proofs.Math.IntN.{*ℤ-zero, pos-*ℤ-pos, neg_ℤ-+ℤ}
use Rattle.std.proofs.lemmas.Int.{ints, to_z-of_z}
use Rattle.std.proofs.lemmas.List.{length-replicate}
use Rattle.std.proofs.lemmas.Bool.Decides.{nat_tests}
use mir.Val.{to_z, of_z}
use mir.Syntax.{w128}
use Rattle.elastic_ast.specs.declared.declarations.LinTerm.{LinTerm}
use Rattle.elastic_ast.specs.Tree.{Name}
use Rattle.elastic_ast.specs.Sizes.SizeSums.{negated_if, size_of, count_of, term_value, sum_value}
use Rattle.program_names.proofs.Items.{drop_step}
use Rattle.size_terms.specs.declared.sums.Sum.{Sum}
use Rattle.size_terms.specs.Rows.{dot, coefficient_weight}
use Rattle.size_terms.specs.Growth.{sum_worth, is_near, Grows, IsZero, Negates}
use Rattle.size_terms.proofs.SumLaws.{times_sum, fits_small}

-- signs
pub signed_sum : (minus : Bool) (a b : ℤ) → negated_if minus (a +ℤ b) ≡ negated_if minus a +ℤ negated_if minus b
signed_sum true a b = neg_ℤ-+ℤ a b
signed_sum false a b = refl

pub abs_neg : (z : ℤ) → unsigned_abs (neg_ℤ z) ≡ unsigned_abs z
abs_neg (pos zero) = refl
abs_neg (pos (suc n)) = refl
abs_neg (negsuc n) = refl

abs_signed : (minus : Bool) (z : ℤ) → unsigned_abs (negated_if minus z) ≡ unsigned_abs z
abs_signed true z = abs_neg z
abs_signed false z = refl

pub times_neg : (n : ℕ) (z : ℤ) → pos n *ℤ neg_ℤ z ≡ neg_ℤ (pos n *ℤ z)
times_neg n z =
    let e = times_sum n z (neg_ℤ z) in
    let f : pos n *ℤ (z +ℤ neg_ℤ z) ≡ pos n *ℤ pos 0 = ap (λ w. pos n *ℤ w) (nothing z) in
    let g : pos n *ℤ pos 0 ≡ pos 0 = *ℤ-zero (pos n) in
    omega (arith, ints, e, f, g)
  where
    nothing : (z : ℤ) → z +ℤ neg_ℤ z ≡ pos 0
    nothing z = omega (arith, ints)

times_signed : (minus : Bool) (n : ℕ) (z : ℤ) → pos n *ℤ negated_if minus z ≡ negated_if minus (pos n *ℤ z)
times_signed true n z = times_neg n z
times_signed false n z = refl

is_number : (minus other : Bool) (by count : ℕ) → pos count *ℤ negated_if minus (negated_if other (pos by)) ≡ negated_if minus (negated_if other (pos (by * count)))
is_number minus other by count =
    times_signed minus count (negated_if other (pos by)) ∙ ap (negated_if minus) (times_signed other count (pos by) ∙ ap (negated_if other) (pos-*ℤ-pos count by ∙ ap pos (mul_comm count by)))

near_by : (t : LinTerm) → is_near t ≡ true → t.by ≤ 1000000000
near_by t h = grind (arith, nat_tests)

-- a term with a symbol, and one without
pub grows_symbol : (symbols : List Name) (old new : Sum) (n : Name) (t : LinTerm) (minus : Bool) (number : ℤ) → number ≡ negated_if minus (negated_if t.minus (pos t.by)) → t.symbol ≡ Some n → is_near t ≡ true
    → Grows old new (λ sizes. pos (size_of symbols sizes n) *ℤ number) (unsigned_abs number) → Grows old new (λ sizes. negated_if minus (term_value symbols sizes t)) 1000000000
grows_symbol symbols old new n t minus number e s near g = record {
  worth = λ sizes.
      g.worth sizes ∙ ap (λ z. sum_worth old sizes +ℤ (pos (size_of symbols sizes n) *ℤ z)) e ∙ ap (λ z. sum_worth old sizes +ℤ z) (is_number minus t.minus t.by (size_of symbols sizes n))
      ∙ ap (λ o. sum_worth old sizes +ℤ negated_if minus (negated_if t.minus (pos (t.by * count_of symbols sizes o)))) (sym s);
  dense = g.dense;
  bulky =
      let a : unsigned_abs number ≡ t.by = ap unsigned_abs e ∙ abs_signed minus (negated_if t.minus (pos t.by)) ∙ abs_signed t.minus (pos t.by) in
      let b = near_by t near in
      omega (arith, a, b, g.bulky);
}

pub grows_number : (symbols : List Name) (old new : Sum) (t : LinTerm) (minus : Bool) (number : ℤ) → number ≡ negated_if minus (negated_if t.minus (pos t.by)) → t.symbol ≡ None → is_near t ≡ true
    → Grows old new (λ sizes. number) (unsigned_abs number) → Grows old new (λ sizes. negated_if minus (term_value symbols sizes t)) 1000000000
grows_number symbols old new t minus number e s near g = record {
  worth = λ sizes.
      g.worth sizes ∙ ap (λ z. sum_worth old sizes +ℤ z) (e ∙ ap (λ z. negated_if minus (negated_if t.minus (pos z))) (once t.by))
      ∙ ap (λ o. sum_worth old sizes +ℤ negated_if minus (negated_if t.minus (pos (t.by * count_of symbols sizes o)))) (sym s);
  dense = g.dense;
  bulky =
      let a : unsigned_abs number ≡ t.by = ap unsigned_abs e ∙ abs_signed minus (negated_if t.minus (pos t.by)) ∙ abs_signed t.minus (pos t.by) in
      let b = near_by t near in
      omega (arith, a, b, g.bulky);
}
  where
    once : (n : ℕ) → n ≡ n * 1
    once n = omega arith

-- one more term
pub worth_step : (symbols : List Name) (sum new : Sum) (terms : List LinTerm) (i : ℕ) (t : LinTerm) (minus : Bool) (sizes : List ℕ) (whole : ℤ) → i < length terms → t ≡ get_or terms i t
    → sum_worth new sizes ≡ sum_worth sum sizes +ℤ negated_if minus (term_value symbols sizes t) → sum_worth sum sizes +ℤ negated_if minus (sum_value symbols sizes (drop i terms)) ≡ whole
    → sum_worth new sizes +ℤ negated_if minus (sum_value symbols sizes (drop (i + 1) terms)) ≡ whole
worth_step symbols sum new terms i t minus sizes whole h e grown inv =
    let parts : negated_if minus (sum_value symbols sizes (drop i terms)) ≡ negated_if minus (term_value symbols sizes t) +ℤ negated_if minus (sum_value symbols sizes (drop (i + 1) terms)) =
    ap (λ z. negated_if minus (sum_value symbols sizes z)) (drop_step terms i t h e) ∙ signed_sum minus (term_value symbols sizes t) (sum_value symbols sizes (drop (i + 1) terms)) in
    omega (arith, ints, parts, grown, inv)

pub near_rest : (terms : List LinTerm) (i : ℕ) (t : LinTerm) → i < length terms → t ≡ get_or terms i t → list_all is_near (drop i terms) ≡ true → list_all is_near (drop (i + 1) terms) ≡ true
near_rest terms i t h e inv = (and_parts (is_near t) (list_all is_near (drop (i + 1) terms)) (ap (list_all is_near) (sym (drop_step terms i t h e)) ∙ inv)).1

-- the sum of nothing
dot_zeros : (n : ℕ) (zeros : List ℤ) (sizes : List ℕ) → zeros ≡ replicate n (pos 0) → dot zeros sizes ≡ pos 0
dot_zeros n zeros sizes e = ap (λ z. dot z sizes) e ∙ by n sizes
  where
    by : (n : ℕ) (sizes : List ℕ) → dot (replicate n (pos 0)) sizes ≡ pos 0
    by zero sizes = refl
    by (suc n) [] = refl
    by (suc n) (s ∷ sizes) = let u : pos s *ℤ pos 0 ≡ pos 0 = *ℤ-zero (pos s) in let ih = by n sizes in omega (arith, ints, u, ih)

weight_zeros : (n : ℕ) → coefficient_weight (replicate n (pos 0)) ≡ 0
weight_zeros zero = refl
weight_zeros (suc n) = let ih = weight_zeros n in omega (arith, ih)

pub zero_is : (sum : Sum) (n : ℕ) → sum.by.items ≡ replicate n (pos 0) → sum.constant ≡ pos 0 → IsZero sum n
zero_is sum n e k = record {
  worth = λ sizes. let u = dot_zeros n sum.by.items sizes e in omega (arith, ints, u, k);
  dense = ap length e ∙ length-replicate n (pos 0);
  bulky = let u : coefficient_weight sum.by.items ≡ 0 = ap coefficient_weight e ∙ weight_zeros n in let v : unsigned_abs sum.constant ≡ 0 = ap unsigned_abs k in omega (arith, u, v);
}

-- a sum with its sign turned
pub weight_neg : (by : List ℤ) → coefficient_weight (map neg_ℤ by) ≡ coefficient_weight by
weight_neg [] = refl
weight_neg (a ∷ by) = let e = abs_neg a in let ih = weight_neg by in omega (arith, e, ih)

pub negates_is : (sum other : Sum) → other.by.items ≡ map neg_ℤ sum.by.items → other.constant ≡ neg_ℤ sum.constant → Negates sum other
negates_is sum other e k = record {
  by = e;
  constant = k;
  bulky =
      let u : coefficient_weight other.by.items ≡ coefficient_weight sum.by.items = ap coefficient_weight e ∙ weight_neg sum.by.items in
      let v : unsigned_abs other.constant ≡ unsigned_abs sum.constant = ap unsigned_abs k ∙ abs_neg sum.constant in
      omega (arith, u, v);
}

pub neg_fits : (z : ℤ) → unsigned_abs z < 2 ^ 100 → FitsSigned w128 (neg_ℤ z)
neg_fits z h = let e = abs_neg z in fits_small (neg_ℤ z) (omega (arith, e))

pub neg_step : (done numbers : List ℤ) (i : ℕ) (x y : ℤ) → i < length numbers → x ≡ get_or numbers i x → y ≡ neg_ℤ x → done ++ map neg_ℤ (drop i numbers) ≡ map neg_ℤ numbers → (done ++ y ∷ []) ++ map neg_ℤ (drop (i + 1) numbers) ≡ map neg_ℤ numbers
neg_step done numbers i x y h e n inv =
    append_assoc done (y ∷ []) (map neg_ℤ (drop (i + 1) numbers)) ∙ ap (λ z. done ++ z ∷ map neg_ℤ (drop (i + 1) numbers)) n ∙ ap (λ z. done ++ map neg_ℤ z) (sym (drop_step numbers i x h e)) ∙ inv

-- a number as it is passed on
pub passed_on : (t : LinTerm) (minus : Bool) (r : ℤ) → r ≡ negated_if minus (negated_if t.minus (pos t.by)) → is_near t ≡ true → to_z w128 (of_z w128 r) ≡ negated_if minus (negated_if t.minus (pos t.by))
passed_on t minus r e near =
    let a : unsigned_abs r ≡ t.by = ap unsigned_abs e ∙ abs_signed minus (negated_if t.minus (pos t.by)) ∙ abs_signed t.minus (pos t.by) in
    let b = near_by t near in
    to_z-of_z w128 r (fits_small r (omega (arith, a, b))) ∙ e

-- a number with its sign turned, as it is computed
pub turned : (x : ℤ) → unsigned_abs x < 2 ^ 100 → pos 0 -ℤ to_z w128 (of_z w128 x) ≡ neg_ℤ x
turned x h = ap (λ z. pos 0 -ℤ z) (to_z-of_z w128 x (fits_small x h)) ∙ zero_less x
  where
    zero_less : (x : ℤ) → pos 0 -ℤ x ≡ neg_ℤ x
    zero_less x = omega (arith, ints)

pub turned_fits : (x : ℤ) → unsigned_abs x < 2 ^ 100 → FitsSigned w128 (pos 0 -ℤ to_z w128 (of_z w128 x))
turned_fits x h = subst (FitsSigned w128) (sym (turned x h)) (neg_fits x h)

pub turned_is : (x : ℤ) → unsigned_abs x < 2 ^ 100 → to_z w128 (of_z w128 (pos 0 -ℤ to_z w128 (of_z w128 x))) ≡ neg_ℤ x
turned_is x h = to_z-of_z w128 (pos 0 -ℤ to_z w128 (of_z w128 x)) (turned_fits x h) ∙ turned x h
