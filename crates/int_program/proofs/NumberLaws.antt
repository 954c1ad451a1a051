-- The sums stop exactly where one of their numbers leaves 128 bits.
use Rattle.std.proofs.Common.{◌≡◌, ℕ, zero, suc, ℤ, pos, ◌+ℤ◌, ◌-ℤ◌, ◌*ℤ◌, Bool, true, false, cond, ◌&&◌, List, [], ◌∷◌, ◌++◌, length, Option, Some, None, int_lt, slice_get, arith, refl, sym, ap, ◌∙◌}
use Rattle.std.proofs.lemmas.Int.{ints}
use Rattle.std.proofs.lemmas.List.Folds.{list_all-append}
use Rattle.std.specs.List.{list_all}
use Rattle.std.specs.Option.{option_and_then}
use Rattle.int_program.specs.Sums.{at}
use Rattle.int_program.specs.Tightening.{factor}
use Rattle.int_program.specs.Weighted.{number_of, weighted, right_side, rows_factor, rest_factor, form_most, form_least, dual_bound, rows_least}
use Rattle.int_program.specs.Stopping.{fits, tried, tried_plus, tried_minus, tried_weighted, tried_right, tried_rest, tried_rows, tried_form, most_end, least_end, tried_dual, tried_far}
use Rattle.int_program.specs.Numbers.{sum_numbers, rest_numbers, form_numbers, rest_factor_numbers, rows_factor_numbers, dual_numbers, far_numbers, where_all_fit}
use Rattle.int_program.specs.declared.program.Ip.{Ip}
use Rattle.int_program.specs.declared.program.IpBox.{IpBox}
use Rattle.int_program.specs.declared.program.Row.{Row}
use Rattle.int_program.specs.declared.program.Weight.{Weight}

abbrev gate : {A : Type 0} → Bool → A → Option A
gate t z = cond t (Some z) None

-- a step after a gate
then_gate : {A B : Type 0} (t u : Bool) (z : A) (y : B) (g : A → Option B) → g z ≡ gate u y → option_and_then g (gate t z) ≡ gate (t && u) y
then_gate true u z y g h = h
then_gate false u z y g h = refl

-- a step after anything that is a gate
then_is_gate : {A B : Type 0} (o : Option A) (t u : Bool) (z : A) (y : B) (g : A → Option B) → o ≡ gate t z → g z ≡ gate u y → option_and_then g o ≡ gate (t && u) y
then_is_gate o t u z y g e h = ap (option_and_then g) e ∙ then_gate t u z y g h

and_last : (t u : Bool) → (t && u) ≡ (t && (u && true))
and_last true true = refl
and_last true false = refl
and_last false u = refl

and_more : (t u v : Bool) → ((t && u) && v) ≡ (t && (u && v))
and_more true u v = refl
and_more false u v = refl

plus_gate : (s a n : ℤ) → tried_plus s a n ≡ gate (fits (a *ℤ n) && fits (s +ℤ a *ℤ n)) (s +ℤ a *ℤ n)
plus_gate s a n = then_gate (fits (a *ℤ n)) (fits (s +ℤ a *ℤ n)) (a *ℤ n) (s +ℤ a *ℤ n) (λ (p : ℤ). tried (s +ℤ p)) refl

minus_gate : (s a n : ℤ) → tried_minus s a n ≡ gate (fits (a *ℤ n) && fits (s -ℤ a *ℤ n)) (s -ℤ a *ℤ n)
minus_gate s a n = then_gate (fits (a *ℤ n)) (fits (s -ℤ a *ℤ n)) (a *ℤ n) (s -ℤ a *ℤ n) (λ (p : ℤ). tried (s -ℤ p)) refl

sum_gate : (f : Row → ℤ) (rows : List Row) (ws : List Weight) (s : ℤ) → tried_weighted tried_plus f rows s ws ≡ where_all_fit (sum_numbers f rows s ws) (s +ℤ weighted f rows ws)
sum_gate f rows [] s = let same : s ≡ s +ℤ pos 0 = omega (arith, ints) in ap (λ (z : ℤ). Some z) same
sum_gate f rows (w ∷ ws) s =
    let n = number_of f (slice_get rows w.row) in
    let p = w.by *ℤ n in
    let rest = sum_numbers f rows (s +ℤ p) ws in
    let same : (s +ℤ p) +ℤ weighted f rows ws ≡ s +ℤ (p +ℤ weighted f rows ws) = omega (arith, ints) in
    then_is_gate (tried_plus s w.by n) (fits p && fits (s +ℤ p)) (list_all fits rest) (s +ℤ p) ((s +ℤ p) +ℤ weighted f rows ws) (λ (t : ℤ). tried_weighted tried_plus f rows t ws) (plus_gate s w.by n) (sum_gate f rows ws (s +ℤ p))
    ∙ ap (λ (t : Bool). gate t ((s +ℤ p) +ℤ weighted f rows ws)) (and_more (fits p) (fits (s +ℤ p)) (list_all fits rest))
    ∙ ap (λ (z : ℤ). gate (fits p && (fits (s +ℤ p) && list_all fits rest)) z) same

rest_gate : (f : Row → ℤ) (rows : List Row) (ws : List Weight) (s : ℤ) → tried_weighted tried_minus f rows s ws ≡ where_all_fit (rest_numbers f rows s ws) (s -ℤ weighted f rows ws)
rest_gate f rows [] s = let same : s ≡ s -ℤ pos 0 = omega (arith, ints) in ap (λ (z : ℤ). Some z) same
rest_gate f rows (w ∷ ws) s =
    let n = number_of f (slice_get rows w.row) in
    let p = w.by *ℤ n in
    let rest = rest_numbers f rows (s -ℤ p) ws in
    let same : (s -ℤ p) -ℤ weighted f rows ws ≡ s -ℤ (p +ℤ weighted f rows ws) = omega (arith, ints) in
    then_is_gate (tried_minus s w.by n) (fits p && fits (s -ℤ p)) (list_all fits rest) (s -ℤ p) ((s -ℤ p) -ℤ weighted f rows ws) (λ (t : ℤ). tried_weighted tried_minus f rows t ws) (minus_gate s w.by n) (rest_gate f rows ws (s -ℤ p))
    ∙ ap (λ (t : Bool). gate t ((s -ℤ p) -ℤ weighted f rows ws)) (and_more (fits p) (fits (s -ℤ p)) (list_all fits rest))
    ∙ ap (λ (z : ℤ). gate (fits p && (fits (s -ℤ p) && list_all fits rest)) z) same

right_gate : (ip : Ip) (ws : List Weight) → tried_right ip ws ≡ where_all_fit (sum_numbers (λ row. row.most) ip.rows (pos 0) ws) (right_side ip ws)
right_gate ip ws =
    let same : pos 0 +ℤ right_side ip ws ≡ right_side ip ws = omega (arith, ints) in
    sum_gate (λ row. row.most) ip.rows ws (pos 0) ∙ ap (λ (z : ℤ). where_all_fit (sum_numbers (λ row. row.most) ip.rows (pos 0) ws) z) same

rows_factor_gate : (ip : Ip) (ws : List Weight) (v : ℕ) → tried_rows ip ws v ≡ where_all_fit (rows_factor_numbers ip ws v) (rows_factor ip ws v)
rows_factor_gate ip ws v =
    let same : pos 0 +ℤ rows_factor ip ws v ≡ rows_factor ip ws v = omega (arith, ints) in
    sum_gate (λ row. factor row.parts v) ip.rows ws (pos 0) ∙ ap (λ (z : ℤ). where_all_fit (rows_factor_numbers ip ws v) z) same

rest_factor_gate : (ip : Ip) (over : ℤ) (ws : List Weight) (v : ℕ) → tried_rest ip over ws v ≡ where_all_fit (rest_factor_numbers ip over ws v) (rest_factor ip over ws v)
rest_factor_gate ip over ws v =
    let first = over *ℤ factor ip.goal v in
    then_gate (fits first) (list_all fits (rest_numbers (λ row. factor row.parts v) ip.rows first ws)) first (rest_factor ip over ws v) (λ (c : ℤ). tried_weighted tried_minus (λ row. factor row.parts v) ip.rows c ws) (rest_gate (λ row. factor row.parts v) ip.rows ws first)

-- a form's next variable
most_at_end : (t : Bool) (c l h : ℤ) → cond t (c *ℤ l) (c *ℤ h) ≡ c *ℤ cond t l h
most_at_end true c l h = refl
most_at_end false c l h = refl

form_most_step : (d : ℕ → ℤ) (b : IpBox) (n : ℕ) → form_most d b (suc n) ≡ form_most d b n +ℤ d n *ℤ most_end b (d n) n
form_most_step d b n = ap (λ (z : ℤ). form_most d b n +ℤ z) (most_at_end (int_lt (d n) (pos 0)) (d n) (at b.low n) (at b.high n))

form_least_step : (d : ℕ → ℤ) (b : IpBox) (n : ℕ) → form_least d b (suc n) ≡ form_least d b n +ℤ d n *ℤ least_end b (d n) n
form_least_step d b n = ap (λ (z : ℤ). form_least d b n +ℤ z) (most_at_end (int_lt (d n) (pos 0)) (d n) (at b.high n) (at b.low n))

-- the numbers of one variable behind those of the earlier ones
all_three : (xs ys : List ℤ) (p q : ℤ) → list_all fits (xs ++ (ys ++ (p ∷ q ∷ []))) ≡ (list_all fits xs && (list_all fits ys && (fits p && fits q)))
all_three xs ys p q =
    list_all-append fits xs (ys ++ (p ∷ q ∷ []))
    ∙ ap (λ (t : Bool). list_all fits xs && t) (list_all-append fits ys (p ∷ q ∷ []) ∙ ap (λ (t : Bool). list_all fits ys && t) (sym (and_last (fits p) (fits q))))

form_gate : (c : ℕ → Option ℤ) (d : ℕ → ℤ) (cs : ℕ → List ℤ) (end : ℤ → ℕ → ℤ) (F : ℕ → ℤ) → ((v : ℕ) → c v ≡ where_all_fit (cs v) (d v)) → ((n : ℕ) → F (suc n) ≡ F n +ℤ d n *ℤ end (d n) n) → (n : ℕ) → tried_form c end (F 0) n ≡ where_all_fit (form_numbers cs (λ v. d v *ℤ end (d v) v) F n) (F n)
form_gate c d cs end F known more zero = refl
form_gate c d cs end F known more (suc n) =
    let p = d n *ℤ end (d n) n in
    let before = form_numbers cs (λ v. d v *ℤ end (d v) v) F n in
    let last : tried_plus (F n) (d n) (end (d n) n) ≡ gate (fits p && fits (F (suc n))) (F (suc n)) =
    plus_gate (F n) (d n) (end (d n) n) ∙ ap (λ (z : ℤ). gate (fits p && fits z) z) (sym (more n)) in
    let here = then_is_gate (c n) (list_all fits (cs n)) (fits p && fits (F (suc n))) (d n) (F (suc n)) (λ (k : ℤ). tried_plus (F n) k (end k n)) (known n) last in
    then_is_gate (tried_form c end (F 0) n) (list_all fits before) (list_all fits (cs n) && (fits p && fits (F (suc n)))) (F n) (F (suc n)) (λ (s : ℤ). option_and_then (λ (k : ℤ). tried_plus s k (end k n)) (c n)) (form_gate c d cs end F known more n) here
    ∙ ap (λ (t : Bool). gate t (F (suc n))) (sym (all_three before (cs n) p (F (suc n))))

pub dual_gate : (ip : Ip) (b : IpBox) (over : ℤ) (ws : List Weight) → tried_dual ip b over ws ≡ where_all_fit (dual_numbers ip b over ws) (dual_bound ip b over ws)
dual_gate ip b over ws =
    let n = length ip.tops in
    let d = rest_factor ip over ws in
    let right = right_side ip ws in
    let F : ℕ → ℤ = λ m. right +ℤ form_most d b m in
    let step : (m : ℕ) → F (suc m) ≡ F m +ℤ d m *ℤ most_end b (d m) m = λ m. let e = form_most_step d b m in omega (arith, ints) in
    let start : right ≡ F 0 = omega (arith, ints) in
    let rights = sum_numbers (λ row. row.most) ip.rows (pos 0) ws in
    let forms = form_numbers (rest_factor_numbers ip over ws) (λ v. d v *ℤ most_end b (d v) v) F n in
    let bound = dual_bound ip b over ws in
    let form : tried_form (tried_rest ip over ws) (most_end b) right n ≡ where_all_fit forms (F n) =
    ap (λ (z : ℤ). tried_form (tried_rest ip over ws) (most_end b) z n) start ∙ form_gate (tried_rest ip over ws) d (rest_factor_numbers ip over ws) (most_end b) F (rest_factor_gate ip over ws) step n in
    let after = then_is_gate (tried_form (tried_rest ip over ws) (most_end b) right n) (list_all fits forms) (fits (over *ℤ ip.base) && fits bound) (F n) bound (λ (s : ℤ). tried_plus s over ip.base) form (plus_gate (F n) over ip.base) in
    then_is_gate (tried_right ip ws) (list_all fits rights) (list_all fits forms && (fits (over *ℤ ip.base) && fits bound)) right bound (λ (r : ℤ). option_and_then (λ (s : ℤ). tried_plus s over ip.base) (tried_form (tried_rest ip over ws) (most_end b) r n)) (right_gate ip ws) after
    ∙ ap (λ (t : Bool). gate t bound) (sym (all_three rights forms (over *ℤ ip.base) bound))

pub far_gate : (ip : Ip) (b : IpBox) (ws : List Weight) → tried_far ip b ws ≡ where_all_fit (far_numbers ip b ws) (right_side ip ws, rows_least ip b ws)
far_gate ip b ws =
    let n = length ip.tops in
    let d = rows_factor ip ws in
    let F : ℕ → ℤ = λ m. form_least d b m in
    let rights = sum_numbers (λ row. row.most) ip.rows (pos 0) ws in
    let forms = form_numbers (rows_factor_numbers ip ws) (λ v. d v *ℤ least_end b (d v) v) F n in
    let sums : ℤ × ℤ = (right_side ip ws, rows_least ip b ws) in
    let form = form_gate (tried_rows ip ws) d (rows_factor_numbers ip ws) (least_end b) F (rows_factor_gate ip ws) (form_least_step d b) n in
    let after = then_is_gate (tried_form (tried_rows ip ws) (least_end b) (pos 0) n) (list_all fits forms) true (F n) sums (λ (least : ℤ). Some (right_side ip ws, least)) form refl in
    then_is_gate (tried_right ip ws) (list_all fits rights) (list_all fits forms && true) (right_side ip ws) sums (λ (right : ℤ). option_and_then (λ (least : ℤ). Some (right, least)) (tried_form (tried_rows ip ws) (least_end b) (pos 0) n)) (right_gate ip ws) after
    ∙ ap (λ (t : Bool). gate t sums) (ap (λ (t : Bool). list_all fits rights && t) (and_true (list_all fits forms)) ∙ sym (list_all-append fits rights forms))
  where
    and_true : (t : Bool) → (t && true) ≡ t
    and_true true = refl
    and_true false = refl

-- a sum that doesn't stop is the exact one
gate_is : {A : Type 0} (t : Bool) (z r : A) → gate t z ≡ Some r → r ≡ z
gate_is true z r h = cc
gate_is false z r h = cc

pub dual_exact : (ip : Ip) (b : IpBox) (over : ℤ) (ws : List Weight) (bound : ℤ) → tried_dual ip b over ws ≡ Some bound → bound ≡ dual_bound ip b over ws
dual_exact ip b over ws bound e =
    gate_is (list_all fits (dual_numbers ip b over ws)) (dual_bound ip b over ws) bound (sym (dual_gate ip b over ws) ∙ e)

pub far_exact : (ip : Ip) (b : IpBox) (ws : List Weight) (sums : ℤ × ℤ) → tried_far ip b ws ≡ Some sums → (sums.0 ≡ right_side ip ws) × (sums.1 ≡ rows_least ip b ws)
far_exact ip b ws sums e =
    let exact : ℤ × ℤ = (right_side ip ws, rows_least ip b ws) in
    let same : sums ≡ exact = gate_is (list_all fits (far_numbers ip b ws)) exact sums (sym (far_gate ip b ws) ∙ e) in
    (ap (λ (p : ℤ × ℤ). p.0) same, ap (λ (p : ℤ × ℤ). p.1) same)
