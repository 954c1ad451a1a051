-- Weighted rows bound the objective on a box.
use Rattle.std.proofs.Common.{◌≡◌, ℕ, zero, suc, ℤ, pos, ◌*◌, ◌<◌, ◌≤◌, ◌+ℤ◌, ◌-ℤ◌, ◌*ℤ◌, ◌≤ℤ◌, true, cond, List, [], ◌∷◌, length, Option, Some, None, nat_eq, int_le, slice_get, arith, refl, sym, ap, ◌∙◌, ⊎_elim}
use Rattle.std.proofs.lemmas.Int.{ints}
use Rattle.std.proofs.lemmas.Bool.{cases_lt, and_parts, eq-eqb, ne_eqb}
use Rattle.std.proofs.lemmas.List.{get_or_past}
use Rattle.std.proofs.Math.IntN.{zero-*ℤ, *ℤ-zero}
use borrow.Author.Differences.{up, down, product_is}
use Rattle.int_program.specs.Sums.{at, sum_at}
use Rattle.int_program.specs.Boxes.{InBox}
use Rattle.int_program.specs.Tightening.{factor}
use Rattle.int_program.specs.Weighted.{number_of, weighted, form_most, form_least, rows_factor, rest_factor, right_side, dual_bound, rows_least, none_negative}
use Rattle.int_program.specs.Points.{Meets, value_of}
use Rattle.int_program.specs.declared.program.Ip.{Ip}
use Rattle.int_program.specs.declared.program.IpBox.{IpBox}
use Rattle.int_program.specs.declared.program.Row.{Row}
use Rattle.int_program.specs.declared.program.Part.{Part}
use Rattle.int_program.specs.declared.program.Weight.{Weight}
use Rattle.int_program.proofs.BoundLaws.{least_term_le, most_term_ge}
use Rattle.int_program.proofs.OrderLaws.{mul_mono, mul_add, add_mul}

pub mul_assoc : (a b c : ℤ) → (a *ℤ b) *ℤ c ≡ a *ℤ (b *ℤ c)
mul_assoc a b c =
    let p = product_is a b in
    let q = product_is b c in
    omega (arith, ints, ap (λ t. t * up c) p.0, ap (λ t. t * down c) p.0, ap (λ t. t * up c) p.1, ap (λ t. t * down c) p.1, ap (λ t. up a * t) q.0, ap (λ t. down a * t) q.0, ap (λ t. up a * t) q.1, ap (λ t. down a * t) q.1)

-- a form at the first n numbers of a point
abbrev pub form_at : (ℕ → ℤ) → List ℤ → ℕ → ℤ
form_at c x zero = pos 0
form_at c x (suc n) = form_at c x n +ℤ c n *ℤ at x n

form_at-add : (c d : ℕ → ℤ) (x : List ℤ) (n : ℕ) → form_at (λ v. c v +ℤ d v) x n ≡ form_at c x n +ℤ form_at d x n
form_at-add c d x zero = refl
form_at-add c d x (suc n) =
    let here = add_mul (c n) (d n) (at x n) in
    let rest = form_at-add c d x n in
    omega (arith, ints)

form_at-scale : (k : ℤ) (c : ℕ → ℤ) (x : List ℤ) (n : ℕ) → form_at (λ v. k *ℤ c v) x n ≡ k *ℤ form_at c x n
form_at-scale k c x zero = sym (*ℤ-zero k)
form_at-scale k c x (suc n) =
    let here = mul_assoc k (c n) (at x n) in
    let both = mul_add k (form_at c x n) (c n *ℤ at x n) in
    let rest = form_at-scale k c x n in
    omega (arith, ints)

form_at-sub : (c d : ℕ → ℤ) (x : List ℤ) (n : ℕ) → form_at (λ v. c v -ℤ d v) x n ≡ form_at c x n -ℤ form_at d x n
form_at-sub c d x zero = refl
form_at-sub c d x (suc n) =
    let here = add_mul (c n -ℤ d n) (d n) (at x n) in
    let back : (c n -ℤ d n) +ℤ d n ≡ c n = omega (arith, ints) in
    let same = ap (λ t. t *ℤ at x n) back in
    let rest = form_at-sub c d x n in
    omega (arith, ints)

form_at-zero : (x : List ℤ) (n : ℕ) → form_at (λ _. pos 0) x n ≡ pos 0
form_at-zero x zero = refl
form_at-zero x (suc n) = let here = zero-*ℤ (at x n) in let rest = form_at-zero x n in omega (arith, ints)

pub form_at-le : (c : ℕ → ℤ) (b : IpBox) (x : List ℤ) (n : ℕ) → InBox x b → form_at c x n ≤ℤ form_most c b n
form_at-le c b x zero i = omega (arith, ints)
form_at-le c b x (suc n) i =
    let here = most_term_ge (c n) (at b.low n) (at b.high n) (at x n) (i.ends n).0 (i.ends n).1 in
    let rest = form_at-le c b x n i in
    omega (arith, ints)

pub form_at-ge : (c : ℕ → ℤ) (b : IpBox) (x : List ℤ) (n : ℕ) → InBox x b → form_least c b n ≤ℤ form_at c x n
form_at-ge c b x zero i = omega (arith, ints)
form_at-ge c b x (suc n) i =
    let here = least_term_le (c n) (at b.low n) (at b.high n) (at x n) (i.ends n).0 (i.ends n).1 in
    let rest = form_at-ge c b x n i in
    omega (arith, ints)

-- one part as a form
abbrev pub single : ℕ → ℤ → ℕ → ℤ
single j k v = cond (nat_eq j v) k (pos 0)

single_off : (j : ℕ) (k : ℤ) (x : List ℤ) (n : ℕ) → (j ≡ n → ⊥) → single j k n *ℤ at x n ≡ pos 0
single_off j k x n ne = ap (λ t. cond t k (pos 0) *ℤ at x n) (ne_eqb j n ne) ∙ zero-*ℤ (at x n)

single_on : (j : ℕ) (k : ℤ) (x : List ℤ) (n : ℕ) → j ≡ n → single j k n *ℤ at x n ≡ k *ℤ at x j
single_on j k x n e = ap (λ t. cond t k (pos 0) *ℤ at x n) (eq-eqb j n e) ∙ ap (λ t. k *ℤ at x t) (sym e)

single_past : (j : ℕ) (k : ℤ) (x : List ℤ) (n : ℕ) → n ≤ j → form_at (single j k) x n ≡ pos 0
single_past j k x zero l = refl
single_past j k x (suc n) l =
    let before = single_past j k x n (omega arith) in
    let here = single_off j k x n (omega arith) in
    omega (arith, ints)

single_within : (j : ℕ) (k : ℤ) (x : List ℤ) (n : ℕ) → j < n → form_at (single j k) x n ≡ k *ℤ at x j
single_within j k x zero l = absurd (omega arith)
single_within j k x (suc n) l =
    ⊎_elim
    (λ (less : j < n). let before = single_within j k x n less in let here = single_off j k x n (omega arith) in omega (arith, ints))
    (λ (more : n ≤ j). let before = single_past j k x n more in let here = single_on j k x n (omega arith) in omega (arith, ints))
    (cases_lt j n)

-- the factors of the parts give the sum of the parts, where the point has no number past n
pub form_at-factor : (ps : List Part) (x : List ℤ) (n : ℕ) → length x ≡ n → form_at (factor ps) x n ≡ sum_at ps x
form_at-factor [] x n e = form_at-zero x n
form_at-factor (p ∷ ps) x n e =
    let split = form_at-add (single p.var p.by) (factor ps) x n in
    let rest = form_at-factor ps x n e in
    let here : form_at (single p.var p.by) x n ≡ p.by *ℤ at x p.var =
    ⊎_elim
    (λ l. single_within p.var p.by x n l)
    (λ (l : n ≤ p.var). single_past p.var p.by x n l ∙ sym (ap (λ t. p.by *ℤ t) (get_or_past x p.var (pos 0) (omega arith)) ∙ *ℤ-zero p.by))
    (cases_lt p.var n) in
    omega (arith, ints)

-- the same for a weighted sum of rows
one_row : (o : Option Row) (x : List ℤ) (n : ℕ) → length x ≡ n → form_at (λ v. number_of (λ row. factor row.parts v) o) x n ≡ number_of (λ row. sum_at row.parts x) o
one_row None x n e = form_at-zero x n
one_row (Some row) x n e = form_at-factor row.parts x n e

form_at-weighted : (rows : List Row) (ws : List Weight) (x : List ℤ) (n : ℕ) → length x ≡ n → form_at (λ v. weighted (λ row. factor row.parts v) rows ws) x n ≡ weighted (λ row. sum_at row.parts x) rows ws
form_at-weighted rows [] x n e = form_at-zero x n
form_at-weighted rows (w ∷ ws) x n e =
    let o = slice_get rows w.row in
    let split = form_at-add (λ v. w.by *ℤ number_of (λ row. factor row.parts v) o) (λ v. weighted (λ row. factor row.parts v) rows ws) x n in
    let scaled = form_at-scale w.by (λ v. number_of (λ row. factor row.parts v) o) x n in
    let one = ap (λ t. w.by *ℤ t) (one_row o x n e) in
    let rest = form_at-weighted rows ws x n e in
    omega (arith, ints)

one_met : (o : Option Row) (x : List ℤ) → ((row : Row) → o ≡ Some row → Meets x row) → number_of (λ row. sum_at row.parts x) o ≤ℤ number_of (λ row. row.most) o
one_met None x m = omega (arith, ints)
one_met (Some row) x m = m row refl

-- weights that are not negative keep what the rows say
weighted_met : (rows : List Row) (ws : List Weight) (x : List ℤ) → ((r : ℕ) (row : Row) → slice_get rows r ≡ Some row → Meets x row) → none_negative ws ≡ true → weighted (λ row. sum_at row.parts x) rows ws ≤ℤ weighted (λ row. row.most) rows ws
weighted_met rows [] x m h = omega (arith, ints)
weighted_met rows (w ∷ ws) x m h =
    let parts = and_parts (int_le (pos 0) w.by) (none_negative ws) h in
    let o = slice_get rows w.row in
    let one = mul_mono w.by (number_of (λ row. sum_at row.parts x) o) (number_of (λ row. row.most) o) (omega (arith, ints)) (one_met o x (m w.row)) in
    let rest = weighted_met rows ws x m parts.1 in
    omega (arith, ints)

abbrev pub EachMet : Ip → List ℤ → Type 0
EachMet ip x = (r : ℕ) (row : Row) → slice_get ip.rows r ≡ Some row → Meets x row

-- `over` times the value of a point is at most the bound
pub value_le_dual : (ip : Ip) (b : IpBox) (over : ℤ) (ws : List Weight) (x : List ℤ) → length x ≡ length ip.tops → EachMet ip x → none_negative ws ≡ true → InBox x b → (over *ℤ value_of ip x) ≤ℤ dual_bound ip b over ws
value_le_dual ip b over ws x e m h i =
    let n = length ip.tops in
    let met = weighted_met ip.rows ws x m h in
    let most = form_at-le (rest_factor ip over ws) b x n i in
    let split = form_at-sub (λ v. over *ℤ factor ip.goal v) (rows_factor ip ws) x n in
    let scaled = form_at-scale over (factor ip.goal) x n in
    let goal = ap (λ t. over *ℤ t) (form_at-factor ip.goal x n e) in
    let rows = form_at-weighted ip.rows ws x n e in
    let both = mul_add over (sum_at ip.goal x) ip.base in
    omega (arith, ints)

pub rows_ge_least : (ip : Ip) (b : IpBox) (ws : List Weight) (x : List ℤ) → length x ≡ length ip.tops → EachMet ip x → none_negative ws ≡ true → InBox x b → rows_least ip b ws ≤ℤ right_side ip ws
rows_ge_least ip b ws x e m h i =
    let n = length ip.tops in
    let met = weighted_met ip.rows ws x m h in
    let least = form_at-ge (rows_factor ip ws) b x n i in
    let rows = form_at-weighted ip.rows ws x n e in
    omega (arith, ints)
