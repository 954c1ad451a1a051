-- A row that holds leaves each variable inside its tightened ends.
use Rattle.std.proofs.Common.{◌≡◌, ℕ, ℤ, pos, ◌+ℤ◌, ◌*ℤ◌, ◌≤ℤ◌, ◌<ℤ◌, List, [], ◌∷◌, arith, nat_eq, true, false, Bool, not, cond, ap, refl, ◌&&◌, int_lt, int_le, Option, Some, None, subst}
use Rattle.std.proofs.lemmas.Int.{ints}
use Rattle.std.proofs.lemmas.Bool.{eqb-true}
use Rattle.std.proofs.lemmas.Option.{cond_some}
use Rattle.std.proofs.Math.IntN.{zero-*ℤ}
use Rattle.int_program.specs.Sums.{at, sum_at}
use Rattle.int_program.specs.Boxes.{InBox}
use Rattle.int_program.specs.Points.{Meets}
use Rattle.int_program.specs.Tightening.{factor, others, left_over, floor, ceiling, tight_ends}
use Rattle.int_program.specs.declared.program.Part.{Part}
use Rattle.int_program.specs.declared.program.IpBox.{IpBox}
use Rattle.int_program.specs.declared.program.Row.{Row}
use Rattle.int_program.proofs.BoundLaws.{least_of_le}
use Rattle.int_program.proofs.OrderLaws.{add_mul, le_quotient, quotient_le}
use Rattle.int_program.proofs.TightLaws.{ceiling_is}

-- a sum is a variable's part and the others
part_split : (t : Bool) (p : Part) (qs : List Part) (v : ℕ) (x : List ℤ) (f s : ℤ) → nat_eq p.var v ≡ t → s ≡ f *ℤ at x v +ℤ sum_at qs x → p.by *ℤ at x p.var +ℤ s ≡ (cond t p.by (pos 0) +ℤ f) *ℤ at x v +ℤ sum_at (cond (not t) (p ∷ qs) qs) x
part_split true p qs v x f s e h =
    let m = add_mul p.by f (at x v) in
    let same = ap (λ k. p.by *ℤ at x k) (eqb-true p.var v e) in
    omega (arith, ints)
part_split false p qs v x f s e h =
    let m = add_mul (pos 0) f (at x v) in
    let none = zero-*ℤ (at x v) in
    omega (arith, ints)

pub sum_at_split : (ps : List Part) (v : ℕ) (x : List ℤ) → sum_at ps x ≡ factor ps v *ℤ at x v +ℤ sum_at (others ps v) x
sum_at_split [] v x = let none = zero-*ℤ (at x v) in omega (arith, ints)
sum_at_split (p ∷ ps) v x =
    part_split (nat_eq p.var v) p (others ps v) v x (factor ps v) (sum_at ps x) refl (sum_at_split ps v x)

-- what a row leaves to a variable
pub le_floor : (row : Row) (v : ℕ) (b : IpBox) (x : List ℤ) → InBox x b → Meets x row → pos 0 <ℤ factor row.parts v → at x v ≤ℤ floor (left_over row v b) (factor row.parts v)
le_floor row v b x i m p =
    let low = least_of_le (others row.parts v) b x i in
    let split = sum_at_split row.parts v x in
    le_quotient (left_over row v b) (factor row.parts v) (at x v) p (omega (arith, ints))

pub ceiling_le : (row : Row) (v : ℕ) (b : IpBox) (x : List ℤ) → InBox x b → Meets x row → factor row.parts v <ℤ pos 0 → ceiling (left_over row v b) (factor row.parts v) ≤ℤ at x v
ceiling_le row v b x i m p =
    let low = least_of_le (others row.parts v) b x i in
    let split = sum_at_split row.parts v x in
    rw (ceiling_is (left_over row v b) (factor row.parts v) p) (quotient_le (left_over row v b) (factor row.parts v) (at x v) p (omega (arith, ints)))

-- a point stays inside the tightened ends
pub tight_keeps : (row : Row) (v : ℕ) (b : IpBox) (x : List ℤ) (ends : ℤ × ℤ) → InBox x b → Meets x row → tight_ends row v b ≡ Some ends → (ends.0 ≤ℤ at x v) × (at x v ≤ℤ ends.1)
tight_keeps row v b x ends i m = by (int_lt (pos 0) a) refl (int_lt a (pos 0)) refl
  where
    a : ℤ
    a = factor row.parts v

    up : ℤ
    up = ceiling (left_over row v b) a

    down : ℤ
    down = floor (left_over row v b) a

    low : ℤ
    low = at b.low v

    high : ℤ
    high = at b.high v

    by : (t : Bool) → int_lt (pos 0) a ≡ t → (s : Bool) → int_lt a (pos 0) ≡ s → cond t (cond {A = Option (ℤ × ℤ)} (int_le low down && int_lt down high) (Some (low, down)) None) (cond {A = Option (ℤ × ℤ)} (s && (int_lt low up && int_le up high)) (Some (up, high)) None) ≡ Some ends → (ends.0 ≤ℤ at x v) × (at x v ≤ℤ ends.1)
    by true e s f h =
        let same = (cond_some _ _ ends h).1 in
        subst (λ (w : ℤ × ℤ). (w.0 ≤ℤ at x v) × (at x v ≤ℤ w.1)) same ((i.ends v).0, le_floor row v b x i m (omega (arith, ints)))
    by false e true f h =
        let same = (cond_some _ _ ends h).1 in
        subst (λ (w : ℤ × ℤ). (w.0 ≤ℤ at x v) × (at x v ≤ℤ w.1)) same (ceiling_le row v b x i m (omega (arith, ints)), (i.ends v).1)
    by false e false f h = cc
