-- In a program in its limits each row and the objective are small over each nonempty box inside the root box.
use Rattle.std.proofs.Common.{◌≡◌, ℕ, zero, suc, ℤ, pos, ◌<◌, ◌≤◌, ◌≤ℤ◌, List, [], ◌∷◌, length, get_or, map, max, unsigned_abs, All, ⊎_elim, arith, refl, sym, ◌∙◌, subst}
use Rattle.std.proofs.lemmas.Int.{ints}
use Rattle.std.proofs.lemmas.Bool.{cases_lt}
use Rattle.std.proofs.lemmas.List.{get_or_past, length-map}
use Rattle.std.proofs.Math.Nat.{mul-le-mul_left}
use Rattle.int_program.specs.Sums.{at}
use Rattle.int_program.specs.Boxes.{IsNonempty, IsFromZero, IsInside, root_of}
use Rattle.int_program.specs.Limits.{weight, AreSmall, IsInLimits}
use Rattle.int_program.specs.declared.program.Ip.{Ip}
use Rattle.int_program.specs.declared.program.IpBox.{IpBox}
use Rattle.int_program.specs.declared.program.Part.{Part}
use Rattle.int_program.proofs.SumLaws.{unsigned_abs-le}

-- smaller tops make the parts weigh no more
weight-le : (ps : List Part) (low high : List ℤ) → ((k : ℕ) → (pos 0 ≤ℤ at low k) × (at low k ≤ℤ at high k)) → weight ps low ≤ weight ps high
weight-le [] low high h = omega arith
weight-le (p ∷ ps) low high h =
    let rest = weight-le ps low high h in
    let here = unsigned_abs-le (at low p.var) (at high p.var) (h p.var).0 (h p.var).1 in
    let more : max (unsigned_abs (at low p.var)) 1 ≤ max (unsigned_abs (at high p.var)) 1 = omega arith in
    omega (arith, mul-le-mul_left (unsigned_abs p.by) more)

pub inside_nonempty : (ip : Ip) (b : IpBox) → IsInside ip b → IsNonempty b × IsFromZero b
inside_nonempty ip b o =
    (record { lengths = o.low_count ∙ sym o.high_count; ends = λ k. (o.ends k).1 }, record { low = λ k. (o.ends k).0 })

pub small_inside : (ip : Ip) (b : IpBox) (ps : List Part) (beside : ℤ) → IsInside ip b → AreSmall ps beside ip.tops → AreSmall ps beside b.high
small_inside ip b ps beside o s =
    record {
      vars = λ k d l. subst (λ n. (get_or ps k d).var < n) (sym o.high_count) (s.vars k d l);
      rising = s.rising;
      small = omega (arith, s.small, weight-le ps b.high ip.tops (λ k. (omega (arith, ints, (o.ends k).0, (o.ends k).1), (o.ends k).2)));
    }

pub goal_inside : (ip : Ip) (b : IpBox) → IsInLimits ip → IsInside ip b → AreSmall ip.goal (pos 0) b.high
goal_inside ip b limits o =
    let s = small_inside ip b ip.goal ip.base o limits.goal in
    record { vars = s.vars; rising = s.rising; small = omega (arith, s.small) }

pub rows_inside : (ip : Ip) (b : IpBox) → IsInLimits ip → IsInside ip b → All (λ row. AreSmall row.parts row.most b.high) ip.rows
rows_inside ip b limits o k d l =
    small_inside ip b (get_or ip.rows k d).parts (get_or ip.rows k d).most o (limits.rows k d l)

pub at_zeros : (xs : List ℤ) (k : ℕ) → at (map (λ _. pos 0) xs) k ≡ pos 0
at_zeros [] k = refl
at_zeros (x ∷ xs) zero = refl
at_zeros (x ∷ xs) (suc k) = at_zeros xs k

from_zero_at : (xs : List ℤ) (k : ℕ) → All (λ top. pos 0 ≤ℤ top) xs → pos 0 ≤ℤ at xs k
from_zero_at xs k h =
    ⊎_elim (λ l. h k (pos 0) l) (λ g. rw (get_or_past xs k (pos 0) g) (omega (arith, ints))) (cases_lt k (length xs))

pub root_inside : (ip : Ip) → IsInLimits ip → IsInside ip (root_of ip)
root_inside ip limits =
    record {
      low_count = length-map ip.tops (λ _. pos 0);
      high_count = refl;
      ends = λ k. rw (at_zeros ip.tops k) (omega (arith, ints), from_zero_at ip.tops k limits.tops, omega (arith, ints));
    }
