-- The boxes that an accepted node opens lie inside the root box.
use Rattle.std.proofs.Common.{◌≡◌, ℕ, ℤ, pos, ◌+ℤ◌, ◌≤ℤ◌, ◌<ℤ◌, Bool, true, false, cond, ◌&&◌, List, set, Option, Some, None, nat_lt, int_lt, int_le, ⊎_elim, arith, refl, sym, ◌∙◌, subst}
use Rattle.std.proofs.lemmas.Int.{ints}
use Rattle.std.proofs.lemmas.Bool.{and_parts}
use Rattle.std.proofs.lemmas.List.{length-set}
use Rattle.int_program.specs.Sums.{at}
use Rattle.int_program.specs.Boxes.{IsInside}
use Rattle.int_program.specs.Tightening.{factor, left_over, floor, ceiling, tight_ends}
use Rattle.int_program.specs.Accepts.{split_fault, lower_half, upper_half, with_ends, tight_child}
use Rattle.int_program.specs.declared.program.Ip.{Ip}
use Rattle.int_program.specs.declared.program.IpBox.{IpBox}
use Rattle.int_program.specs.declared.program.Row.{Row}
use Rattle.int_program.specs.declared.program.Why.TheVariants as why
use Rattle.int_program.proofs.BoundLaws.{at_set}
use Rattle.int_program.proofs.TreeLaws.{test_from_none}
use Rattle.int_program.proofs.CountLaws.{shrunk_between}

-- a write between the ends keeps what holds of each number
set_between : (xs : List ℤ) (v : ℕ) (y : ℤ) (P : ℤ → ℕ → Type 0) → ((j : ℕ) → P (at xs j) j) → P y v → (j : ℕ) → P (at (set xs v y) j) j
set_between xs v y P h k j =
    ⊎_elim (λ e. subst (λ z. P z j) (sym e) (h j)) (λ e. subst (λ z. P z j) (sym e.1) (subst (λ i. P y i) (sym e.0) k)) (at_set xs v y j)

abbrev Between : ℤ → ℤ → ℤ → Type 0
Between low high top = (pos 0 ≤ℤ low) × (low ≤ℤ high) × (high ≤ℤ top)

pub split_parts : (n : ℕ) (b : IpBox) (v : ℕ) (k : ℤ) → split_fault n b v k ≡ None → (at b.low v ≤ℤ k) × (k <ℤ at b.high v)
split_parts n b v k h = by (nat_lt v n) h
  where
    by : (t : Bool) → cond t (cond (int_le (at b.low v) k && int_lt k (at b.high v)) None (Some why.BadSplit)) (Some why.BadVar) ≡ None → (at b.low v ≤ℤ k) × (k <ℤ at b.high v)
    by true e =
        let t = and_parts (int_le (at b.low v) k) (int_lt k (at b.high v)) (test_from_none _ _ e) in
        (omega (arith, ints), omega (arith, ints))
    by false e = cc

pub lower_inside : (ip : Ip) (b : IpBox) (v : ℕ) (k : ℤ) → IsInside ip b → at b.low v ≤ℤ k → k <ℤ at b.high v → IsInside ip (lower_half b v k)
lower_inside ip b v k o p q =
    record {
      low_count = o.low_count;
      high_count = length-set b.high v k ∙ o.high_count;
      ends = set_between b.high v k (λ z j. Between (at b.low j) z (at ip.tops j)) o.ends (omega (arith, ints, (o.ends v).0, (o.ends v).1, (o.ends v).2), p, omega (arith, ints, (o.ends v).2));
    }

pub upper_inside : (ip : Ip) (b : IpBox) (v : ℕ) (k : ℤ) → IsInside ip b → at b.low v ≤ℤ k → k <ℤ at b.high v → IsInside ip (upper_half b v k)
upper_inside ip b v k o p q =
    record {
      low_count = length-set b.low v (k +ℤ pos 1) ∙ o.low_count;
      high_count = o.high_count;
      ends = set_between b.low v (k +ℤ pos 1) (λ z j. Between z (at b.high j) (at ip.tops j)) o.ends (omega (arith, ints, (o.ends v).0), omega (arith, ints), (o.ends v).2);
    }

ends_inside : (ip : Ip) (b : IpBox) (v : ℕ) (low high : ℤ) → IsInside ip b → (at b.low v ≤ℤ low) × (low ≤ℤ high) × (high ≤ℤ at b.high v) → IsInside ip (with_ends b v (low, high))
ends_inside ip b v low high o h =
    let first = set_between b.low v low (λ z j. Between z (at b.high j) (at ip.tops j)) o.ends (omega (arith, ints, (o.ends v).0), omega (arith, ints), (o.ends v).2) in
    let below : at (set b.low v low) v ≤ℤ high = ⊎_elim (λ e. rw e (omega (arith, ints))) (λ e. rw (e.1) h.1) (at_set b.low v low v) in
    record {
      low_count = length-set b.low v low ∙ o.low_count;
      high_count = length-set b.high v high ∙ o.high_count;
      ends = set_between b.high v high (λ z j. Between (at (set b.low v low) j) z (at ip.tops j)) first ((first v).0, below, omega (arith, ints, (o.ends v).2));
    }

by_ends : (ends : Option (ℤ × ℤ)) (ip : Ip) (row : Row) (v : ℕ) (b : IpBox) → IsInside ip b → tight_ends row v b ≡ ends → IsInside ip (elim ends [ Some e ↦ with_ends b v e | None ↦ b ])
by_ends None ip row v b o e = o
by_ends (Some (low, high)) ip row v b o e =
    let a = factor row.parts v in
    ends_inside ip b v low high o (shrunk_between a (at b.low v) (at b.high v) (ceiling (left_over row v b) a) (floor (left_over row v b) a) (low, high) (o.ends v).1 e)

pub tight_inside : (o : Option Row) (ip : Ip) (v : ℕ) (b : IpBox) → IsInside ip b → IsInside ip (tight_child b v o)
tight_inside None ip v b h = h
tight_inside (Some row) ip v b h = by_ends (tight_ends row v b) ip row v b h refl
