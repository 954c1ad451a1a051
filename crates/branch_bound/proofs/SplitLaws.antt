-- Where a box can be split, and that a split which stands there is fair.
use Rattle.std.proofs.Common.{◌≡◌, ℕ, ℤ, pos, ◌<◌, ◌≤◌, ◌<ℤ◌, Bool, true, false, cond, ◌&&◌, List, length, Option, Some, None, nat_lt, int_lt, int_le, ⊎_elim, arith, refl, sym, ap, ◌∙◌, subst}
use Rattle.std.proofs.lemmas.Int.{ints, by_lt_z}
use Rattle.std.proofs.lemmas.Bool.{cases_lt, and_from}
use Rattle.std.proofs.lemmas.Bool.Decides.{nat_tests}
use Rattle.std.proofs.lemmas.List.{get_or_past}
use Rattle.int_program.specs.Sums.{at}
use Rattle.int_program.specs.Boxes.{IsInside}
use Rattle.int_program.specs.Points.{IsBetter}
use Rattle.int_program.specs.Accepts.{split_fault}
use Rattle.int_program.specs.Fair.{IsFairSplit}
use Rattle.int_program.specs.declared.program.Ip.{Ip}
use Rattle.int_program.specs.declared.program.IpBox.{IpBox}
use Rattle.int_program.specs.declared.program.Place.{Place}
use Rattle.int_program.specs.declared.program.Node.TheVariants.{Split}
use Rattle.int_program.specs.declared.program.Why.TheVariants as why
use Rattle.int_program.proofs.InsideLaws.{inside_nonempty}
use Rattle.int_program.proofs.CountLaws.{accepted_cut}
use Rattle.branch_bound.specs.Lines.{IsSingle, IsOpenPlace, IsSearchedThrough, IsDecided}
use Rattle.branch_bound.specs.declared.line.Line.TheVariants.{Done}
use Rattle.branch_bound.proofs.PointLaws.{single_closed}

both_hold : (t s : Bool) → t ≡ true → s ≡ true → cond t (cond s None (Some why.BadSplit)) (Some why.BadVar) ≡ None
both_hold true true e f = refl
both_hold true false e f = cc
both_hold false s e f = cc

lt_true : (v n : ℕ) → v < n → nat_lt v n ≡ true
lt_true v n h = grind (arith, nat_tests)

le_here : (z : ℤ) → int_le z z ≡ true
le_here z = grind (arith, ints)

below : (a b : ℤ) → a <ℤ b → int_lt a b ≡ true
below a b h = grind (arith, ints)

room : (n : ℕ) (b : IpBox) (v : ℕ) → v < n → at b.low v <ℤ at b.high v → split_fault n b v (at b.low v) ≡ None
room n b v l h =
    both_hold (nat_lt v n) (int_le (at b.low v) (at b.low v) && int_lt (at b.low v) (at b.high v)) (lt_true v n l) (and_from _ _ (le_here (at b.low v)) (below (at b.low v) (at b.high v) h))

-- a box that can be split nowhere at its lows has one point
pub single_from : (ip : Ip) (b : IpBox) (low : List ℤ) (i : ℕ) → low ≡ b.low → length low ≤ i → IsInside ip b → ((k : ℕ) → k < i → split_fault (length ip.tops) b k (at low k) ≡ None → ⊥) → IsSingle b
single_from ip b low i e l o h k =
    ⊎_elim
    (λ (in_box : k < length b.low).
    by_lt_z (at b.low k) (at b.high k)
    (λ less. absurd (h k (omega (arith, ap length e)) (subst (λ (xs : List ℤ). split_fault (length ip.tops) b k (at xs k) ≡ None) (sym e) (room (length ip.tops) b k (omega (arith, o.low_count)) less))))
    (λ more. omega (arith, ints, (o.ends k).1)))
    (λ (past : length b.low ≤ k). get_or_past b.high k (pos 0) (omega (arith, o.low_count, o.high_count)) ∙ sym (get_or_past b.low k (pos 0) past))
    (cases_lt k (length b.low))

-- an accepted split at a place that is searched through is fair
pub fair_there : (ip : Ip) (known : Option ℤ) (p : Place) (v : ℕ) (k : ℤ) → IsOpenPlace ip p → IsSearchedThrough ip known p → split_fault (length ip.tops) p.within v k ≡ None → IsFairSplit true p.above ip p.within v k
fair_there ip known p v k o s e =
    let n = inside_nonempty ip p.within o.inside in
    let cut = accepted_cut ip p.within v k (record { nonempty = n.0; count = o.inside.low_count }) e in
    record {
      nonempty = n.0;
      no_row = s.no_row;
      var = subst (λ m. v < m) o.inside.low_count cut.var;
      lower = cut.lower;
      upper = cut.upper;
      narrow = λ owed. s.narrow;
    }

-- no place that is searched through, and whose lowest point is no better one, has one point
pub not_single : (ip : Ip) (known : Option ℤ) (p : Place) → IsOpenPlace ip p → IsSearchedThrough ip known p → (IsBetter ip known p.within.low → ⊥) → IsSingle p.within → ⊥
not_single ip known p o s t single = s.no_goal (single_closed ip known p.within o.inside single s.no_row t)

pub split_decided : (ip : Ip) (known : Option ℤ) (may_split : Bool) (p : Place) (v : ℕ) (k : ℤ) → IsOpenPlace ip p → IsSearchedThrough ip known p → may_split ≡ true → split_fault (length ip.tops) p.within v k ≡ None → IsDecided ip known may_split p (Done (Split v k))
split_decided ip known may_split p v k o s m e =
    record { written = (e, fair_there ip known p v k o s e); split = λ _. m; left = λ h. cc }
