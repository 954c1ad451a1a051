-- A sum over a box lies between its least and its greatest value, and each of these is reached.
use Rattle.std.proofs.Common.{◌≡◌, ℕ, ℤ, pos, ◌<◌, ◌+ℤ◌, ◌*ℤ◌, ◌≤ℤ◌, List, [], ◌∷◌, length, set, ◌⊎◌, inl, inr, All, int_lt, Bool, true, false, cond, arith, refl, sym, ap, ◌∙◌, subst, ⊎_elim}
use Rattle.std.proofs.lemmas.Int.{ints, by_lt_z}
use Rattle.std.proofs.lemmas.Bool.{cases_eq, cases_lt}
use Rattle.std.proofs.lemmas.List.{get_or-set_same, get_or-set_other, set_past, length-set}
use Rattle.std.proofs.lemmas.List.Elements.{All-head, All-tail}
use Rattle.int_program.specs.Sums.{at, sum_at}
use Rattle.int_program.specs.Boxes.{InBox, IsNonempty}
use Rattle.int_program.specs.Bounds.{least_term, most_term, least_of, most_of, IsReached}
use Rattle.int_program.specs.Limits.{IsRising}
use Rattle.int_program.specs.declared.program.Part.{Part}
use Rattle.int_program.specs.declared.program.IpBox.{IpBox}
use Rattle.int_program.proofs.SumLaws.{least_term_up, least_term_down, most_term_up, most_term_down}
use Rattle.int_program.proofs.OrderLaws.{mul_mono, mul_anti}

pub least_term_le : (by l h v : ℤ) → l ≤ℤ v → v ≤ℤ h → least_term by l h ≤ℤ (by *ℤ v)
least_term_le by l h v p q =
    by_lt_z by (pos 0)
    (λ n. rw (least_term_down by l h n) (mul_anti by v h n q))
    (λ n. rw (least_term_up by l h n) (mul_mono by l v n p))

pub most_term_ge : (by l h v : ℤ) → l ≤ℤ v → v ≤ℤ h → (by *ℤ v) ≤ℤ most_term by l h
most_term_ge by l h v p q =
    by_lt_z by (pos 0)
    (λ n. rw (most_term_down by l h n) (mul_anti by l v n p))
    (λ n. rw (most_term_up by l h n) (mul_mono by v h n q))

pub least_of_le : (ps : List Part) (b : IpBox) (x : List ℤ) → InBox x b → least_of ps b ≤ℤ sum_at ps x
least_of_le [] b x i = omega (arith, ints)
least_of_le (p ∷ ps) b x i =
    let here = least_term_le p.by (at b.low p.var) (at b.high p.var) (at x p.var) (i.ends p.var).0 (i.ends p.var).1 in
    let rest = least_of_le ps b x i in
    omega (arith, ints)

pub most_of_ge : (ps : List Part) (b : IpBox) (x : List ℤ) → InBox x b → sum_at ps x ≤ℤ most_of ps b
most_of_ge [] b x i = omega (arith, ints)
most_of_ge (p ∷ ps) b x i =
    let here = most_term_ge p.by (at b.low p.var) (at b.high p.var) (at x p.var) (i.ends p.var).0 (i.ends p.var).1 in
    let rest = most_of_ge ps b x i in
    omega (arith, ints)

-- a place after a write
pub at_set : (xs : List ℤ) (v : ℕ) (y : ℤ) (j : ℕ) → (at (set xs v y) j ≡ at xs j) ⊎ ((j ≡ v) × (at (set xs v y) j ≡ y))
at_set xs v y j =
    ⊎_elim
    (λ e. ⊎_elim (λ (l : v < length xs). inr (e, ap (λ k. at (set xs v y) k) e ∙ get_or-set_same xs v y (pos 0) l)) (λ g. inl (ap (λ q. at q j) (set_past xs v y g))) (cases_lt v (length xs)))
    (λ n. inl (get_or-set_other xs v j y (pos 0) n))
    (cases_eq j v)

-- the point with the high end where the coefficient is below 0, and the low end elsewhere
abbrev end_after : Bool → List ℤ → ℕ → ℤ → List ℤ
end_after t x v high = cond t (set x v high) x

abbrev end_point : List Part → IpBox → List ℤ
end_point [] b = b.low
end_point (p ∷ ps) b = end_after (int_lt p.by (pos 0)) (end_point ps b) p.var (at b.high p.var)

length-end_after : (t : Bool) (x : List ℤ) (v : ℕ) (high : ℤ) → length (end_after t x v high) ≡ length x
length-end_after true x v high = length-set x v high
length-end_after false x v high = refl

length-end_point : (ps : List Part) (b : IpBox) → length (end_point ps b) ≡ length b.low
length-end_point [] b = refl
length-end_point (p ∷ ps) b =
    length-end_after (int_lt p.by (pos 0)) (end_point ps b) p.var (at b.high p.var) ∙ length-end_point ps b

abbrev IsEnd : IpBox → ℕ → ℤ → Type 0
IsEnd b k z = (z ≡ at b.low k) ⊎ (z ≡ at b.high k)

end_set : (b : IpBox) (x : List ℤ) (v k : ℕ) → IsEnd b k (at x k) → (at (set x v (at b.high v)) k ≡ at x k) ⊎ ((k ≡ v) × (at (set x v (at b.high v)) k ≡ at b.high v)) → IsEnd b k (at (set x v (at b.high v)) k)
end_set b x v k (inl h) (inl e) = inl (e ∙ h)
end_set b x v k (inr h) (inl e) = inr (e ∙ h)
end_set b x v k h (inr e) = inr (e.1 ∙ ap (λ j. at b.high j) (sym e.0))

is_end_after : (t : Bool) (b : IpBox) (x : List ℤ) (v k : ℕ) → IsEnd b k (at x k) → IsEnd b k (at (end_after t x v (at b.high v)) k)
is_end_after true b x v k h = end_set b x v k h (at_set x v (at b.high v) k)
is_end_after false b x v k h = h

is_end : (ps : List Part) (b : IpBox) (k : ℕ) → IsEnd b k (at (end_point ps b) k)
is_end [] b k = inl refl
is_end (p ∷ ps) b k = is_end_after (int_lt p.by (pos 0)) b (end_point ps b) p.var k (is_end ps b k)

-- a write at a variable that no part names
sum_untouched : (ps : List Part) (x : List ℤ) (v : ℕ) (y : ℤ) → All (λ q. v < q.var) ps → sum_at ps (set x v y) ≡ sum_at ps x
sum_untouched [] x v y h = refl
sum_untouched (p ∷ ps) x v y h =
    let above : v < p.var = All-head (λ q. v < q.var) p ps h in
    let here = ap (λ t. p.by *ℤ t) (get_or-set_other x v p.var y (pos 0) (λ e. absurd (omega arith))) in
    let rest = sum_untouched ps x v y (All-tail (λ q. v < q.var) p ps h) in
    omega (arith, ints)

low_after : (t : Bool) (b : IpBox) (x : List ℤ) (v w : ℕ) → v < w → at x v ≡ at b.low v → at (end_after t x w (at b.high w)) v ≡ at b.low v
low_after true b x v w l h = get_or-set_other x w v (at b.high w) (pos 0) (λ e. absurd (omega arith)) ∙ h
low_after false b x v w l h = h

low_untouched : (ps : List Part) (b : IpBox) (v : ℕ) → All (λ q. v < q.var) ps → at (end_point ps b) v ≡ at b.low v
low_untouched [] b v h = refl
low_untouched (p ∷ ps) b v h =
    low_after (int_lt p.by (pos 0)) b (end_point ps b) v p.var (All-head (λ q. v < q.var) p ps h) (low_untouched ps b v (All-tail (λ q. v < q.var) p ps h))

worth_after : (t : Bool) (p : Part) (ps : List Part) (b : IpBox) (x : List ℤ) (rest : ℤ) → p.var < length x → All (λ q. p.var < q.var) ps → at x p.var ≡ at b.low p.var → sum_at ps x ≡ rest → p.by *ℤ at (end_after t x p.var (at b.high p.var)) p.var +ℤ sum_at ps (end_after t x p.var (at b.high p.var)) ≡ cond t (p.by *ℤ at b.high p.var) (p.by *ℤ at b.low p.var) +ℤ rest
worth_after true p ps b x rest l above low h =
    let here = ap (λ t. p.by *ℤ t) (get_or-set_same x p.var (at b.high p.var) (pos 0) l) in
    let others = sum_untouched ps x p.var (at b.high p.var) above in
    omega (arith, ints)
worth_after false p ps b x rest l above low h =
    let here = ap (λ t. p.by *ℤ t) low in
    omega (arith, ints)

pub end_worth : (ps : List Part) (b : IpBox) → IsRising ps → All (λ p. p.var < length b.low) ps → sum_at ps (end_point ps b) ≡ least_of ps b
end_worth [] b r h = refl
end_worth (p ∷ ps) b r h =
    let within : p.var < length b.low = All-head (λ q. q.var < length b.low) p ps h in
    worth_after (int_lt p.by (pos 0)) p ps b (end_point ps b) (least_of ps b) (omega (arith, length-end_point ps b)) r.0 (low_untouched ps b p.var r.0) (end_worth ps b r.1 (All-tail (λ q. q.var < length b.low) p ps h))

vars_low : (ps : List Part) (m n : ℕ) → m ≡ n → All (λ p. p.var < n) ps → All (λ p. p.var < m) ps
vars_low ps m n e h = subst (λ k. All (λ p. p.var < k) ps) (sym e) h

between : (l h z : ℤ) → l ≤ℤ h → (z ≡ l) ⊎ (z ≡ h) → (l ≤ℤ z) × (z ≤ℤ h)
between l h z m (inl e) = (omega (arith, ints), omega (arith, ints))
between l h z m (inr e) = (omega (arith, ints), omega (arith, ints))

pub least_reached : (ps : List Part) (b : IpBox) → IsNonempty b → IsRising ps → All (λ p. p.var < length b.high) ps → IsReached ps b (least_of ps b)
least_reached ps b n r h =
    record {
      point = end_point ps b;
      within = record { count = length-end_point ps b; ends = λ k. between (at b.low k) (at b.high k) (at (end_point ps b) k) (n.ends k) (is_end ps b k) };
      worth = end_worth ps b r (vars_low ps (length b.low) (length b.high) n.lengths h);
    }

-- the greatest value is the least one between the ends the other way round
abbrev turned : IpBox → IpBox
turned b = record { low = b.high; high = b.low }

most_turned : (ps : List Part) (b : IpBox) → least_of ps (turned b) ≡ most_of ps b
most_turned [] b = refl
most_turned (p ∷ ps) b = ap (λ z. most_term p.by (at b.low p.var) (at b.high p.var) +ℤ z) (most_turned ps b)

other_way : (l h z : ℤ) → (z ≡ h) ⊎ (z ≡ l) → (z ≡ l) ⊎ (z ≡ h)
other_way l h z (inl e) = inr e
other_way l h z (inr e) = inl e

pub most_reached : (ps : List Part) (b : IpBox) → IsNonempty b → IsRising ps → All (λ p. p.var < length b.high) ps → IsReached ps b (most_of ps b)
most_reached ps b n r h =
    let x = end_point ps (turned b) in
    record {
      point = x;
      within = record {
        count = length-end_point ps (turned b) ∙ sym n.lengths;
        ends = λ k. between (at b.low k) (at b.high k) (at x k) (n.ends k) (other_way (at b.low k) (at b.high k) (at x k) (is_end ps (turned b) k));
      };
      worth = end_worth ps (turned b) r h ∙ most_turned ps b;
    }
