-- The tightened ends hold exactly the numbers with which the row can hold.
use Rattle.std.proofs.Common.{◌≡◌, ℤ, pos, ◌*ℤ◌, ◌≤ℤ◌, ◌<ℤ◌, Bool, true, false, cond, ◌&&◌, inl, inr, int_lt, int_le, Option, Some, None, arith, refl, ap, ◌∙◌}
use Rattle.std.proofs.lemmas.Int.{ints, by_lt_z}
use Rattle.std.proofs.lemmas.Bool.{and_parts}
use Rattle.std.proofs.Math.IntN.{zero-*ℤ}
use Rattle.int_program.specs.Tightening.{floor, ceiling, shrunk, CanHold, IsTightened}
use Rattle.int_program.proofs.OrderLaws.{le_quotient, quotient_le, times_le_from, times_le_negative}
use Rattle.int_program.proofs.TightLaws.{ceiling_is}

le_yes : (a b : ℤ) → a ≤ℤ b → int_le a b ≡ true
le_yes a b h = grind (arith, ints)

lt_yes : (a b : ℤ) → a <ℤ b → int_lt a b ≡ true
lt_yes a b h = grind (arith, ints)

both : (s t : Bool) → s ≡ true → t ≡ true → (s && t) ≡ false → ⊥
both true t e f h = cc
both false t e f h = cc

-- a coefficient above 0, with its quotient d
narrow_high : (a rest low high d : ℤ) → ((z : ℤ) → CanHold a rest z → z ≤ℤ d) → ((z : ℤ) → z ≤ℤ d → CanHold a rest z) → (t : Bool) → (int_le low d && int_lt d high) ≡ t → IsTightened a rest low high (cond t (Some (low, d)) None)
narrow_high a rest low high d to from true e =
    let p = and_parts (int_le low d) (int_lt d high) e in
    record { within = (omega (arith, ints), omega (arith, ints)); smaller = inr (omega (arith, ints)); some = omega (arith, ints); exact = λ z l h. (λ k. (l, to z k), λ k. from z k.1) }
narrow_high a rest low high d to from false e =
    by_lt_z d low
    (λ l. inr (λ z m h k. let most = to z k in absurd (omega (arith, ints))))
    (λ g.
    by_lt_z d high
    (λ l. absurd (both (int_le low d) (int_lt d high) (le_yes low d g) (lt_yes d high l) e))
    (λ m. inl (λ z l h. from z (omega (arith, ints)))))

-- a coefficient below 0
narrow_low : (a rest low high u : ℤ) → ((z : ℤ) → CanHold a rest z → u ≤ℤ z) → ((z : ℤ) → u ≤ℤ z → CanHold a rest z) → (t : Bool) → (int_lt low u && int_le u high) ≡ t → IsTightened a rest low high (cond t (Some (u, high)) None)
narrow_low a rest low high u to from true e =
    let p = and_parts (int_lt low u) (int_le u high) e in
    record { within = (omega (arith, ints), omega (arith, ints)); smaller = inl (omega (arith, ints)); some = omega (arith, ints); exact = λ z l h. (λ k. (to z k, h), λ k. from z k.0) }
narrow_low a rest low high u to from false e =
    by_lt_z high u
    (λ l. inr (λ z m h k. let most = to z k in absurd (omega (arith, ints))))
    (λ g.
    by_lt_z low u
    (λ l. absurd (both (int_lt low u) (int_le u high) (lt_yes low u l) (le_yes u high g) e))
    (λ m. inl (λ z l h. from z (omega (arith, ints)))))

-- no coefficient
narrow_none : (a rest low high : ℤ) → a ≡ pos 0 → IsTightened a rest low high None
narrow_none a rest low high e =
    by_lt_z rest (pos 0)
    (λ l. inr (λ z m h k. let zero = ap (λ t. t *ℤ z) e ∙ zero-*ℤ z in absurd (omega (arith, ints))))
    (λ g. inl (λ z m h. let zero = ap (λ t. t *ℤ z) e ∙ zero-*ℤ z in omega (arith, ints)))

pub tightened : (a rest low high : ℤ) → low ≤ℤ high → IsTightened a rest low high (shrunk a low high (ceiling rest a) (floor rest a))
tightened a rest low high o = by (int_lt (pos 0) a) refl (int_lt a (pos 0)) refl
  where
    by : (t : Bool) → int_lt (pos 0) a ≡ t → (s : Bool) → int_lt a (pos 0) ≡ s → IsTightened a rest low high (cond t (cond {A = Option (ℤ × ℤ)} (int_le low (floor rest a) && int_lt (floor rest a) high) (Some (low, floor rest a)) None) (cond {A = Option (ℤ × ℤ)} (s && (int_lt low (ceiling rest a) && int_le (ceiling rest a) high)) (Some (ceiling rest a, high)) None))
    by true e s f =
        let above : pos 0 <ℤ a = omega (arith, ints) in
        narrow_high a rest low high (floor rest a) (λ z k. le_quotient rest a z above k) (λ z k. times_le_from rest a z above k) (int_le low (floor rest a) && int_lt (floor rest a) high) refl
    by false e true f =
        let below : a <ℤ pos 0 = omega (arith, ints) in
        let is = ceiling_is rest a below in
        narrow_low a rest low high (ceiling rest a) (λ z k. rw is (quotient_le rest a z below k)) (λ z k. times_le_negative rest a z below (rw is at k)) (int_lt low (ceiling rest a) && int_le (ceiling rest a) high) refl
    by false e false f = narrow_none a rest low high (omega (arith, ints))
