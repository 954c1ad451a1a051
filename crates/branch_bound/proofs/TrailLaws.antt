-- The open places after each step of the trail.
use Rattle.std.proofs.Common.{◌≡◌, ℕ, zero, suc, ℤ, pos, ◌+ℤ◌, ◌<◌, List, [], ◌∷◌, length, set, arith, refl, ap, ◌∙◌}
use Rattle.std.proofs.lemmas.List.{set-get_or}
use Rattle.int_program.specs.Sums.{at}
use Rattle.int_program.specs.Accepts.{lower_half, upper_half, with_ends}
use Rattle.int_program.specs.Places.{place}
use Rattle.int_program.specs.declared.program.IpBox.{IpBox}
use Rattle.branch_bound.specs.declared.open.Step.{Step}
use Rattle.branch_bound.specs.declared.open.Step.TheVariants.{Changed, Waits}
use Rattle.branch_bound.specs.Trail.{behind}

set_back : (xs : List ℤ) (v : ℕ) (x : ℤ) → v < length xs → set (set xs v x) v (at xs v) ≡ xs
set_back [] v x l = absurd (omega (arith, l))
set_back (y ∷ xs) zero x l = refl
set_back (y ∷ xs) (suc v) x l = ap (λ ys. y ∷ ys) (set_back xs v x (omega (arith, l)))

-- a box with other ends of a variable, and then its own again
ends_back : (b : IpBox) (v : ℕ) (ends : ℤ × ℤ) → v < length b.low → v < length b.high → with_ends (with_ends b v ends) v (at b.low v, at b.high v) ≡ b
ends_back b v ends l h = λ i. record { low = set_back b.low v ends.0 l i; high = set_back b.high v ends.1 h i }

pub change_behind : (within b : IpBox) (v : ℕ) (ends own : ℤ × ℤ) (before after : List Step) → v < length within.low → v < length within.high
    → b ≡ with_ends within v ends → own ≡ (at within.low v, at within.high v) → after ≡ Changed v own ∷ before → behind b after ≡ behind within before
change_behind within b v ends own before after l h is own_is after_is =
    ap (λ steps. behind b steps) after_is
    ∙ ap (λ (c : IpBox). behind (with_ends c v own) before) is
    ∙ ap (λ (e : ℤ × ℤ). behind (with_ends (with_ends within v ends) v e) before) own_is
    ∙ ap (λ (c : IpBox). behind c before) (ends_back within v ends l h)

lower_is : (b : IpBox) (v : ℕ) (k : ℤ) → with_ends b v (at b.low v, k) ≡ lower_half b v k
lower_is b v k = ap (λ low. record { low = low; high = set b.high v k }) (set-get_or b.low v (pos 0))

upper_is : (b : IpBox) (v : ℕ) (k : ℤ) → with_ends b v (k +ℤ pos 1, at b.high v) ≡ upper_half b v k
upper_is b v k = ap (λ high. record { low = set b.low v (k +ℤ pos 1); high = high }) (set-get_or b.high v (pos 0))

pub half_is : (within b : IpBox) (v : ℕ) (k : ℤ) (ends : ℤ × ℤ) → ends ≡ (at within.low v, k) → b ≡ with_ends within v ends → b ≡ lower_half within v k
half_is within b v k ends ends_are is = is ∙ ap (with_ends within v) ends_are ∙ lower_is within v k

pub half_waits : (within : IpBox) (v : ℕ) (k : ℤ) (ends : ℤ × ℤ) (before after : List Step) → ends ≡ (k +ℤ pos 1, at within.high v) → after ≡ Waits v ends ∷ before
    → behind within after ≡ place (upper_half within v k) 0 ∷ behind within before
half_waits within v k ends before after ends_are after_is =
    ap (behind within) after_is
    ∙ ap (λ (e : ℤ × ℤ). place (with_ends within v e) 0 ∷ behind within before) ends_are
    ∙ ap (λ (c : IpBox). place c 0 ∷ behind within before) (upper_is within v k)

-- the root box is the one open place
pub first : {b root : IpBox} {steps : List Step} → b ≡ root → steps ≡ [] → place b 0 ∷ behind b steps ≡ place root 0 ∷ []
first {b} {root} {steps} is none = ap (λ s. place b 0 ∷ behind b s) none ∙ ap (λ (c : IpBox). place c 0 ∷ []) is
