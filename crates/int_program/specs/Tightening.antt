-- What a row leaves to one variable of a box; this project's own.
use Rattle.std.specs.Prelude.{ℕ, ℤ, pos, ◌+ℤ◌, ◌-ℤ◌, neg_ℤ, ◌&&◌, not, List, [], ◌∷◌, filter, Option, Some, None, nat_eq, int_lt, int_le, if◌then◌else◌, ◌*ℤ◌, ◌≤ℤ◌, ◌<ℤ◌, ◌⊎◌, ◌↔◌}
use Rattle.std.specs.Int.{int_div_euclid}
use Rattle.int_program.specs.declared.program.IpBox.{IpBox}
use Rattle.int_program.specs.declared.program.Part.{Part}
use Rattle.int_program.specs.declared.program.Row.{Row}
use Rattle.int_program.specs.Sums.{at}
use Rattle.int_program.specs.Bounds.{least_of}

-- the coefficient of a variable in a list of parts
abbrev pub factor : List Part → ℕ → ℤ
factor [] v = pos 0
factor (p ∷ ps) v = (if nat_eq p.var v then p.by else pos 0) +ℤ factor ps v

-- the parts of the other variables
abbrev pub others : List Part → ℕ → List Part
others ps v = filter (λ p. not (nat_eq p.var v)) ps

-- what the row leaves to the variable's part: its right side less the least value of the other parts
abbrev pub left_over : Row → ℕ → IpBox → ℤ
left_over row v b = row.most -ℤ least_of (others row.parts v) b

-- z / a rounded down, for a above 0
abbrev pub floor : ℤ → ℤ → ℤ
floor z a = int_div_euclid z a

-- z / a rounded up, for a below 0
abbrev pub ceiling : ℤ → ℤ → ℤ
ceiling z a = neg_ℤ (int_div_euclid z (neg_ℤ a))

-- the ends, where the low one isn't above the high one and they aren't the old ones
abbrev pub shrunk : ℤ → ℤ → ℤ → ℤ → ℤ → Option (ℤ × ℤ)
shrunk a low high up down =
    if int_lt (pos 0) a
    then if int_le low down && int_lt down high then Some (low, down) else None
    else if int_lt a (pos 0) && (int_lt low up && int_le up high) then Some (up, high) else None

-- the variable's ends after the row: where its coefficient is above 0 the new high is rounded down, where it is below 0 the new
-- low is rounded up; none where the coefficient is 0, where the ends don't shrink, or where no number would be left
abbrev pub tight_ends : Row → ℕ → IpBox → Option (ℤ × ℤ)
tight_ends row v b =
    let a = factor row.parts v in
    shrunk a (at b.low v) (at b.high v) (ceiling (left_over row v b) a) (floor (left_over row v b) a)

-- a number of the variable with which the row can hold: its part, with coefficient a, is at most what is left over for it
abbrev pub CanHold : ℤ → ℤ → ℤ → Type 0
CanHold a rest z = (a *ℤ z) ≤ℤ rest

-- new ends within the old ones that leave fewer numbers between them, but some, and exactly those with which the row can hold
pub record IsNarrowed (a rest low high : ℤ) (ends : ℤ × ℤ) : Type 0 where
  pub within : (low ≤ℤ ends.0) × (ends.1 ≤ℤ high)
  pub smaller : (low <ℤ ends.0) ⊎ (ends.1 <ℤ high)
  pub some : ends.0 ≤ℤ ends.1
  pub exact : (z : ℤ) → low ≤ℤ z → z ≤ℤ high → CanHold a rest z ↔ ((ends.0 ≤ℤ z) × (z ≤ℤ ends.1))

-- new ends like these; or none, where the row can hold with each number between the old ends, or with none of them
abbrev pub IsTightened : ℤ → ℤ → ℤ → ℤ → Option (ℤ × ℤ) → Type 0
IsTightened a rest low high (Some ends) = IsNarrowed a rest low high ends
IsTightened a rest low high None =
    ((z : ℤ) → low ≤ℤ z → z ≤ℤ high → CanHold a rest z) ⊎ ((z : ℤ) → low ≤ℤ z → z ≤ℤ high → CanHold a rest z → ⊥)

-- the same of a row, a variable and a box
abbrev pub IsRowTightened : Row → ℕ → IpBox → Option (ℤ × ℤ) → Type 0
IsRowTightened row v b = IsTightened (factor row.parts v) (left_over row v b) (at b.low v) (at b.high v)
