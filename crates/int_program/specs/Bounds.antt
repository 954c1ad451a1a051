-- The least and the greatest value of a sum of parts over a box; this project's own.
use Rattle.std.specs.Prelude.{◌≡◌, ℤ, pos, ◌+ℤ◌, ◌*ℤ◌, ◌≤ℤ◌, List, [], ◌∷◌, if◌then◌else◌, int_lt}
use Rattle.int_program.specs.declared.bounds.End.{End}
use Rattle.int_program.specs.declared.bounds.End.TheVariants as end
use Rattle.int_program.specs.declared.program.Part.{Part}
use Rattle.int_program.specs.declared.program.IpBox.{IpBox}
use Rattle.int_program.specs.Sums.{at, sum_at}
use Rattle.int_program.specs.Boxes.{InBox}

-- the least or the greatest value of a coefficient times a number from low to high
abbrev pub term_end : End → ℤ → ℤ → ℤ → ℤ
term_end end.Least by low high = if int_lt by (pos 0) then by *ℤ high else by *ℤ low
term_end end.Most by low high = if int_lt by (pos 0) then by *ℤ low else by *ℤ high

-- the same of one part over the box
abbrev pub part_end : End → Part → IpBox → ℤ
part_end which p b = term_end which p.by (at b.low p.var) (at b.high p.var)

-- the sum of these over the parts
abbrev pub sum_end : End → List Part → IpBox → ℤ
sum_end which [] b = pos 0
sum_end which (p ∷ ps) b = part_end which p b +ℤ sum_end which ps b

abbrev pub least_term : ℤ → ℤ → ℤ → ℤ
least_term = term_end end.Least

abbrev pub most_term : ℤ → ℤ → ℤ → ℤ
most_term = term_end end.Most

abbrev pub part_least : Part → IpBox → ℤ
part_least = part_end end.Least

abbrev pub part_most : Part → IpBox → ℤ
part_most = part_end end.Most

-- the least and the greatest value of the parts over the box
abbrev pub least_of : List Part → IpBox → ℤ
least_of = sum_end end.Least

abbrev pub most_of : List Part → IpBox → ℤ
most_of = sum_end end.Most

-- a point of the box at which the parts are worth the number
pub record IsReached (ps : List Part) (b : IpBox) (value : ℤ) : Type 0 where
  pub point : List ℤ
  pub within : InBox point b
  pub worth : sum_at ps point ≡ value

-- no point of the box is worth less, and none is worth more
abbrev pub NoneBelow : List Part → IpBox → ℤ → Type 0
NoneBelow ps b value = (x : List ℤ) → InBox x b → value ≤ℤ sum_at ps x

abbrev pub NoneAbove : List Part → IpBox → ℤ → Type 0
NoneAbove ps b value = (x : List ℤ) → InBox x b → sum_at ps x ≤ℤ value
