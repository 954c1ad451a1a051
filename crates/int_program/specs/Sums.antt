-- What a sum of parts is worth at a point; this project's own.
use Rattle.std.specs.Prelude.{ℕ, ℤ, pos, ◌+ℤ◌, ◌*ℤ◌, List, [], ◌∷◌, slice_index_or}
use Rattle.int_program.specs.declared.program.Part.{Part}

-- the number at a place, 0 where there is none
abbrev pub at : List ℤ → ℕ → ℤ
at xs k = slice_index_or xs k (pos 0)

-- the sum of the parts at a point
abbrev pub sum_at : List Part → List ℤ → ℤ
sum_at [] x = pos 0
sum_at (p ∷ ps) x = p.by *ℤ at x p.var +ℤ sum_at ps x
