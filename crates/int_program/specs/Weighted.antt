-- Sums of weighted rows, as exact numbers, and their least and greatest value over a box; this project's own.
use Rattle.std.specs.Prelude.{ℕ, zero, suc, ℤ, pos, ◌+ℤ◌, ◌-ℤ◌, ◌*ℤ◌, Bool, List, [], ◌∷◌, length, Option, Some, None, nat_lt, int_le, slice_get}
use Rattle.std.specs.List.{list_all}
use Rattle.int_program.specs.declared.program.Ip.{Ip}
use Rattle.int_program.specs.declared.program.IpBox.{IpBox}
use Rattle.int_program.specs.declared.program.Row.{Row}
use Rattle.int_program.specs.declared.program.Weight.{Weight}
use Rattle.int_program.specs.Sums.{at}
use Rattle.int_program.specs.Bounds.{least_term, most_term}
use Rattle.int_program.specs.Tightening.{factor}

-- whether each named row exists, and whether no weight is below 0
abbrev pub rows_there : Ip → List Weight → Bool
rows_there ip ws = list_all (λ w. nat_lt w.row (length ip.rows)) ws

abbrev pub none_negative : List Weight → Bool
none_negative ws = list_all (λ w. int_le (pos 0) w.by) ws

-- the weighted sum of a number that each row has; a row that doesn't exist has 0
abbrev pub number_of : (Row → ℤ) → Option Row → ℤ
number_of f None = pos 0
number_of f (Some row) = f row

abbrev pub weighted : (Row → ℤ) → List Row → List Weight → ℤ
weighted f rows [] = pos 0
weighted f rows (w ∷ ws) = w.by *ℤ number_of f (slice_get rows w.row) +ℤ weighted f rows ws

-- the weighted right sides, and a variable's weighted coefficients
abbrev pub right_side : Ip → List Weight → ℤ
right_side ip ws = weighted (λ row. row.most) ip.rows ws

abbrev pub rows_factor : Ip → List Weight → ℕ → ℤ
rows_factor ip ws v = weighted (λ row. factor row.parts v) ip.rows ws

-- a variable's coefficient in `over` times the objective less the weighted rows
abbrev pub rest_factor : Ip → ℤ → List Weight → ℕ → ℤ
rest_factor ip over ws v = over *ℤ factor ip.goal v -ℤ rows_factor ip ws v

-- the greatest and the least value over the box of the first n variables, each times its coefficient
abbrev pub form_most : (ℕ → ℤ) → IpBox → ℕ → ℤ
form_most c b zero = pos 0
form_most c b (suc n) = form_most c b n +ℤ most_term (c n) (at b.low n) (at b.high n)

abbrev pub form_least : (ℕ → ℤ) → IpBox → ℕ → ℤ
form_least c b zero = pos 0
form_least c b (suc n) = form_least c b n +ℤ least_term (c n) (at b.low n) (at b.high n)

-- the bound that the weighted rows give to `over` times the objective on the box
abbrev pub dual_bound : Ip → IpBox → ℤ → List Weight → ℤ
dual_bound ip b over ws = (right_side ip ws +ℤ form_most (rest_factor ip over ws) b (length ip.tops)) +ℤ over *ℤ ip.base

-- the least value of the weighted rows on the box
abbrev pub rows_least : Ip → IpBox → List Weight → ℤ
rows_least ip b ws = form_least (rows_factor ip ws) b (length ip.tops)
