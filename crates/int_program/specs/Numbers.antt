-- The numbers that the sums of weighted rows are made of, as exact numbers in the order in which they are taken; this project's own.
use Rattle.std.specs.Prelude.{ℕ, zero, suc, ℤ, pos, ◌+ℤ◌, ◌-ℤ◌, ◌*ℤ◌, List, [], ◌∷◌, ◌++◌, length, Option, Some, None, slice_get, if◌then◌else◌}
use Rattle.std.specs.List.{list_all}
use Rattle.int_program.specs.declared.program.Ip.{Ip}
use Rattle.int_program.specs.declared.program.IpBox.{IpBox}
use Rattle.int_program.specs.declared.program.Row.{Row}
use Rattle.int_program.specs.declared.program.Weight.{Weight}
use Rattle.int_program.specs.Tightening.{factor}
use Rattle.int_program.specs.Weighted.{number_of, right_side, rows_factor, rest_factor, form_most, form_least, dual_bound}
use Rattle.int_program.specs.Stopping.{fits, most_end, least_end}

-- for each weight in the written order its product, and the sum after it
abbrev pub sum_numbers : (Row → ℤ) → List Row → ℤ → List Weight → List ℤ
sum_numbers f rows sum [] = []
sum_numbers f rows sum (w ∷ ws) =
    let product = w.by *ℤ number_of f (slice_get rows w.row) in
    product ∷ ((sum +ℤ product) ∷ sum_numbers f rows (sum +ℤ product) ws)

-- the same where each product is taken away
abbrev pub rest_numbers : (Row → ℤ) → List Row → ℤ → List Weight → List ℤ
rest_numbers f rows sum [] = []
rest_numbers f rows sum (w ∷ ws) =
    let product = w.by *ℤ number_of f (slice_get rows w.row) in
    product ∷ ((sum -ℤ product) ∷ rest_numbers f rows (sum -ℤ product) ws)

-- for each of the first n variables the numbers of its coefficient, then the coefficient times the end, and the sum after it
abbrev pub form_numbers : (ℕ → List ℤ) → (ℕ → ℤ) → (ℕ → ℤ) → ℕ → List ℤ
form_numbers coefficient product sum zero = []
form_numbers coefficient product sum (suc n) =
    form_numbers coefficient product sum n ++ (coefficient n ++ (product n ∷ sum (suc n) ∷ []))

-- the numbers of a variable's coefficient
abbrev pub rest_factor_numbers : Ip → ℤ → List Weight → ℕ → List ℤ
rest_factor_numbers ip over ws v =
    let first = over *ℤ factor ip.goal v in
    first ∷ rest_numbers (λ row. factor row.parts v) ip.rows first ws

abbrev pub rows_factor_numbers : Ip → List Weight → ℕ → List ℤ
rows_factor_numbers ip ws v = sum_numbers (λ row. factor row.parts v) ip.rows (pos 0) ws

-- the numbers of a `Dual` node: those of the right sides; for each variable those of its coefficient, its product with the end and the
-- sum, which goes on from the right sides; the constant's product, and the sum with it
abbrev pub dual_numbers : Ip → IpBox → ℤ → List Weight → List ℤ
dual_numbers ip b over ws =
    let c = rest_factor ip over ws in
    sum_numbers (λ row. row.most) ip.rows (pos 0) ws
    ++ (form_numbers (rest_factor_numbers ip over ws) (λ v. c v *ℤ most_end b (c v) v) (λ n. right_side ip ws +ℤ form_most c b n) (length ip.tops)
    ++ ((over *ℤ ip.base) ∷ dual_bound ip b over ws ∷ []))

-- the numbers of a `Far` node: those of the right sides; for each variable those of its coefficient, its product with the end and
-- the sum, which begins anew
abbrev pub far_numbers : Ip → IpBox → List Weight → List ℤ
far_numbers ip b ws =
    let c = rows_factor ip ws in
    sum_numbers (λ row. row.most) ip.rows (pos 0) ws
    ++ form_numbers (rows_factor_numbers ip ws) (λ v. c v *ℤ least_end b (c v) v) (λ n. form_least c b n) (length ip.tops)

-- a value where all the numbers fit 128 bits, and none otherwise
abbrev pub where_all_fit : {A : Type 0} → List ℤ → A → Option A
where_all_fit numbers value = if list_all fits numbers then Some value else None
