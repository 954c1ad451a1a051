-- The sums of weighted rows as they are taken number by number: they stop at the first that leaves the signed 128 bits; this
-- project's own.
use Rattle.std.specs.Prelude.{ℕ, zero, suc, ℤ, pos, ◌^◌, ◌+ℤ◌, ◌-ℤ◌, ◌*ℤ◌, neg_ℤ, Bool, ◌&&◌, List, [], ◌∷◌, length, Option, Some, None, slice_get, int_lt, int_le, if◌then◌else◌}
use Rattle.std.specs.Option.{option_and_then}
use Rattle.int_program.specs.declared.program.Ip.{Ip}
use Rattle.int_program.specs.declared.program.IpBox.{IpBox}
use Rattle.int_program.specs.declared.program.Row.{Row}
use Rattle.int_program.specs.declared.program.Weight.{Weight}
use Rattle.int_program.specs.Sums.{at}
use Rattle.int_program.specs.Tightening.{factor}
use Rattle.int_program.specs.Weighted.{number_of}

-- whether a number is one of the signed 128 bits
abbrev pub fits : ℤ → Bool
fits z = int_le (neg_ℤ (pos (2 ^ 127))) z && int_lt z (pos (2 ^ 127))

abbrev pub tried : ℤ → Option ℤ
tried z = if fits z then Some z else None

-- a sum to which a product is added, or from which it is taken: first the product is tried, then the new sum
abbrev pub tried_plus : ℤ → ℤ → ℤ → Option ℤ
tried_plus sum by number = option_and_then (λ p. tried (sum +ℤ p)) (tried (by *ℤ number))

abbrev pub tried_minus : ℤ → ℤ → ℤ → Option ℤ
tried_minus sum by number = option_and_then (λ p. tried (sum -ℤ p)) (tried (by *ℤ number))

-- a number that each row has, times the weight, for each weight in the written order
abbrev pub tried_weighted : (ℤ → ℤ → ℤ → Option ℤ) → (Row → ℤ) → List Row → ℤ → List Weight → Option ℤ
tried_weighted step f rows sum [] = Some sum
tried_weighted step f rows sum (w ∷ ws) =
    option_and_then (λ s. tried_weighted step f rows s ws) (step sum w.by (number_of f (slice_get rows w.row)))

-- the right sides, from 0 on
abbrev pub tried_right : Ip → List Weight → Option ℤ
tried_right ip ws = tried_weighted tried_plus (λ row. row.most) ip.rows (pos 0) ws

-- a variable's coefficient: `over` times its coefficient in the objective, and from it the weighted ones of the rows; or, from
-- 0 on, the sum of the weighted ones of the rows
abbrev pub tried_rest : Ip → ℤ → List Weight → ℕ → Option ℤ
tried_rest ip over ws v =
    option_and_then (λ c. tried_weighted tried_minus (λ row. factor row.parts v) ip.rows c ws) (tried (over *ℤ factor ip.goal v))

abbrev pub tried_rows : Ip → List Weight → ℕ → Option ℤ
tried_rows ip ws v = tried_weighted tried_plus (λ row. factor row.parts v) ip.rows (pos 0) ws

-- the end of a variable that gives a coefficient its greatest value, and its least
abbrev pub most_end : IpBox → ℤ → ℕ → ℤ
most_end b c v = if int_lt c (pos 0) then at b.low v else at b.high v

abbrev pub least_end : IpBox → ℤ → ℕ → ℤ
least_end b c v = if int_lt c (pos 0) then at b.high v else at b.low v

-- for each of the first n variables, by rising number, its coefficient, and directly after it the coefficient times the end
abbrev pub tried_form : (ℕ → Option ℤ) → (ℤ → ℕ → ℤ) → ℤ → ℕ → Option ℤ
tried_form c end sum zero = Some sum
tried_form c end sum (suc n) =
    option_and_then (λ s. option_and_then (λ k. tried_plus s k (end k n)) (c n)) (tried_form c end sum n)

-- the bound of a `Dual` node: the right sides, then each variable, then the constant
abbrev pub tried_dual : Ip → IpBox → ℤ → List Weight → Option ℤ
tried_dual ip b over ws =
    option_and_then
    (λ right. option_and_then (λ s. tried_plus s over ip.base) (tried_form (tried_rest ip over ws) (most_end b) right (length ip.tops)))
    (tried_right ip ws)

-- the two sums of a `Far` node: the right sides, and then, from 0 on, each variable
abbrev pub tried_far : Ip → IpBox → List Weight → Option (ℤ × ℤ)
tried_far ip b ws =
    option_and_then
    (λ right. option_and_then (λ least. Some (right, least)) (tried_form (tried_rows ip ws) (least_end b) (pos 0) (length ip.tops)))
    (tried_right ip ws)
