-- What the tests of nodes read: a row of a program in its limits, and sums that fit.
use Rattle.std.proofs.Common.{◌≡◌, ℕ, ℤ, ◌+ℤ◌, ◌+◌, ◌<◌, ◌≤◌, List, length, get_or, slice_get, Some, None, FitsSigned, to_z, of_z, unsigned_abs, arith, sym, subst}
use Rattle.std.proofs.lemmas.Int.{to_z-of_z, fits_signed_from_abs}
use Rattle.std.proofs.lemmas.Option.{slice_get_read, slice_get_past}
use Rattle.std.specs.Int.{w128}
use Rattle.int_program.specs.Boxes.{IsInside}
use Rattle.int_program.specs.Limits.{AreSmall, IsInLimits, weight_limit}
use Rattle.int_program.specs.declared.program.Ip.{Ip}
use Rattle.int_program.specs.declared.program.IpBox.{IpBox}
use Rattle.int_program.specs.declared.program.Row.{Row}
use Rattle.int_program.proofs.InsideLaws.{rows_inside}
use Rattle.int_program.proofs.SumLaws.{sum_small}

pub row_small : (ip : Ip) (b : IpBox) (rows : List Row) (row : Row) (k : ℕ) → rows ≡ ip.rows → IsInLimits ip → IsInside ip b → k < length rows → row ≡ get_or rows k row → AreSmall row.parts row.most b.high
row_small ip b rows row k e limits o l is =
    let all = subst (λ (rs : List Row). (j : ℕ) (d : Row) → j < length rs → AreSmall (get_or rs j d).parts (get_or rs j d).most b.high) (sym e) (rows_inside ip b limits o) in
    subst (λ (r : Row). AreSmall r.parts r.most b.high) (sym is) (all k row l)

pub row_there : (ip : Ip) (rows : List Row) (row : Row) (k : ℕ) → rows ≡ ip.rows → k < length rows → row ≡ get_or rows k row → slice_get ip.rows k ≡ Some row
row_there ip rows row k e l is = subst (λ (rs : List Row). slice_get rs k ≡ Some row) e (slice_get_read rows (length rows) k row (omega arith) l is)

pub row_absent : (ip : Ip) (rows : List Row) (k : ℕ) → rows ≡ ip.rows → length rows ≤ k → slice_get ip.rows k ≡ None
row_absent ip rows k e l = subst (λ (rs : List Row). slice_get rs k ≡ None) e (slice_get_past rows k l)

pub sum_fits : (a b : ℤ) (n : ℕ) → FitsSigned w128 a → FitsSigned w128 b → unsigned_abs a ≤ n → n + unsigned_abs b < weight_limit → FitsSigned w128 (to_z w128 (of_z w128 a) +ℤ to_z w128 (of_z w128 b))
sum_fits a b n f g h k =
    let fits : FitsSigned w128 (a +ℤ b) = fits_signed_from_abs w128 (a +ℤ b) (omega (arith, sum_small a b)) in
    simp to_z-of_z fits

pub sum_is : (a b : ℤ) (n : ℕ) → FitsSigned w128 a → FitsSigned w128 b → unsigned_abs a ≤ n → n + unsigned_abs b < weight_limit → to_z w128 (of_z w128 (to_z w128 (of_z w128 a) +ℤ to_z w128 (of_z w128 b))) ≡ a +ℤ b
sum_is a b n f g h k =
    let fits : FitsSigned w128 (a +ℤ b) = fits_signed_from_abs w128 (a +ℤ b) (omega (arith, sum_small a b)) in
    simp to_z-of_z
