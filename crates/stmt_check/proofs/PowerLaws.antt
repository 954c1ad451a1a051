-- A number is below a power of two where its shift is 0.
use Rattle.std.proofs.Common.{◌≡◌, ℕ, ◌/◌, ◌^◌, ◌<◌, ◌≤◌, true, arith}
use Rattle.std.specs.Prelude.{nat_eq, nat_lt}
use Rattle.std.proofs.Math.Nat.{div-eq_of_lt, pow-le-pow_right}
use Rattle.std.proofs.lemmas.Nat.{le-div}
use Rattle.std.proofs.lemmas.Bool.Decides.{nat_tests}

pub shifted_out : (number power : ℕ) → 0 < power → nat_eq (number / power) 0 ≡ nat_lt number power
shifted_out number power h =
    let below : number < power → number / power ≡ 0 = λ k. div-eq_of_lt k in
    let above : power ≤ number → 1 ≤ number / power = λ k. le-div 1 number power h (omega arith) in
    grind (arith, nat_tests)

pub wide_enough : (number width : ℕ) → number < 2 ^ 128 → 128 ≤ width → nat_lt number (2 ^ width) ≡ true
wide_enough number width h k =
    let powers : 2 ^ 128 ≤ 2 ^ width = pow-le-pow_right (omega arith) k in
    grind (arith, nat_tests)
