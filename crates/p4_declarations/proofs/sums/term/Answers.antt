use Rattle.std.proofs.Common.{arith, refl, rules, inr}
use Rattle.std.proofs.Common.{◌<◌, ◌^◌}
use Rattle.p4_declarations.proofs.SumSpelling.{product_number}
use Rattle.spelling.proofs.Bounds.{refused_deep}
use Rattle.spelling.proofs.Only.{of_where, stands}
use Rattle.spelling.proofs.Refusals.{refused_before}
use Rattle.spelling.proofs.Taking.{takes_as, takes_both, takes_where}
use Rattle.p4_declarations.proofs.sums.term.Goals as goal

pub returns-in_err-by : goal.returns-in_err-by
returns-in_err-by c =
    refused_before _ c.from_residual-in_err-by.ensures.1
    (λ term rest m ends.
    let n = product_number term.by term.symbol (of_where m) (c.if-not-is_at_number.ensures.0 refl) in
    stands _ _ c.in_err-by.ensures.refused (term.by, omega (arith, n.0), n.1))
    (refused_deep _ _ _ _ c.in_err-by.ensures.refused)

pub returns : goal.returns
returns c =
    let fits : c.in_ok-by.field-0 < 2 ^ 64 = omega (arith, c.in_ok-by.ensures.within) in
    record {
      taken = takes_where refl (takes_as (λ ws. inr) (takes_where fits (takes_both c.in_ok-by.ensures.taken (takes_both (c.if-not-eat_sign.ensures.taken refl) c.in_ok-name-2.ensures.taken))));
      only = search rules;
      shallow = tt;
    }
