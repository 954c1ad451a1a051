use Rattle.std.proofs.Common.{arith, rules}
use Rattle.spelling.proofs.Bounds.{refused_deep}
use Rattle.spelling.proofs.Only.{after_one, of_where, fact_of, wants_number}
use Rattle.spelling.proofs.Refusals.{refused_reads}
use Rattle.spelling.proofs.Taking.{takes_both, takes_where}
use Rattle.p4_expr.proofs.parts.bits.Goals as goal

pub returns : goal.returns
returns c =
    record {
      taken = takes_where (omega (arith, c.in_ok-width.ensures.within)) (takes_both c.in_ok-reserved.ensures.taken (takes_both c.in_ok-sign.ensures.taken (takes_both c.in_ok-width.ensures.taken c.in_ok-sign-2.ensures.taken)));
      only = search rules;
      shallow = tt;
    }

pub returns-in_err-width : goal.returns-in_err-width
returns-in_err-width c =
    refused_reads _ c.from_residual-in_err-width.ensures.1
    (λ width rest m.
    let m2 = after_one (after_one (of_where m) c.in_ok-reserved.ensures.taken) c.in_ok-sign.ensures.taken in
    wants_number _ _ (omega (arith, fact_of m)) m2 c.in_err-width.ensures.refused)
    (refused_deep _ _ _ _ c.in_err-width.ensures.refused)
