use Rattle.std.proofs.Common.{arith, rules}
use Rattle.spelling.proofs.Bounds.{refused_deep}
use Rattle.spelling.proofs.Only.{alone, fact_of, of_where, wants_number}
use Rattle.spelling.proofs.Refusals.{refused_reads}
use Rattle.spelling.proofs.Taking.{takes_where}
use Rattle.p4_declarations.proofs.gains.number.Goals as goal

pub returns-in_err-number : goal.returns-in_err-number
returns-in_err-number c =
    refused_reads _ c.from_residual.ensures.1
    (λ value rest m. let fits = fact_of m in wants_number _ _ (omega (arith, fits)) (alone (of_where m)) c.in_err-number.ensures.refused)
    (refused_deep _ _ _ _ c.in_err-number.ensures.refused)

pub returns : goal.returns
returns c =
    record {
      taken = takes_where (omega (arith, c.in_ok-number.ensures.within)) c.in_ok-number.ensures.taken;
      only = search rules;
      shallow = tt;
    }
