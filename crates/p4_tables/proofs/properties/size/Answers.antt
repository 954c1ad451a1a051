use Rattle.spelling.proofs.Refusals.{refused_reads}
use Rattle.std.proofs.Common.{arith}
use Rattle.spelling.proofs.Bounds.{refused_deep}
use Rattle.spelling.proofs.Only.{after_one, fact_of, number_same, of_where, same_end, wants_number}
use Rattle.spelling.proofs.Taking.{takes_both, takes_where}
use Rattle.p4_tables.proofs.properties.size.Goals as goal

pub returns-in_err-size : goal.returns-in_err-size
returns-in_err-size c =
    refused_reads _ c.from_residual-in_err-size.ensures.1
    (λ size rest m. wants_number _ _ (omega (arith, fact_of m)) (after_one (after_one (of_where m) c.in_ok-fixed_name.ensures.taken) c.in_ok-sign.ensures.taken) c.in_err-size.ensures.refused)
    (refused_deep _ _ _ _ c.in_err-size.ensures.refused)

pub returns : goal.returns
returns c =
    record {
      taken = takes_where (omega (arith, c.in_ok-size.ensures.within)) (takes_both c.in_ok-fixed_name.ensures.taken (takes_both c.in_ok-sign.ensures.taken (takes_both c.in_ok-size.ensures.taken c.in_ok-sign-2.ensures.taken)));
      only = λ size rest m.
          let m2 = after_one (after_one (of_where m) c.in_ok-fixed_name.ensures.taken) c.in_ok-sign.ensures.taken in
          (number_same m2 c.in_ok-size.ensures.taken, same_end (after_one m2 c.in_ok-size.ensures.taken) c.in_ok-sign-2.ensures.taken);
      shallow = tt;
    }
