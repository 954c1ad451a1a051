use Rattle.spelling.proofs.Taking.{takes_both}
use Rattle.spelling.proofs.Only.{after, alone, same_end, same_name, wants, wants_name}
use Rattle.spelling.proofs.Refusals.{refused_reads}
use Rattle.p4_parser.proofs.ActionSpelling.{same_param}
use Rattle.spelling.proofs.Bounds.{refused_deep}
use Rattle.p4_parser.proofs.actions.param.Goals as goal

pub returns-in_err-width : goal.returns-in_err-width
returns-in_err-width c = refused_reads _ c.from_residual.ensures.1 (λ param rest m. wants m (λ b f s. c.in_err-width.ensures.only param.width b f)) c.in_err-width.ensures.shallow

pub returns-in_err-name : goal.returns-in_err-name
returns-in_err-name c =
    refused_reads _ c.from_residual-in_err-name.ensures.1 (λ param rest m. wants_name _ _ (alone (after m (λ b f s. c.in_ok-width.ensures.only param.width b f)).1) c.in_err-name.ensures.refused) (refused_deep _ _ _ _ c.in_err-name.ensures.refused)

pub returns : goal.returns
returns c =
    record {
      taken = takes_both c.in_ok-width.ensures.taken c.in_ok-name.ensures.taken;
      only = λ param rest m.
          let m1 = after m (λ b f s. c.in_ok-width.ensures.only param.width b f) in
          (same_param (same_name m1.1 c.in_ok-name.ensures.taken) m1.0, same_end m1.1 c.in_ok-name.ensures.taken);
      shallow = tt;
    }
