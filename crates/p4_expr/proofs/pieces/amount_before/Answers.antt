use Rattle.spelling.proofs.Bounds.{refused_deep}
use Rattle.spelling.proofs.Only.{after, alone, same_end, wants, wants_one}
use Rattle.spelling.proofs.Refusals.{refused_reads}
use Rattle.spelling.proofs.Taking.{takes_both}
use Rattle.p4_expr.proofs.pieces.amount_before.Goals as goal

pub returns-in_err-read : goal.returns-in_err-read
returns-in_err-read c =
    refused_reads _ c.from_residual.ensures.1 (λ amount rest m. wants m (λ b f s. c.in_err-read.ensures.only amount b f)) c.in_err-read.ensures.shallow

pub returns-in_err-sign : goal.returns-in_err-sign
returns-in_err-sign c =
    refused_reads _ c.from_residual-in_err-sign.ensures.1
    (λ amount rest m. wants_one _ _ (alone (after m (λ b f s. c.in_ok-read.ensures.only amount b f)).1) c.in_err-sign.ensures.refused)
    (refused_deep _ _ _ _ c.in_err-sign.ensures.refused)

pub returns : goal.returns
returns c =
    record {
      taken = takes_both c.in_ok-read.ensures.taken c.in_ok-sign.ensures.taken;
      only = λ amount rest m. let m1 = after m (λ b f s. c.in_ok-read.ensures.only amount b f) in (m1.0, same_end m1.1 c.in_ok-sign.ensures.taken);
      shallow = tt;
    }
