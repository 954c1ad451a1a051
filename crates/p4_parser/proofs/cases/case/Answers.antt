use Rattle.p4_tables.proofs.EntrySpelling.{colon_ends_set}
use Rattle.spelling.proofs.Taking.{takes_both}
use Rattle.spelling.proofs.Only.{after, after_one, alone, named_same, same_end, wants, wants_name, wants_one}
use Rattle.spelling.proofs.Refusals.{refused_reads}
use Rattle.std.proofs.Common.{ap, ◌∙◌}
use Rattle.spelling.proofs.Bounds.{refused_deep}
use Rattle.p4_parser.proofs.cases.case.Goals as goal

pub returns-in_err-set : goal.returns-in_err-set
returns-in_err-set c =
    refused_reads _ c.from_residual.ensures.1 (λ chosen rest m. wants m (λ b f s. c.in_err-set.ensures.only chosen.0 b f (colon_ends_set s))) c.in_err-set.ensures.shallow

pub returns-in_err-sign : goal.returns-in_err-sign
returns-in_err-sign c =
    refused_reads _ c.from_residual-in_err-sign.ensures.1
    (λ chosen rest m. wants_one _ _ (after m (λ b f s. c.in_ok-set.ensures.only chosen.0 b f (colon_ends_set s))).1 c.in_err-sign.ensures.refused)
    (refused_deep _ _ _ _ c.in_err-sign.ensures.refused)

pub returns-in_err-state : goal.returns-in_err-state
returns-in_err-state c =
    refused_reads _ c.from_residual-in_err-state.ensures.1
    (λ chosen rest m. wants_name _ _ (after_one (after m (λ b f s. c.in_ok-set.ensures.only chosen.0 b f (colon_ends_set s))).1 c.in_ok-sign.ensures.taken) c.in_err-state.ensures.refused)
    (refused_deep _ _ _ _ c.in_err-state.ensures.refused)

pub returns-in_err-sign-2 : goal.returns-in_err-sign-2
returns-in_err-sign-2 c =
    refused_reads _ c.from_residual-in_err-sign-2.ensures.1
    (λ chosen rest m.
    let m2 = after_one (after m (λ b f s. c.in_ok-set.ensures.only chosen.0 b f (colon_ends_set s))).1 c.in_ok-sign.ensures.taken in
    wants_one _ _ (alone (after_one m2 c.in_ok-state.ensures.taken)) c.in_err-sign-2.ensures.refused)
    (refused_deep _ _ _ _ c.in_err-sign-2.ensures.refused)

pub returns : goal.returns
returns c =
    record {
      taken = takes_both c.in_ok-set.ensures.taken (takes_both c.in_ok-sign.ensures.taken (takes_both c.in_ok-state.ensures.taken c.in_ok-sign-2.ensures.taken));
      only = λ chosen rest m.
          let m1 = after m (λ b f s. c.in_ok-set.ensures.only chosen.0 b f (colon_ends_set s)) in
          let m2 = after_one m1.1 c.in_ok-sign.ensures.taken in
          (ap (λ set. (set, c.in_ok-state.state)) m1.0 ∙ ap (λ state. (chosen.0, state)) (named_same m2 c.in_ok-state.ensures.taken), same_end (after_one m2 c.in_ok-state.ensures.taken) c.in_ok-sign-2.ensures.taken);
      shallow = tt;
    }
