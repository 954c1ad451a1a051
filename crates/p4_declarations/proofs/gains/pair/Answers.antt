use Rattle.std.proofs.Common.{ap, ◌∙◌}
use Rattle.std.proofs.Common.{◌<◌, ◌^◌}
use Rattle.spelling.proofs.Bounds.{refused_deep}
use Rattle.spelling.proofs.Only.{after, after_one, fact_of, of_where, wants, wants_one}
use Rattle.spelling.proofs.Refusals.{refused_reads}
use Rattle.spelling.proofs.Taking.{may_where, takes_as, takes_both, takes_where}
use Rattle.p4_declarations.proofs.gains.pair.Goals as goal

pub returns-in_err-key : goal.returns-in_err-key
returns-in_err-key c =
    refused_reads _ c.from_residual.ensures.1 (λ step rest m. let fits : (step.0 < 2 ^ 64) × (step.1 < 2 ^ 64) = fact_of m in wants (of_where m) (λ b f s. c.in_err-key.ensures.only step.0 b (may_where fits.0 f))) c.in_err-key.ensures.shallow

pub returns-in_err-sign : goal.returns-in_err-sign
returns-in_err-sign c =
    refused_reads _ c.from_residual-in_err-sign.ensures.1
    (λ step rest m.
    let fits : (step.0 < 2 ^ 64) × (step.1 < 2 ^ 64) = fact_of m in
    let m1 = after (of_where m) (λ b f s. c.in_ok-key.ensures.only step.0 b (may_where fits.0 f)) in
    wants_one _ _ m1.1 c.in_err-sign.ensures.refused)
    (refused_deep _ _ _ _ c.in_err-sign.ensures.refused)

pub returns-in_err-value : goal.returns-in_err-value
returns-in_err-value c =
    refused_reads _ c.from_residual-in_err-value.ensures.1
    (λ step rest m.
    let fits : (step.0 < 2 ^ 64) × (step.1 < 2 ^ 64) = fact_of m in
    let m1 = after (of_where m) (λ b f s. c.in_ok-key.ensures.only step.0 b (may_where fits.0 f)) in
    c.in_err-value.ensures.only step.1 rest (may_where fits.1 (after_one m1.1 c.in_ok-sign.ensures.taken)))
    c.in_err-value.ensures.shallow

pub returns : goal.returns
returns c =
    let key = c.in_ok-key.ensures.taken in
    let value = c.in_ok-value.ensures.taken in
    record {
      taken = takes_where (key.spelled.0, value.spelled.0) (takes_both (takes_as (λ ws h. h.1) key) (takes_both c.in_ok-sign.ensures.taken (takes_as (λ ws h. h.1) value)));
      only = λ step rest m.
          let fits : (step.0 < 2 ^ 64) × (step.1 < 2 ^ 64) = fact_of m in
          let m1 = after (of_where m) (λ b f s. c.in_ok-key.ensures.only step.0 b (may_where fits.0 f)) in
          let m2 = c.in_ok-value.ensures.only step.1 rest (may_where fits.1 (after_one m1.1 c.in_ok-sign.ensures.taken)) in
          (ap (λ n. (n, c.in_ok-value.value)) m1.0 ∙ ap (λ n. (step.0, n)) m2.0, m2.1);
      shallow = tt;
    }
