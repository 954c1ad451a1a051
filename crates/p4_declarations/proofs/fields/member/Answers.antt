use Rattle.std.proofs.Common.{ap, ◌∙◌}
use Rattle.spelling.proofs.Only.{after_one, named_same}
use Rattle.spelling.proofs.Refusals.{refused_reads}
use Rattle.spelling.proofs.Taking.{takes_both}
use Rattle.p4_declarations.proofs.fields.member.Goals as goal

pub returns-in_err-name : goal.returns-in_err-name
returns-in_err-name c =
    refused_reads _ c.from_residual-in_err-name.ensures.1 (λ member rest m. c.in_err-name.ensures.only member.1 rest (after_one m c.in_ok-header.ensures.taken)) c.in_err-name.ensures.shallow

pub returns : goal.returns
returns c =
    record {
      taken = takes_both c.in_ok-header.ensures.taken c.in_ok-name.ensures.taken;
      only = λ member rest m.
          let r = c.in_ok-name.ensures.only member.1 rest (after_one m c.in_ok-header.ensures.taken) in
          (ap (λ n. (n, c.in_ok-name.name)) (named_same m c.in_ok-header.ensures.taken) ∙ ap (λ n. (member.0, n)) r.0, r.1);
      shallow = tt;
    }
