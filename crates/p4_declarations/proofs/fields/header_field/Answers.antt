use Rattle.std.proofs.Common.{refl, sym}
use Rattle.p4_declarations.proofs.FieldSpelling.{same_field}
use Rattle.spelling.proofs.Only.{after, fact_of, of_where, wants}
use Rattle.spelling.proofs.Refusals.{refused_reads}
use Rattle.spelling.proofs.Taking.{takes_both, takes_where}
use Rattle.p4_declarations.proofs.fields.header_field.Goals as goal

pub returns-in_err-width : goal.returns-in_err-width
returns-in_err-width c =
    refused_reads _ c.from_residual.ensures.1 (λ field rest m. wants (of_where m) (λ b f s. c.in_err-width.ensures.only field.width b f)) c.in_err-width.ensures.shallow

pub returns-in_err-name : goal.returns-in_err-name
returns-in_err-name c =
    refused_reads _ c.from_residual-in_err-name.ensures.1 (λ field rest m. c.in_err-name.ensures.only field.name rest (after (of_where m) (λ b f s. c.in_ok-width.ensures.only field.width b f)).1) c.in_err-name.ensures.shallow

pub returns : goal.returns
returns c =
    record {
      taken = takes_where refl (takes_both c.in_ok-width.ensures.taken c.in_ok-name.ensures.taken);
      only = λ field rest m.
          let m1 = after (of_where m) (λ b f s. c.in_ok-width.ensures.only field.width b f) in
          let m2 = c.in_ok-name.ensures.only field.name rest m1.1 in
          (same_field _ field m2.0 m1.0 (sym (fact_of m)), m2.1);
      shallow = tt;
    }
