use Rattle.p4_declarations.proofs.FieldSpelling.{name_ends_index, same_field}
use Rattle.p4_expr.proofs.PartsWithin.{bits_stays}
use Rattle.spelling.proofs.Bounds.{never_deep}
use Rattle.spelling.proofs.ByParts.{refused_within}
use Rattle.spelling.proofs.InLines.{line_part_deep}
use Rattle.spelling.proofs.Limits.{want_or}
use Rattle.spelling.proofs.Only.{after, wants}
use Rattle.spelling.proofs.Taking.{may, may_takes, takes_both}
use Rattle.p4_declarations.proofs.fields.meta_field.Goals as goal

pub returns-in_err-width : goal.returns-in_err-width
returns-in_err-width c =
    refused_within _ c.from_residual.ensures.1 (λ more field rest m. want_or _ _ (wants m (λ b f s. c.in_err-width.ensures.only field.width b f))) (never_deep _ _ c.in_err-width.ensures.shallow)

pub returns-in_err-size : goal.returns-in_err-size
returns-in_err-size c =
    refused_within _ c.from_residual-in_err-size.ensures.1
    (λ more field rest m.
    let m1 = after m (λ b f s. c.in_ok-width.ensures.only field.width b f) in
    wants m1.1 (λ b f s. c.in_err-size.ensures.only more field.size b f (name_ends_index s)))
    (line_part_deep _ _ (bits_stays c.in_ok-width.width) (may c.in_ok-width.ensures.taken) c.in_err-size.ensures.deep)

pub returns-in_err-name : goal.returns-in_err-name
returns-in_err-name c =
    refused_within _ c.from_residual-in_err-name.ensures.1
    (λ more field rest m.
    let m1 = after m (λ b f s. c.in_ok-width.ensures.only field.width b f) in
    let m2 = after m1.1 (λ b f s. c.in_ok-size.ensures.only more field.size b f (name_ends_index s)) in
    want_or _ _ (c.in_err-name.ensures.only field.name rest m2.1))
    (never_deep _ _ c.in_err-name.ensures.shallow)

pub returns : goal.returns
returns c =
    record {
      taken = takes_both c.in_ok-width.ensures.taken (may_takes c.in_ok-size.ensures.taken c.in_ok-name.ensures.taken);
      only = λ more field rest m.
          let m1 = after m (λ b f s. c.in_ok-width.ensures.only field.width b f) in
          let m2 = after m1.1 (λ b f s. c.in_ok-size.ensures.only more field.size b f (name_ends_index s)) in
          let m3 = c.in_ok-name.ensures.only field.name rest m2.1 in
          (same_field _ field m3.0 m1.0 m2.0, m3.1);
      deep = tt;
    }
