use Rattle.std.proofs.Common.{ap, codes}
use Rattle.p4_declarations.specs.Made.{a_package}
use Rattle.spelling.proofs.Balance.{stays_named}
use Rattle.spelling.proofs.Bounds.{refused_deep}
use Rattle.spelling.proofs.ByParts.{part_deep, refused_made}
use Rattle.spelling.proofs.Limits.{want_or}
use Rattle.spelling.proofs.Only.{after, after_one, alone, same_end, wants, wants_one}
use Rattle.spelling.proofs.Taking.{may, takes_both}
use Rattle.p4_declarations.proofs.package.package.Goals as goal

pub returns-in_err-parts : goal.returns-in_err-parts
returns-in_err-parts c =
    refused_made _ c.from_residual-in_err-parts.ensures.1
    (λ more parts rest m. wants (after_one m c.in_ok-fixed_name.ensures.taken) (λ b f s. c.in_err-parts.ensures.only more parts b f))
    (part_deep _ _ (stays_named (codes "Pisa")) (may c.in_ok-fixed_name.ensures.taken) c.in_err-parts.ensures.deep)

pub returns-in_err-fixed_name-2 : goal.returns-in_err-fixed_name-2
returns-in_err-fixed_name-2 c =
    refused_made _ c.from_residual-in_err-fixed_name-2.ensures.1
    (λ more parts rest m.
    let m1 = after_one m c.in_ok-fixed_name.ensures.taken in
    let m2 = after m1 (λ b f s. c.in_ok-parts.ensures.only more parts b f) in
    want_or _ _ (wants_one _ _ m2.1 c.in_err-fixed_name-2.ensures.refused))
    (refused_deep _ _ _ _ c.in_err-fixed_name-2.ensures.refused)

pub returns-in_err-sign : goal.returns-in_err-sign
returns-in_err-sign c =
    refused_made _ c.from_residual-in_err-sign.ensures.1
    (λ more parts rest m.
    let m1 = after_one m c.in_ok-fixed_name.ensures.taken in
    let m2 = after m1 (λ b f s. c.in_ok-parts.ensures.only more parts b f) in
    let m3 = after_one m2.1 c.in_ok-fixed_name-2.ensures.taken in
    want_or _ _ (wants_one _ _ (alone m3) c.in_err-sign.ensures.refused))
    (refused_deep _ _ _ _ c.in_err-sign.ensures.refused)

pub returns : goal.returns
returns c =
    record {
      taken = takes_both c.in_ok-fixed_name.ensures.taken (takes_both c.in_ok-parts.ensures.taken (takes_both c.in_ok-fixed_name-2.ensures.taken c.in_ok-sign.ensures.taken));
      only = λ more parts rest m.
          let m1 = after_one m c.in_ok-fixed_name.ensures.taken in
          let m2 = after m1 (λ b f s. c.in_ok-parts.ensures.only more parts b f) in
          let m3 = after_one m2.1 c.in_ok-fixed_name-2.ensures.taken in
          (ap a_package m2.0, same_end m3 c.in_ok-sign.ensures.taken);
      deep = tt;
    }
