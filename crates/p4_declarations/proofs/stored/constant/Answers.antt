use Rattle.std.proofs.Common.{sym}
use Rattle.p4_declarations.proofs.FieldSpelling.{constant_as}
use Rattle.p4_declarations.proofs.SameDecls.{same_constant}
use Rattle.spelling.proofs.Bounds.{never_deep, refused_deep}
use Rattle.spelling.proofs.ByParts.{refused_made}
use Rattle.spelling.proofs.Limits.{want_or}
use Rattle.spelling.proofs.Only.{after, after_one, alone, named_same, same_end, wants, wants_name, wants_one}
use Rattle.spelling.proofs.Taking.{takes_both}
use Rattle.p4_declarations.proofs.stored.constant.Goals as goal

pub returns-in_err-width : goal.returns-in_err-width
returns-in_err-width c = λ depth.
    refused_made _ c.from_residual-in_err-width.ensures.1
    (λ more of rest m.
    want_or _ _ (wants (after_one m c.in_ok-reserved.ensures.taken) (λ b f s. c.in_err-width.ensures.only of.1 b f)))
    (never_deep _ _ c.in_err-width.ensures.shallow)

pub returns-in_err-name : goal.returns-in_err-name
returns-in_err-name c = λ depth.
    refused_made _ c.from_residual-in_err-name.ensures.1
    (λ more of rest m.
    let m1 = after_one m c.in_ok-reserved.ensures.taken in
    let m2 = after m1 (λ b f s. c.in_ok-width.ensures.only of.1 b f) in
    want_or _ _ (wants_name _ _ m2.1 c.in_err-name.ensures.refused))
    (refused_deep _ _ _ _ c.in_err-name.ensures.refused)

pub returns-in_err-sign : goal.returns-in_err-sign
returns-in_err-sign c = λ depth.
    refused_made _ c.from_residual-in_err-sign.ensures.1
    (λ more of rest m.
    let m1 = after_one m c.in_ok-reserved.ensures.taken in
    let m2 = after m1 (λ b f s. c.in_ok-width.ensures.only of.1 b f) in
    want_or _ _ (wants_one _ _ (after_one m2.1 c.in_ok-name.ensures.taken) c.in_err-sign.ensures.refused))
    (refused_deep _ _ _ _ c.in_err-sign.ensures.refused)

pub returns-in_err-value : goal.returns-in_err-value
returns-in_err-value c = λ depth.
    refused_made _ c.from_residual-in_err-value.ensures.1
    (λ more of rest m.
    let m1 = after_one m c.in_ok-reserved.ensures.taken in
    let m2 = after m1 (λ b f s. c.in_ok-width.ensures.only of.1 b f) in
    let m3 = after_one (after_one m2.1 c.in_ok-name.ensures.taken) c.in_ok-sign.ensures.taken in
    want_or _ _ (wants m3 (λ b f s. c.in_err-value.ensures.only of.2 b (constant_as (sym m2.0) f))))
    (never_deep _ _ c.in_err-value.ensures.shallow)

pub returns-in_err-sign-2 : goal.returns-in_err-sign-2
returns-in_err-sign-2 c = λ depth.
    refused_made _ c.from_residual-in_err-sign-2.ensures.1
    (λ more of rest m.
    let m1 = after_one m c.in_ok-reserved.ensures.taken in
    let m2 = after m1 (λ b f s. c.in_ok-width.ensures.only of.1 b f) in
    let m3 = after_one (after_one m2.1 c.in_ok-name.ensures.taken) c.in_ok-sign.ensures.taken in
    let m4 = after m3 (λ b f s. c.in_ok-value.ensures.only of.2 b (constant_as (sym m2.0) f)) in
    want_or _ _ (wants_one _ _ (alone m4.1) c.in_err-sign-2.ensures.refused))
    (refused_deep _ _ _ _ c.in_err-sign-2.ensures.refused)

pub returns : goal.returns
returns c = λ depth.
    record {
      taken = takes_both c.in_ok-reserved.ensures.taken (takes_both c.in_ok-width.ensures.taken (takes_both c.in_ok-name.ensures.taken (takes_both c.in_ok-sign.ensures.taken (takes_both c.in_ok-value.ensures.taken c.in_ok-sign-2.ensures.taken))));
      only = λ more of rest m.
          let m1 = after_one m c.in_ok-reserved.ensures.taken in
          let m2 = after m1 (λ b f s. c.in_ok-width.ensures.only of.1 b f) in
          let m3 = after_one (after_one m2.1 c.in_ok-name.ensures.taken) c.in_ok-sign.ensures.taken in
          let m4 = after m3 (λ b f s. c.in_ok-value.ensures.only of.2 b (constant_as (sym m2.0) f)) in
          (same_constant (named_same m2.1 c.in_ok-name.ensures.taken) m2.0 m4.0, same_end m4.1 c.in_ok-sign-2.ensures.taken);
      deep = tt;
    }
