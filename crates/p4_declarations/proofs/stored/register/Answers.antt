use Rattle.std.proofs.Common.{codes, refl}
use Rattle.p4_expr.specs.Parts.{SpellsAmount}
use Rattle.p4_declarations.proofs.FieldSpelling.{name_ends_index}
use Rattle.p4_declarations.proofs.SameDecls.{same_register}
use Rattle.p4_expr.proofs.PartsWithin.{amount_stays, bits_stays}
use Rattle.spelling.proofs.Balance.{stays_both, stays_named, stays_round, stays_sign}
use Rattle.spelling.proofs.Bounds.{never_deep, refused_deep}
use Rattle.spelling.proofs.ByParts.{part_deep, refused_made}
use Rattle.spelling.proofs.InLines.{line_part_deep}
use Rattle.spelling.proofs.Limits.{want_or}
use Rattle.spelling.proofs.Only.{after, after_one, wants, wants_one}
use Rattle.spelling.proofs.Taking.{may, may_takes, takes_both}
use Rattle.p4_declarations.proofs.stored.register.Goals as goal

pub returns-in_err-width : goal.returns-in_err-width
returns-in_err-width c =
    refused_made _ c.from_residual-in_err-width.ensures.1
    (λ more of rest m.
    let m1 = after_one (after_one m c.in_ok-fixed_name.ensures.taken) c.in_ok-sign.ensures.taken in
    want_or _ _ (wants m1 (λ b f s. c.in_err-width.ensures.only of.1 b f)))
    (never_deep _ _ c.in_err-width.ensures.shallow)

pub returns-in_err-sign-2 : goal.returns-in_err-sign-2
returns-in_err-sign-2 c =
    refused_made _ c.from_residual-in_err-sign-2.ensures.1
    (λ more of rest m.
    let m1 = after_one (after_one m c.in_ok-fixed_name.ensures.taken) c.in_ok-sign.ensures.taken in
    let m2 = after m1 (λ b f s. c.in_ok-width.ensures.only of.1 b f) in
    want_or _ _ (wants_one _ _ m2.1 c.in_err-sign-2.ensures.refused))
    (refused_deep _ _ _ _ c.in_err-sign-2.ensures.refused)

pub returns-in_err-cells : goal.returns-in_err-cells
returns-in_err-cells c =
    refused_made _ c.from_residual-in_err-cells.ensures.1
    (λ more of rest m.
    let m1 = after_one (after_one m c.in_ok-fixed_name.ensures.taken) c.in_ok-sign.ensures.taken in
    let m2 = after m1 (λ b f s. c.in_ok-width.ensures.only of.1 b f) in
    let m3 = after_one m2.1 c.in_ok-sign-2.ensures.taken in
    wants m3 (λ b f s. c.in_err-cells.ensures.only more of.2 b f))
    (part_deep _ _ (stays_both (stays_named (codes "Register")) (stays_both (stays_sign (codes "<") refl refl) (stays_both (bits_stays c.in_ok-width.width) (stays_sign (codes ">") refl refl)))) (may (takes_both c.in_ok-fixed_name.ensures.taken (takes_both c.in_ok-sign.ensures.taken (takes_both c.in_ok-width.ensures.taken c.in_ok-sign-2.ensures.taken)))) c.in_err-cells.ensures.deep)

pub returns-in_err-size : goal.returns-in_err-size
returns-in_err-size c =
    refused_made _ c.from_residual-in_err-size.ensures.1
    (λ more of rest m.
    let m1 = after_one (after_one m c.in_ok-fixed_name.ensures.taken) c.in_ok-sign.ensures.taken in
    let m2 = after m1 (λ b f s. c.in_ok-width.ensures.only of.1 b f) in
    let m3 = after_one m2.1 c.in_ok-sign-2.ensures.taken in
    let m4 = after m3 (λ b f s. c.in_ok-cells.ensures.only more of.2 b f) in
    wants m4.1 (λ b f s. c.in_err-size.ensures.only more of.3 b f (name_ends_index s)))
    (line_part_deep _ _ (stays_both (stays_named (codes "Register")) (stays_both (stays_sign (codes "<") refl refl) (stays_both (bits_stays c.in_ok-width.width) (stays_both (stays_sign (codes ">") refl refl) (stays_round c.args.depth (λ _. SpellsAmount c.in_ok-cells.cells) (λ _. amount_stays c.in_ok-cells.cells)))))) (may (takes_both c.in_ok-fixed_name.ensures.taken (takes_both c.in_ok-sign.ensures.taken (takes_both c.in_ok-width.ensures.taken (takes_both c.in_ok-sign-2.ensures.taken c.in_ok-cells.ensures.taken))))) c.in_err-size.ensures.deep)

pub returns-in_err-name : goal.returns-in_err-name
returns-in_err-name c =
    refused_made _ c.from_residual-in_err-name.ensures.1
    (λ more of rest m.
    let m1 = after_one (after_one m c.in_ok-fixed_name.ensures.taken) c.in_ok-sign.ensures.taken in
    let m2 = after m1 (λ b f s. c.in_ok-width.ensures.only of.1 b f) in
    let m3 = after_one m2.1 c.in_ok-sign-2.ensures.taken in
    let m4 = after m3 (λ b f s. c.in_ok-cells.ensures.only more of.2 b f) in
    let m5 = after m4.1 (λ b f s. c.in_ok-size.ensures.only more of.3 b f (name_ends_index s)) in
    want_or _ _ (c.in_err-name.ensures.only of.0 rest m5.1))
    (never_deep _ _ c.in_err-name.ensures.shallow)

pub returns : goal.returns
returns c =
    record {
      taken = takes_both c.in_ok-fixed_name.ensures.taken (takes_both c.in_ok-sign.ensures.taken (takes_both c.in_ok-width.ensures.taken (takes_both c.in_ok-sign-2.ensures.taken (takes_both c.in_ok-cells.ensures.taken (may_takes c.in_ok-size.ensures.taken c.in_ok-name.ensures.taken)))));
      only = λ more of rest m.
          let m1 = after_one (after_one m c.in_ok-fixed_name.ensures.taken) c.in_ok-sign.ensures.taken in
          let m2 = after m1 (λ b f s. c.in_ok-width.ensures.only of.1 b f) in
          let m3 = after_one m2.1 c.in_ok-sign-2.ensures.taken in
          let m4 = after m3 (λ b f s. c.in_ok-cells.ensures.only more of.2 b f) in
          let m5 = after m4.1 (λ b f s. c.in_ok-size.ensures.only more of.3 b f (name_ends_index s)) in
          let m6 = c.in_ok-name.ensures.only of.0 rest m5.1 in
          (same_register m6.0 m2.0 m4.0 m5.0, m6.1);
      deep = tt;
    }
