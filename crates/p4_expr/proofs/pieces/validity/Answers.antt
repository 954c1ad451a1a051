use Rattle.std.proofs.Common.{arith}
use Rattle.spelling.proofs.Bounds.{if_deep, never_deep, stop_line}
use Rattle.spelling.proofs.Limits.{want_or}
use Rattle.spelling.proofs.Only.{after, after_one, wants}
use Rattle.spelling.proofs.Refusals.{refused_line}
use Rattle.spelling.proofs.Taking.{takes_both}
use Rattle.p4_expr.proofs.LinesAhead.{test_line}
use Rattle.p4_expr.proofs.pieces.validity.Goals as goal

pub returns-in_err-name : goal.returns-in_err-name
returns-in_err-name c =
    refused_line _ c.from_residual.ensures.1 (λ more name rest m. want_or _ _ (wants m (λ b f s. c.in_err-name.ensures.only name b f))) (never_deep _ _ c.in_err-name.ensures.shallow)

pub returns-in_err-no_arguments : goal.returns-in_err-no_arguments
returns-in_err-no_arguments c =
    let front = test_line c.in_ok-name.name c.in_ok-name.ensures.taken c.in_ok-sign.ensures.taken c.in_ok-fixed_name.ensures.taken in
    refused_line _ c.from_residual-in_err-no_arguments.ensures.1
    (λ more name rest m.
    let m1 = after m (λ b f s. c.in_ok-name.ensures.only name b f) in
    c.in_err-no_arguments.ensures.only more tt rest (after_one (after_one m1.1 c.in_ok-sign.ensures.taken) c.in_ok-fixed_name.ensures.taken))
    (if_deep c.in_err-no_arguments.field-0.0 (λ s. stop_line c.args.depth 0 c.args.depth (omega arith) front s) c.in_err-no_arguments.ensures.deep)

pub returns : goal.returns
returns c =
    record {
      taken = takes_both c.in_ok-name.ensures.taken (takes_both c.in_ok-sign.ensures.taken (takes_both c.in_ok-fixed_name.ensures.taken c.in_ok-no_arguments.ensures.taken));
      only = λ more name rest m.
          let m1 = after m (λ b f s. c.in_ok-name.ensures.only name b f) in
          let m2 = after_one (after_one m1.1 c.in_ok-sign.ensures.taken) c.in_ok-fixed_name.ensures.taken in
          (m1.0, (c.in_ok-no_arguments.ensures.only more tt rest m2).1);
      deep = tt;
    }
