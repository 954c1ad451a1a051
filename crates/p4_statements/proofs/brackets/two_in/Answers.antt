use Rattle.spelling.proofs.Limits.{or_as, want_or}
use Rattle.p4_expr.proofs.Bound.{expr_bound}
use Rattle.spelling.proofs.Only.{after, after_one, begins_first, ends_sign, wants, wants_one}
use Rattle.spelling.proofs.Bounds.{if_deep, in_both, in_sign, refused_deep}
use Rattle.std.proofs.Common.{ap, codes, refl, ◌∙◌}
use Rattle.elastic_ast.specs.Seen.{seen_expr}
use Rattle.spelling.proofs.Balance.{stays_both, stays_sign}
use Rattle.p4_expr.proofs.InLines.{expr_in_line}
use Rattle.p4_statements.proofs.Lines.{past}
use Rattle.spelling.proofs.Taking.{may, takes_both}
use Rattle.p4_expr.proofs.ExprWithin.{expr_within}
use Rattle.spelling.proofs.Refusals.{refused_few_up_to}
use Rattle.p4_expr.specs.GoesOn.{expression_signs}
use Rattle.p4_statements.proofs.brackets.two_in.Goals as goal

pub returns-in_err-one : goal.returns-in_err-one
returns-in_err-one c =
    refused_few_up_to _ c.from_residual.ensures.1
    (λ more both rest m ends. wants m (λ b f s. or_as _ _ _ (λ few. (few.0, few.1.0)) (c.in_err-one.ensures.only more both.0 b f (ends_sign expression_signs (codes ",") b refl (begins_first s)))))
    (if_deep _ (λ p. expr_bound p) c.in_err-one.ensures.deep)

pub returns-in_err-sign : goal.returns-in_err-sign
returns-in_err-sign c =
    refused_few_up_to _ c.from_residual-in_err-sign.ensures.1
    (λ more both rest m ends.
    let m1 = after m (λ b f s. c.in_ok-one.ensures.only more both.0 b f (ends_sign expression_signs (codes ",") b refl (begins_first s))) in
    want_or _ _ (wants_one _ _ m1.1 c.in_err-sign.ensures.refused))
    (refused_deep _ _ _ _ c.in_err-sign.ensures.refused)

pub returns-in_err-other : goal.returns-in_err-other
returns-in_err-other c =
    let depth = c.args.depth in
    let front = may (takes_both c.in_ok-one.ensures.taken c.in_ok-sign.ensures.taken) in
    refused_few_up_to _ c.from_residual-in_err-other.ensures.1
    (λ more both rest m ends.
    let m1 = after m (λ b f s. c.in_ok-one.ensures.only more both.0 b f (ends_sign expression_signs (codes ",") b refl (begins_first s))) in
    or_as _ _ _ (λ few. (few.0, few.1.1)) (c.in_err-other.ensures.only more both.1 rest (after_one m1.1 c.in_ok-sign.ensures.taken) (ends_sign expression_signs (codes ")") rest refl ends)))
    (if_deep _ (λ p. past depth front (stays_both expr_within (stays_sign (codes ",") refl refl)) (in_both (expr_in_line depth (seen_expr c.in_ok-one.one)) (in_sign (codes ",") refl refl refl)) (expr_bound p)) c.in_err-other.ensures.deep)

pub returns : goal.returns
returns c =
    record {
      taken = may (takes_both c.in_ok-one.ensures.taken (takes_both c.in_ok-sign.ensures.taken c.in_ok-other.ensures.taken));
      few = (c.in_ok-one.ensures.few, c.in_ok-other.ensures.few);
      only = λ more both rest m ends.
          let m1 = after m (λ b f s. c.in_ok-one.ensures.only more both.0 b f (ends_sign expression_signs (codes ",") b refl (begins_first s))) in
          let m2 = c.in_ok-other.ensures.only more both.1 rest (after_one m1.1 c.in_ok-sign.ensures.taken) (ends_sign expression_signs (codes ")") rest refl ends) in
          (ap (λ e. (e, seen_expr c.in_ok-other.other)) m1.0 ∙ ap (λ e. (both.0, e)) m2.0, m2.1);
      deep = tt;
    }
