use Rattle.spelling.proofs.Taking.{may, takes_both}
use Rattle.p4_expr.proofs.ExprWithin.{expr_within}
use Rattle.p4_expr.proofs.Bound.{bound_as, bound_opens}
use Rattle.std.proofs.Common.{[], ap, arith, codes, inl, ◌∙◌}
use Rattle.p4_parser.specs.Reading.{seen_cases}
use Rattle.elastic_ast.specs.Tree.{PlainNext}
use Rattle.spelling.proofs.Only.{after, after_one, wants}
use Rattle.spelling.proofs.Balance.{stays_both, stays_reserved, stays_round}
use Rattle.p4_expr.specs.Expressions.{HasFewOperators, SpellsExpr}
use Rattle.spelling.proofs.Bounds.{even, if_deep, line_opens, stop_opens}
use Rattle.std.proofs.lemmas.List.Elements.{All-cons, All-head, All-nil}
use Rattle.spelling.proofs.Refusals.{refused_few_made}
use Rattle.spelling.proofs.Limits.{or_as}
use Rattle.elastic_ast.specs.Seen.{seen_expr}
use Rattle.p4_parser.proofs.cases.select.Goals as goal

pub returns-in_err-of : goal.returns-in_err-of
returns-in_err-of c =
    let front = even c.args.depth (stays_reserved (codes "select")) (may c.in_ok-reserved.ensures.taken) in
    refused_few_made _ c.from_residual-in_err-of.ensures.1
    (λ more of rest m. wants (after_one m c.in_ok-reserved.ensures.taken) (λ b f s. or_as _ _ _ (λ few. (few.0, All-head HasFewOperators of.0 [] few.1)) (c.in_err-of.ensures.only more of.0 b f)))
    (if_deep _ (λ p. bound_opens c.args.depth 0 c.args.depth 0 0 (omega arith) (omega arith) front (bound_as (line_opens c.args.depth) (omega arith) p)) c.in_err-of.ensures.deep)

pub returns-in_err-cases : goal.returns-in_err-cases
returns-in_err-cases c =
    let stays = stays_both (stays_reserved (codes "select")) (stays_round c.args.depth (λ inner. SpellsExpr inner (seen_expr c.in_ok-of.of)) (λ inner. expr_within)) in
    let front = even c.args.depth stays (may (takes_both c.in_ok-reserved.ensures.taken c.in_ok-of.ensures.taken)) in
    refused_few_made _ c.from_residual-in_err-cases.ensures.1
    (λ more of rest m.
    let m2 = after (after_one m c.in_ok-reserved.ensures.taken) (λ b f s. c.in_ok-of.ensures.only more of.0 b f) in
    or_as _ _ _ (λ few. few.0) (c.in_err-cases.ensures.only more of.1 rest m2.1))
    (if_deep _ (λ s. inl (stop_opens c.args.depth 0 c.args.depth (omega arith) front s)) c.in_err-cases.ensures.deep)

pub returns : goal.returns
returns c =
    record {
      taken = takes_both c.in_ok-reserved.ensures.taken (takes_both c.in_ok-of.ensures.taken c.in_ok-cases.ensures.taken);
      few = All-cons HasFewOperators (seen_expr c.in_ok-of.of) [] c.in_ok-of.ensures.few (All-nil HasFewOperators);
      only = λ more of rest m.
          let m2 = after (after_one m c.in_ok-reserved.ensures.taken) (λ b f s. c.in_ok-of.ensures.only more of.0 b f) in
          let m3 = c.in_ok-cases.ensures.only more of.1 rest m2.1 in
          (ap (λ e. PlainNext.Select e (seen_cases c.in_ok-cases.cases)) m2.0 ∙ ap (PlainNext.Select of.0) m3.0, m3.1);
      deep = tt;
    }
