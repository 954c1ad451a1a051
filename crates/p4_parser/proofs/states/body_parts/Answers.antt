use Rattle.spelling.proofs.Taking.{may, may_takes, takes_both}
use Rattle.spelling.proofs.Balance.{stays_both, stays_each, stays_reserved}
use Rattle.p4_expr.proofs.Bound.{bound_opens}
use Rattle.std.proofs.Common.{ap, arith, codes, inl, ◌∙◌}
use Rattle.elastic_ast.specs.Seen.{seen_next}
use Rattle.spelling.proofs.Limits.{or_as, want_or}
use Rattle.spelling.proofs.Only.{after, after_one, begins_first, wants, wants_one}
use Rattle.p4_parser.proofs.DeclarationsWithin.{extract_stays}
use Rattle.spelling.proofs.Bounds.{even, if_deep, refused_deep}
use Rattle.spelling.proofs.Refusals.{refused_few}
use Rattle.p4_parser.specs.Declarations.{SpellsExtract}
use Rattle.p4_parser.proofs.states.body_parts.Goals as goal

pub returns-in_err-extracts : goal.returns-in_err-extracts
returns-in_err-extracts c =
    refused_few _ c.from_residual.ensures.1 (λ more body rest m. wants m (λ b f s. or_as _ _ _ (λ few. few.0) (c.in_err-extracts.ensures.only more body.0 b f (begins_first s)))) (if_deep _ (λ s. inl s) c.in_err-extracts.ensures.deep)

pub returns-in_err-reserved : goal.returns-in_err-reserved
returns-in_err-reserved c =
    refused_few _ c.from_residual-in_err-reserved.ensures.1
    (λ more body rest m. want_or _ _ (wants_one _ _ (after m (λ b f s. c.in_ok-extracts.ensures.only more body.0 b f (begins_first s))).1 c.in_err-reserved.ensures.refused))
    (refused_deep _ _ _ _ c.in_err-reserved.ensures.refused)

pub returns-in_err-next : goal.returns-in_err-next
returns-in_err-next c =
    let depth = c.args.depth in
    let front = even depth (stays_both (stays_each (SpellsExtract depth) (extract_stays depth) c.in_ok-extracts.extracts) (stays_reserved (codes "transition"))) (may (may_takes c.in_ok-extracts.ensures.taken c.in_ok-reserved.ensures.taken)) in
    refused_few _ c.from_residual-in_err-next.ensures.1
    (λ more body rest m. c.in_err-next.ensures.only more body.1 rest (after_one (after m (λ b f s. c.in_ok-extracts.ensures.only more body.0 b f (begins_first s))).1 c.in_ok-reserved.ensures.taken))
    (if_deep _ (λ p. bound_opens depth 0 depth 0 0 (omega arith) (omega arith) front p) c.in_err-next.ensures.deep)

pub returns : goal.returns
returns c =
    record {
      taken = may_takes c.in_ok-extracts.ensures.taken (takes_both c.in_ok-reserved.ensures.taken c.in_ok-next.ensures.taken);
      few = c.in_ok-next.ensures.few;
      only = λ more body rest m.
          let m1 = after m (λ b f s. c.in_ok-extracts.ensures.only more body.0 b f (begins_first s)) in
          let m2 = c.in_ok-next.ensures.only more body.1 rest (after_one m1.1 c.in_ok-reserved.ensures.taken) in
          (ap (λ headers. (headers, seen_next c.in_ok-next.next)) m1.0 ∙ ap (λ next. (body.0, next)) m2.0, m2.1);
      deep = tt;
    }
