use Rattle.spelling.proofs.Taking.{takes_both}
use Rattle.p4_parser.proofs.Reaching.{headed}
use Rattle.p4_expr.proofs.Bound.{bound_opens}
use Rattle.std.proofs.Common.{arith, codes}
use Rattle.p4_parser.proofs.StateSpelling.{same_state}
use Rattle.spelling.proofs.Only.{after_one, named_same}
use Rattle.spelling.proofs.Refusals.{refused_few}
use Rattle.spelling.proofs.Bounds.{if_deep}
use Rattle.p4_parser.proofs.states.state.Goals as goal

pub returns-in_err-extracts : goal.returns-in_err-extracts
returns-in_err-extracts c =
    let named = headed (codes "state") c.in_ok-name.name c.in_ok-reserved.ensures.taken c.in_ok-name.ensures.taken in
    refused_few _ c.from_residual-in_err-extracts.ensures.1
    (λ more state rest m. c.in_err-extracts.ensures.only more (state.extracts, state.next) rest (after_one (after_one m c.in_ok-reserved.ensures.taken) c.in_ok-name.ensures.taken))
    (if_deep _ (λ p. bound_opens c.args.depth 0 c.args.depth 1 1 (omega arith) (omega arith) named p) c.in_err-extracts.ensures.deep)

pub returns : goal.returns
returns c =
    record {
      taken = takes_both c.in_ok-reserved.ensures.taken (takes_both c.in_ok-name.ensures.taken c.in_ok-extracts.ensures.taken);
      few = c.in_ok-extracts.ensures.few;
      only = λ more state rest m.
          let m1 = after_one m c.in_ok-reserved.ensures.taken in
          let r = c.in_ok-extracts.ensures.only more (state.extracts, state.next) rest (after_one m1 c.in_ok-name.ensures.taken) in
          (same_state (named_same m1 c.in_ok-name.ensures.taken) r.0, r.1);
      deep = tt;
    }
