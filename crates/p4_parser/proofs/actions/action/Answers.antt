use Rattle.p4_parser.proofs.DeclarationsWithin.{action_index_stays, params_stay}
use Rattle.spelling.proofs.Taking.{may, may_takes, takes_both}
use Rattle.p4_parser.proofs.Reaching.{headed}
use Rattle.p4_expr.proofs.Bound.{bound_opens}
use Rattle.std.proofs.Common.{arith, codes, inl}
use Rattle.p4_parser.proofs.ActionSpelling.{opens_params, same_action}
use Rattle.spelling.proofs.Only.{after, after_one, named_same, wants}
use Rattle.spelling.proofs.Bounds.{even, if_deep, opens_then, stop_opens}
use Rattle.spelling.proofs.Refusals.{refused_few}
use Rattle.spelling.proofs.Limits.{or_as}
use Rattle.p4_parser.proofs.actions.action.Goals as goal

pub returns-in_err-index : goal.returns-in_err-index
returns-in_err-index c =
    let named = headed (codes "action") c.in_ok-name.name c.in_ok-reserved.ensures.taken c.in_ok-name.ensures.taken in
    refused_few _ c.from_residual-in_err-index.ensures.1
    (λ more action rest m. wants (after_one (after_one m c.in_ok-reserved.ensures.taken) c.in_ok-name.ensures.taken) (λ b f s. or_as _ _ _ (λ few. few.0) (c.in_err-index.ensures.only more action.index b f (opens_params more action s))))
    (if_deep _ (λ s. inl (stop_opens c.args.depth 0 c.args.depth (omega arith) named s)) c.in_err-index.ensures.deep)

pub returns-in_err-params : goal.returns-in_err-params
returns-in_err-params c =
    let named = headed (codes "action") c.in_ok-name.name c.in_ok-reserved.ensures.taken c.in_ok-name.ensures.taken in
    let indexed = opens_then 0 0 named (even c.args.depth (action_index_stays c.args.depth c.in_ok-index.index) c.in_ok-index.ensures.taken) in
    refused_few _ c.from_residual-in_err-params.ensures.1
    (λ more action rest m.
    let m3 = after (after_one (after_one m c.in_ok-reserved.ensures.taken) c.in_ok-name.ensures.taken) (λ b f s. c.in_ok-index.ensures.only more action.index b f (opens_params more action s)) in
    wants m3.1 (λ b f s. or_as _ _ _ (λ few. few.0) (c.in_err-params.ensures.only more action.params b f)))
    (if_deep _ (λ s. inl (stop_opens c.args.depth 0 c.args.depth (omega arith) indexed s)) c.in_err-params.ensures.deep)

pub returns-in_err-body : goal.returns-in_err-body
returns-in_err-body c =
    let named = headed (codes "action") c.in_ok-name.name c.in_ok-reserved.ensures.taken c.in_ok-name.ensures.taken in
    let indexed = opens_then 0 0 named (even c.args.depth (action_index_stays c.args.depth c.in_ok-index.index) c.in_ok-index.ensures.taken) in
    let front = opens_then 0 0 indexed (even c.args.depth (params_stay c.args.depth c.in_ok-params.params) (may c.in_ok-params.ensures.taken)) in
    refused_few _ c.from_residual-in_err-body.ensures.1
    (λ more action rest m.
    let m3 = after (after_one (after_one m c.in_ok-reserved.ensures.taken) c.in_ok-name.ensures.taken) (λ b f s. c.in_ok-index.ensures.only more action.index b f (opens_params more action s)) in
    let m4 = after m3.1 (λ b f s. c.in_ok-params.ensures.only more action.params b f) in
    c.in_err-body.ensures.only more action.body rest m4.1)
    (if_deep _ (λ p. bound_opens c.args.depth 0 c.args.depth 1 1 (omega arith) (omega arith) front p) c.in_err-body.ensures.deep)

pub returns : goal.returns
returns c =
    record {
      taken = takes_both c.in_ok-reserved.ensures.taken (takes_both c.in_ok-name.ensures.taken (may_takes c.in_ok-index.ensures.taken (takes_both c.in_ok-params.ensures.taken c.in_ok-body.ensures.taken)));
      few = c.in_ok-body.ensures.few;
      only = λ more action rest m.
          let m1 = after_one m c.in_ok-reserved.ensures.taken in
          let m3 = after (after_one m1 c.in_ok-name.ensures.taken) (λ b f s. c.in_ok-index.ensures.only more action.index b f (opens_params more action s)) in
          let m4 = after m3.1 (λ b f s. c.in_ok-params.ensures.only more action.params b f) in
          let m5 = c.in_ok-body.ensures.only more action.body rest m4.1 in
          (same_action _ action (named_same m1 c.in_ok-name.ensures.taken) m3.0 m4.0 m5.0, m5.1);
      deep = tt;
    }
