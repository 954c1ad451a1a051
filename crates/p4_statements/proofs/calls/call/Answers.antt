use Rattle.elastic_ast.specs.Tree.{PlainStmt}
use Rattle.spelling.proofs.Only.{after, after_one, alone, named_same, same_end, wants, wants_one}
use Rattle.spelling.proofs.Bounds.{if_deep, in_both, in_named, refused_deep}
use Rattle.std.proofs.Common.{ap, inl, subst, sym, ◌∙◌}
use Rattle.spelling.proofs.Taking.{may, may_takes, takes_both, takes_may}
use Rattle.spelling.specs.Reading.{Takes, ahead}
use Rattle.p4_statements.proofs.Lines.{past, stop_after}
use Rattle.spelling.proofs.Balance.{stays_both, stays_named}
use Rattle.spelling.proofs.Refusals.{refused_few_made}
use Rattle.spelling.proofs.Limits.{or_as, want_or}
use Rattle.p4_statements.specs.Reading.{HasFew, SpellsSimple}
use Rattle.elastic_ast.specs.Seen.{seen_exprs}
use Rattle.p4_expr.proofs.PartsWithin.{index_stays}
use Rattle.p4_expr.proofs.InLines.{index_in_line}
use Rattle.elastic_ast.proofs.SeenLaws.{seen_stmt-call}
use Rattle.p4_statements.proofs.Arguments.{arguments_end}
use Rattle.p4_statements.proofs.calls.call.Goals as goal

pub returns-in_err-index : goal.returns-in_err-index
returns-in_err-index c =
    refused_few_made _ c.from_residual-in_err-index.ensures.1
    (λ more of rest m. wants (after_one m c.in_ok-action.ensures.taken) (λ b f s. or_as _ _ _ (λ few. few.0) (c.in_err-index.ensures.only more of.1 b f (arguments_end more of.2 s))))
    (if_deep _ (λ s. inl (stop_after c.args.depth (may c.in_ok-action.ensures.taken) (stays_named c.in_ok-action.action) (in_named c.in_ok-action.action) s)) c.in_err-index.ensures.deep)

pub returns-in_err-args : goal.returns-in_err-args
returns-in_err-args c =
    refused_few_made _ c.from_residual-in_err-args.ensures.1
    (λ more of rest m.
    let m2 = after (after_one m c.in_ok-action.ensures.taken) (λ b f s. c.in_ok-index.ensures.only more of.1 b f (arguments_end more of.2 s)) in
    wants m2.1 (λ b f s. c.in_err-args.ensures.only more of.2 b f))
    (if_deep _ (λ p. past c.args.depth (may (takes_may c.in_ok-action.ensures.taken c.in_ok-index.ensures.taken)) (stays_both (stays_named c.in_ok-action.action) (index_stays c.args.depth c.in_ok-index.index)) (in_both (in_named c.in_ok-action.action) (index_in_line c.args.depth c.in_ok-index.index)) p) c.in_err-args.ensures.deep)

pub returns-in_err-sign : goal.returns-in_err-sign
returns-in_err-sign c =
    refused_few_made _ c.from_residual-in_err-sign.ensures.1
    (λ more of rest m.
    let m2 = after (after_one m c.in_ok-action.ensures.taken) (λ b f s. c.in_ok-index.ensures.only more of.1 b f (arguments_end more of.2 s)) in
    let m3 = after m2.1 (λ b f s. c.in_ok-args.ensures.only more of.2 b f) in
    want_or _ _ (wants_one _ _ (alone m3.1) c.in_err-sign.ensures.refused))
    (refused_deep _ _ _ _ c.in_err-sign.ensures.refused)

pub returns : goal.returns
returns c =
    let shown = seen_stmt-call c.in_ok-action.action c.in_ok-index.index c.in_ok-args.args in
    record {
      taken = subst (λ s. Takes (SpellsSimple c.args.depth s) (ahead c.args.reader.now) (ahead c.sign.new.self)) (sym shown)
          (takes_both c.in_ok-action.ensures.taken (may_takes c.in_ok-index.ensures.taken (takes_both c.in_ok-args.ensures.taken c.in_ok-sign.ensures.taken)));
      few = subst HasFew (sym shown) c.in_ok-args.ensures.few;
      only = λ more of rest m.
          let m2 = after (after_one m c.in_ok-action.ensures.taken) (λ b f s. c.in_ok-index.ensures.only more of.1 b f (arguments_end more of.2 s)) in
          let m3 = after m2.1 (λ b f s. c.in_ok-args.ensures.only more of.2 b f) in
          (shown ∙ ap (λ a. PlainStmt.Call a c.in_ok-index.index (seen_exprs c.in_ok-args.args)) (named_same m c.in_ok-action.ensures.taken) ∙ ap (λ i. PlainStmt.Call of.0 i (seen_exprs c.in_ok-args.args)) m2.0 ∙ ap (PlainStmt.Call of.0 of.1) m3.0, same_end m3.1 c.in_ok-sign.ensures.taken);
      deep = tt;
    }
