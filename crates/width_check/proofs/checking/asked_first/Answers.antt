use Rattle.std.proofs.Common.{rules, arith, ◌≡◌, ℕ, List, length, ap, subst, ◌∙◌, ◌+◌}
use Rattle.std.specs.Prelude.{slice_get}
use Rattle.elastic_ast.specs.declared.declarations.Decl.{Decl}
use Rattle.elastic_ast.specs.Seen.{seen_decl, seen_decls}
use Rattle.expr_types.specs.Scoped.{HasNames}
use Rattle.width_check.proofs.CheckLaws.{got, seen_at}
use Rattle.width_check.proofs.FoundLaws.{names_at_end, next_here, up_to_next}
use Rattle.width_check.proofs.checking.asked_first.Goals as goal

pub check_next-requires : goal.check_next-requires
check_next-requires c = record { here = ap (λ z. slice_get z.0 z.1) c.loop-i.invariant.here ∙ got c.args.decls.now c.loop-i.i c.index-decls-i.result c.loop-i-test.true c.index-decls-i.is }

pub returns-in-Err-Broken-clause-first : goal.returns-in-Err-Broken-clause-first
returns-in-Err-Broken-clause-first c = record {
  decl = seen_decl c.index-decls-i.result;
  here = seen_at c.args.decls.now c.loop-i.i c.index-decls-i.result c.loop-i-test.true c.index-decls-i.is;
  broken = search (rules, next_here);
  first = c.loop-i.invariant.asks;
}

pub returns-in-Err-Broken-clause-names : goal.returns-in-Err-Broken-clause-names
returns-in-Err-Broken-clause-names c = subst (λ (z : List Decl × ℕ). HasNames z c.names.result) (c.in-Err-Broken.ensures.kept ∙ c.loop-i.invariant.here) c.names.ensures

pub loop-i-preserved : goal.loop-i-preserved
loop-i-preserved c = record {
  here = c.in-Ok.ensures.passed ∙ ap (λ z. (z.0, z.1 + 1)) c.loop-i.invariant.here;
  asks = up_to_next (seen_decls c.args.decls.now) _ c.loop-i.i (seen_decl c.index-decls-i.result) (seen_at c.args.decls.now c.loop-i.i c.index-decls-i.result c.loop-i-test.true c.index-decls-i.is)
      (next_here c.args.allow_reserved c.args.decls.now c.loop-i.walk c.loop-i.i c.index-decls-i.result c.loop-i.invariant.here ∙ c.in-Ok.ensures.fine) c.loop-i.invariant.asks;
}

pub returns-clause-names : goal.returns-clause-names
returns-clause-names c =
    let all : c.loop-i.i ≡ length c.args.decls.now = omega (arith, c.loop-i-test.false, c.loop-i.auto.i-end) in
    names_at_end c.args.decls.now c.loop-i.walk c.names-2.result (c.loop-i.invariant.here ∙ ap (λ i. (c.args.decls.now, i)) all) c.names-2.ensures
