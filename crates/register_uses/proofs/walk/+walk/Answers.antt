use Rattle.std.proofs.Common.{◌+◌, ◌++◌, take, flat_map, sym, ap, ◌∙◌, subst}
use Rattle.std.proofs.lemmas.Result.{on_ok_weaker}
use Rattle.elastic_ast.specs.declared.statements.Stmt.TheVariants as stmt
use Rattle.elastic_ast.specs.Seen.{seen_stmt, seen_stmts}
use Rattle.elastic_ast.specs.Typing.NamedRegisters.{unit_registers, units_registers}
use Rattle.elastic_ast.proofs.SeenLaws.{seen_stmt-if_else}
use Rattle.register_uses.specs.LocalTables.{seen_locals}
use Rattle.register_uses.specs.Walks.{HasAdded}
use Rattle.register_uses.proofs.ListLaws.{units_given, stmts_given, given_more, given_all}
use Rattle.register_uses.proofs.WalkLaws.{has_added}
use Rattle.register_uses.proofs.walk.+walk.Goals as goal

pub add_stmt-returns-in-Some : goal.add_stmt-returns-in-Some
add_stmt-returns-in-Some t c =
    let locals = seen_locals c.args.locals.now in
    let units = units_registers locals c.args.looped in
    on_ok_weaker c.add_stmts-in-Some.result
    (λ h. has_added c.args.locals.now c.args.walk.now c.add_stmts-in-If.new.walk c.add_stmts-in-Some.new.walk (units (seen_stmts c.as_slice-in-If.result.now)) (units (seen_stmts c.as_slice-in-Some.result.now))
    (unit_registers locals c.args.looped (seen_stmt c.args.stmt.now)) c.in_ok-add_stmts-in-If.ensures h
    (ap (λ z. unit_registers locals c.args.looped (seen_stmt z)) (c.in-If.is ∙ ap (stmt.If c.in-If.cond c.in-If.yes) c.in-Some.is)
    ∙ ap (unit_registers locals c.args.looped) (seen_stmt-if_else c.in-If.cond c.in-If.yes c.in-Some.no)
    ∙ ap (λ z. units (seen_stmts z) ++ units (seen_stmts c.in-Some.no)) (sym c.as_slice-in-If.ensures) ∙ ap (λ z. units (seen_stmts c.as_slice-in-If.result.now) ++ units (seen_stmts z)) (sym c.as_slice-in-Some.ensures)))
    c.add_stmts-in-Some.ensures

pub add_stmts-loop-stmt-preserved : goal.add_stmts-loop-stmt-preserved
add_stmts-loop-stmt-preserved t c =
    let given = units_given (seen_locals c.args.locals.now) c.args.looped in
    has_added c.args.locals.now c.args.walk.now c.loop-stmt.walk c.add_stmt.new.walk (flat_map given (take c.loop-stmt.stmt-index c.args.stmts.now)) (given c.stmt-item.result) (flat_map given (take (c.loop-stmt.stmt-index + 1) c.args.stmts.now))
    c.loop-stmt.invariant c.in_ok-add_stmt.ensures (given_more given c.args.stmts.now c.loop-stmt.stmt-index c.stmt-item.result c.loop-stmt-test.true c.stmt-item.is)

pub add_stmts-returns : goal.add_stmts-returns
add_stmts-returns t c =
    subst (HasAdded c.args.locals.now c.args.walk.now c.loop-stmt.walk)
    (given_all (units_given (seen_locals c.args.locals.now) c.args.looped) c.args.stmts.now c.loop-stmt.stmt-index c.loop-stmt-test.false ∙ stmts_given (seen_locals c.args.locals.now) c.args.looped c.args.stmts.now) c.loop-stmt.invariant
