use Rattle.std.proofs.Common.{Some, map, ap, sym, ◌∙◌}
use Rattle.elastic_ast.specs.Seen.{seen_stmt, seen_stmts, seen_local}
use Rattle.elastic_ast.proofs.SeenLaws.{seen_stmt-read, seen_stmt-for}
use Rattle.elastic_ast.specs.Typing.Scope.{Scope, or_else}
use Rattle.elastic_ast.specs.Typing.Demand.{first_broken}
use Rattle.elastic_ast.specs.Typing.AskedInStatements.{asks_loop, in_loop, asks_stmt, asks_stmts}
use Rattle.elastic_ast.proofs.Typing.First.{first-append}
use Rattle.expr_types.specs.Agreeing.{name_now}
use Rattle.expr_types.specs.Placed.{scope_at}
use Rattle.stmt_check.proofs.Steps.{stops_here, goes_past}
use Rattle.stmt_check.proofs.StatementLaws.{stmts_step}
use Rattle.stmt_check.proofs.statements.+walk.Goals as goal

pub check_stmt-returns-in-Read : goal.check_stmt-returns-in-Read
check_stmt-returns-in-Read t c =
    c.check_read.ensures ∙ sym (ap (λ z. first_broken c.args.allow_reserved (asks_stmt (scope_at c.args.place.now) (map seen_local c.args.locals.now) z)) (ap seen_stmt c.in-Read.is ∙ seen_stmt-read c.in-Read.to c.in-Read.reg c.in-Read.cell))

pub check_stmt-returns-in-For : goal.check_stmt-returns-in-For
check_stmt-returns-in-For t c =
    let s : Scope = scope_at c.args.place.now in
    c.either-in-For.ensures
    ∙ ap (λ z. or_else z c.check_stmts-second-in-For.result) c.check_loop-first.ensures
    ∙ ap (λ z. or_else (first_broken c.args.allow_reserved (asks_loop s c.in-For.index c.in-For.size)) z)
    (c.check_stmts-second-in-For.ensures ∙ ap (λ z. first_broken c.args.allow_reserved (asks_stmts z (map seen_local c.args.locals.now) (seen_stmts c.as_slice-in-For-2.result.now))) c.in_loop-inner.ensures
    ∙ ap (λ z. first_broken c.args.allow_reserved (asks_stmts (record s { index = Some c.in-For.index; sizes = map name_now z }) (map seen_local c.args.locals.now) (seen_stmts c.as_slice-in-For-2.result.now))) c.as_slice-in-For.ensures
    ∙ ap (λ z. first_broken c.args.allow_reserved (asks_stmts (in_loop s c.in-For.index c.in-For.size) (map seen_local c.args.locals.now) (seen_stmts z))) c.as_slice-in-For-2.ensures)
    ∙ sym (first-append c.args.allow_reserved (asks_loop s c.in-For.index c.in-For.size) (asks_stmts (in_loop s c.in-For.index c.in-For.size) (map seen_local c.args.locals.now) (seen_stmts c.in-For.body)))
    ∙ sym (ap (λ z. first_broken c.args.allow_reserved (asks_stmt s (map seen_local c.args.locals.now) z)) (ap seen_stmt c.in-For.is ∙ seen_stmt-for c.in-For.index c.in-For.size c.in-For.body))

pub check_stmts-returns-in-Some : goal.check_stmts-returns-in-Some
check_stmts-returns-in-Some t c =
    stops_here c.in-Some.rule _ _ _ _
    (stmts_step c.args.allow_reserved (scope_at c.args.place.now) (map seen_local c.args.locals.now) c.args.stmts.now c.loop-stmt.stmt-index c.stmt-item.result c.loop-stmt-test.true c.stmt-item.is)
    (sym c.in-Some.is ∙ c.check_stmt.ensures) c.loop-stmt.invariant

pub check_stmts-loop-stmt-preserved : goal.check_stmts-loop-stmt-preserved
check_stmts-loop-stmt-preserved t c =
    goes_past _ _ _ _
    (stmts_step c.args.allow_reserved (scope_at c.args.place.now) (map seen_local c.args.locals.now) c.args.stmts.now c.loop-stmt.stmt-index c.stmt-item.result c.loop-stmt-test.true c.stmt-item.is)
    (sym c.in-None.is ∙ c.check_stmt.ensures) c.loop-stmt.invariant
