use Rattle.std.proofs.Common.{◌≡◌, drop, map}
use Rattle.elastic_ast.specs.Seen.{seen_stmts, seen_local}
use Rattle.elastic_ast.specs.Typing.Demand.{first_broken}
use Rattle.elastic_ast.specs.Typing.AskedInStatements.{asks_stmts}
use Rattle.expr_types.specs.Placed.{scope_at}
use Rattle.stmt_check.proofs.statements.+walk.Given as goal

abbrev pub invariant-check_stmts-loop-stmt : goal.invariant-check_stmts-loop-stmt
invariant-check_stmts-loop-stmt l =
    first_broken l.allow_reserved (asks_stmts (scope_at l.place) (map seen_local l.locals) (seen_stmts (drop l.stmt-index l.stmts)))
    ≡ first_broken l.allow_reserved (asks_stmts (scope_at l.place) (map seen_local l.locals) (seen_stmts l.stmts))
