use Rattle.std.proofs.Common.{◌≡◌, drop}
use Rattle.elastic_ast.specs.Seen.{seen_exprs}
use Rattle.elastic_ast.specs.Typing.Demand.{first_broken}
use Rattle.elastic_ast.specs.Typing.AskedInStatements.{asks_args}
use Rattle.expr_types.specs.Placed.{scope_at}
use Rattle.stmt_check.proofs.statements.check_args.Given as goal

abbrev pub invariant-loop-i : goal.invariant-loop-i
invariant-loop-i l =
    first_broken l.allow_reserved (asks_args (scope_at l.place) (seen_exprs (drop l.i l.args)) (drop l.i l.params))
    ≡ first_broken l.allow_reserved (asks_args (scope_at l.place) (seen_exprs l.args) l.params)
