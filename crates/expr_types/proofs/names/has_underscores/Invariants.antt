use Rattle.std.proofs.Common.{◌≡◌, length}
use Rattle.elastic_ast.specs.Typing.Demand.{has_underscores}
use Rattle.expr_types.proofs.names.has_underscores.Given as goal

abbrev pub invariant-loop-rest : goal.invariant-loop-rest
invariant-loop-rest l = has_underscores l.rest ≡ has_underscores l.name

abbrev pub decreases-loop-rest : goal.decreases-loop-rest
decreases-loop-rest l = length l.rest
