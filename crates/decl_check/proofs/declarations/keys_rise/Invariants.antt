use Rattle.std.proofs.Common.{◌≡◌, map, length}
use Rattle.elastic_ast.specs.Typing.Demand.{rises}
use Rattle.elastic_ast.specs.Typing.Asked.{pair_key}
use Rattle.decl_check.proofs.declarations.keys_rise.Given as goal

abbrev pub invariant-loop-rest : goal.invariant-loop-rest
invariant-loop-rest l = rises (map pair_key l.rest) ≡ rises (map pair_key l.pairs)

abbrev pub decreases-loop-rest : goal.decreases-loop-rest
decreases-loop-rest l = length l.rest
