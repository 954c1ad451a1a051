use Rattle.std.proofs.Common.{◌≡◌, drop}
use Rattle.std.specs.Prelude.{flat_map}
use Rattle.elastic_ast.specs.Typing.Demand.{first_broken}
use Rattle.elastic_ast.specs.Typing.Asked.{asks_pair}
use Rattle.decl_check.proofs.declarations.check_pairs.Given as goal

abbrev pub invariant-loop-pair : goal.invariant-loop-pair
invariant-loop-pair l = first_broken l.allow_reserved (flat_map asks_pair (drop l.pair-index l.pairs)) ≡ first_broken l.allow_reserved (flat_map asks_pair l.pairs)
