use Rattle.std.proofs.Common.{◌≡◌, ◌++◌, ◌∷◌, [], ◌+◌}
use Rattle.elastic_ast.specs.Units.Instances.{each_turn}
use Rattle.ilp_model.specs.Written.{written_falling}
use Rattle.ilp_model.proofs.size_rows.put_falling_rows.Given as goal

abbrev pub invariant-loop-index : goal.invariant-loop-index
invariant-loop-index l = l.rows ≡ l.initial.rows ++ each_turn l.index (λ index. written_falling (l.first + index) ∷ [])
