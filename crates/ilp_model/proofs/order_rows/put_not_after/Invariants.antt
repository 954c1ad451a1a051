use Rattle.std.proofs.Common.{◌≡◌, ◌++◌, ◌∷◌, [], ◌+◌, ◌-◌}
use Rattle.elastic_ast.specs.Units.Instances.{each_turn}
use Rattle.ilp_model.specs.WrittenInstances.{written_order}
use Rattle.ilp_model.proofs.order_rows.put_not_after.Given as goal

abbrev pub invariant-loop-stage : goal.invariant-loop-stage
invariant-loop-stage l = l.rows ≡ l.initial.rows ++ each_turn l.stage (λ stage. written_order (l.first + (stage + 1)) (l.stages - (stage + 1)) l.second (stage + 1) ∷ [])
