use Rattle.std.proofs.Common.{◌≡◌, ◌++◌, ◌∷◌, [], ◌+◌}
use Rattle.elastic_ast.specs.Units.Instances.{each_turn}
use Rattle.ilp_model.specs.WrittenInstances.{written_only}
use Rattle.ilp_model.proofs.instance_rows.put_only_rows.Given as goal

abbrev pub invariant-loop-stage : goal.invariant-loop-stage
invariant-loop-stage l = l.rows ≡ l.initial.rows ++ each_turn l.stage (λ stage. written_only l.most (l.stands + stage) (l.held + stage) ∷ [])
