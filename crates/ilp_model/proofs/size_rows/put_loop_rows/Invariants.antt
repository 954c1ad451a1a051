use Rattle.std.proofs.Common.{◌≡◌, ◌++◌}
use Rattle.elastic_ast.specs.Units.Instances.{nth_size, each_turn}
use Rattle.ilp_model.specs.Marks.{is_marked}
use Rattle.ilp_model.specs.Written.{written_marked}
use Rattle.ilp_model.proofs.size_rows.put_loop_rows.Given as goal

abbrev pub invariant-loop-symbol : goal.invariant-loop-symbol
invariant-loop-symbol l = l.rows ≡ l.initial.rows ++ each_turn l.symbol (written_marked (is_marked l.uses) (nth_size l.loops) (nth_size l.bounds))
