use Rattle.elastic_ast.specs.Units.Instances.{nth_size}
use Rattle.ilp_model.specs.StepKeys.{keys_from}
use Rattle.ilp_model.proofs.KeyLaws.{tables_step}
use Rattle.ilp_model.proofs.step_keys.step_keys.Goals as goal

pub loop-table-preserved : goal.loop-table-preserved
loop-table-preserved c =
    tables_step (nth_size c.args.bounds.now) c.args.tables.now c.loop-table.table-index c.table-item.result (keys_from (nth_size c.args.bounds.now) 0 c.args.tables.now) c.loop-table.keys c.add_keys.new.keys c.loop-table-test.true c.table-item.is c.in_ok-add_keys.ensures c.loop-table.invariant
