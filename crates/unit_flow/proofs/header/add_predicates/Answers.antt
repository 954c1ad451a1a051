use Rattle.std.proofs.Common.{◌+◌, drop, sym, ap, subst}
use Rattle.std.specs.Prelude.{map}
use Rattle.elastic_ast.specs.Units.Cuts.{tests_in}
use Rattle.elastic_ast.specs.Units.PlainUnits.{PlainUnit}
use Rattle.elastic_ast.specs.Units.SeenUnits.{seen_unit}
use Rattle.program_names.proofs.Items.{drop_step}
use Rattle.unit_flow.specs.HeaderCounts.{CountsUnits}
use Rattle.unit_flow.proofs.CountLaws.{counts_step}
use Rattle.unit_flow.proofs.header.add_predicates.Goals as goal

pub loop-unit-preserved : goal.loop-unit-preserved
loop-unit-preserved c = λ new rest.
    c.loop-unit.invariant new
    (subst (CountsUnits c.loop-unit.bits new) (sym (ap (map seen_unit) (drop_step c.args.units.now c.loop-unit.unit-index c.unit-item.result c.loop-unit-test.true c.unit-item.is)))
    (counts_step (λ (unit : PlainUnit). tests_in unit.work) (λ unit. unit.size) c.loop-unit.bits c.add_under.new.bits new (seen_unit c.unit-item.result) (map seen_unit (drop (c.loop-unit.unit-index + 1) c.args.units.now)) c.predicates_in.result c.loop_of.result
    c.predicates_in.ensures c.loop_of.ensures c.in_ok-add_under.ensures rest))
