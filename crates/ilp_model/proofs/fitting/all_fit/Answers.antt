use Rattle.std.proofs.Common.{subst}
use Rattle.std.proofs.lemmas.List.Elements.{All-more}
use Rattle.elastic_ast.specs.declared.flat.Unit.{Unit as FlatUnit}
use Rattle.elastic_ast.specs.Units.SeenUnits.{seen_unit}
use Rattle.int_program.proofs.LimitLaws.{all_taken}
use Rattle.ilp_model.specs.InLimits.{FitsUnit}
use Rattle.ilp_model.proofs.fitting.all_fit.Goals as goal

pub loop-unit-preserved : goal.loop-unit-preserved
loop-unit-preserved c = All-more (λ (unit : FlatUnit). FitsUnit (seen_unit unit)) c.args.units.now c.loop-unit.unit-index c.unit-item.result c.loop-unit-test.true c.loop-unit.invariant (subst (λ (unit : FlatUnit). FitsUnit (seen_unit unit)) c.unit-item.is c.unit_fits.ensures)

pub returns : goal.returns
returns c = all_taken (λ (unit : FlatUnit). FitsUnit (seen_unit unit)) c.args.units.now c.loop-unit.unit-index c.loop-unit-test.false c.loop-unit.invariant
