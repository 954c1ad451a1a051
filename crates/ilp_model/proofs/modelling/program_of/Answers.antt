use Rattle.std.proofs.Common.{◌∙◌, to_z, of_z, arith}
use Rattle.std.proofs.lemmas.Int.{to_z-of_z, fits_signed_from_abs}
use Rattle.std.specs.Int.{w128}
use Rattle.elastic_ast.specs.Units.Instances.{nth_size}
use Rattle.elastic_ast.specs.Units.SeenUnits.{seen_units}
use Rattle.ilp_model.proofs.ModelLaws.{program_is}
use Rattle.ilp_model.proofs.modelling.program_of.Goals as goal

pub returns : goal.returns
returns c =
    program_is (seen_units c.args.units.now) c.args.target.now (nth_size c.args.bounds.now) c.in_ok-tops.tops c.new-rows.result c.put_size_groups.new.rows
    c.put_instance_rows.new.rows c.in_ok-goal.goal (to_z w128 (of_z w128 c.constant-base.result)) c.in_ok-tops.ensures c.new-rows.ensures
    c.in_ok-put_size_groups.ensures c.in_ok-put_instance_rows.ensures c.in_ok-goal.ensures
    (to_z-of_z w128 c.constant-base.result (fits_signed_from_abs w128 c.constant-base.result (let most = c.constant-base.ensures.most in omega (arith, most))) ∙ c.constant-base.ensures.value)
