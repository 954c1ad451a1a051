use Rattle.std.proofs.Common.{map, ap}
use Rattle.std.proofs.lemmas.Result.{on_ok_weaker}
use Rattle.elastic_ast.specs.Units.Instances.{nth_size}
use Rattle.elastic_ast.specs.Units.SeenUnits.{seen_unit, seen_units}
use Rattle.ilp_model.proofs.InstanceFacts.{all_fit_of}
use Rattle.ilp_model.proofs.GroupBridge.{rows_of_seen}
use Rattle.ilp_model.proofs.instance_groups.put_instance_rows.Goals as goal

pub put_groups-requires-clause-fits : goal.put_groups-requires-clause-fits
put_groups-requires-clause-fits c =
    all_fit_of (seen_units c.args.units.now) c.args.target.now (nth_size c.args.bounds.now) c.args.numbers.now c.requires.sound c.requires.range
    c.requires.numbers c.args.list.now c.requires.list (map seen_unit c.as_slice-each.result.now) (ap (map seen_unit) c.as_slice-each.ensures)

pub returns : goal.returns
returns c =
    on_ok_weaker c.put_groups.result
    (rows_of_seen (seen_units c.args.units.now) c.args.target.now (nth_size c.args.bounds.now) c.args.numbers.now c.requires.sound c.requires.range
    c.requires.numbers c.args.list.now c.requires.list (map seen_unit c.as_slice-each.result.now) (ap (map seen_unit) c.as_slice-each.ensures)
    c.args.rows.now c.put_groups.new.rows)
    c.put_groups.ensures
