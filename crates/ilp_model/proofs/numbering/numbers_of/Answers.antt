use Rattle.std.proofs.Common.{sym, subst, length}
use Rattle.std.specs.Prelude.{All}
use Rattle.elastic_ast.specs.Units.SeenUnits.{seen_units}
use Rattle.unit_flow.specs.SoundUnits.{IsLoopSize}
use Rattle.ilp_model.proofs.NumbersAre.{marks_of, loops_few, keys_few, stages_few, numbers_are}
use Rattle.ilp_model.proofs.UnitFacts.{loop_sizes}
use Rattle.ilp_model.proofs.numbering.numbers_of.Goals as goal

pub uses_of_loops-requires : goal.uses_of_loops-requires
uses_of_loops-requires c =
    subst (λ units. All (λ unit. IsLoopSize (length c.args.bounds.now) unit.size) units) (sym c.as_slice.ensures)
    (loop_sizes c.args.units.now c.args.bounds.now c.requires.sound c.requires.within.found.dense)

pub loop_starts-requires-clause-few : goal.loop_starts-requires-clause-few
loop_starts-requires-clause-few c =
    loops_few (seen_units c.args.units.now) c.args.target.now c.args.bounds.now c.requires.sound c.requires.within c.as_slice-2.result.now
    (marks_of c.args.units.now c.as_slice.result.now (length c.args.bounds.now) c.as_slice-2.result.now c.in_ok-uses.uses.items c.as_slice.ensures c.in_ok-uses.ensures
    c.as_slice-2.ensures.value)

pub past_each-stands-requires-clause-few : goal.past_each-stands-requires-clause-few
past_each-stands-requires-clause-few c =
    keys_few (seen_units c.args.units.now) c.args.target.now c.args.bounds.now c.requires.sound c.requires.within c.as_slice-2.result.now
    (marks_of c.args.units.now c.as_slice.result.now (length c.args.bounds.now) c.as_slice-2.result.now c.in_ok-uses.uses.items c.as_slice.ensures c.in_ok-uses.ensures
    c.as_slice-2.ensures.value)
    c.in_ok-starts.starts.loops c.in_ok-starts.starts.past c.in_ok-starts.ensures c.args.keys.now c.requires.keys c.args.list.now c.requires.list

pub past_each-requires-clause-few : goal.past_each-requires-clause-few
past_each-requires-clause-few c =
    stages_few (seen_units c.args.units.now) c.args.target.now c.args.bounds.now c.requires.sound c.requires.within c.as_slice-2.result.now
    (marks_of c.args.units.now c.as_slice.result.now (length c.args.bounds.now) c.as_slice-2.result.now c.in_ok-uses.uses.items c.as_slice.ensures c.in_ok-uses.ensures
    c.as_slice-2.ensures.value)
    c.in_ok-starts.starts.loops c.in_ok-starts.starts.past c.in_ok-starts.ensures c.args.keys.now c.requires.keys c.args.list.now c.requires.list
    c.past_each-stands.result c.from-stages.result c.from-stages.ensures c.past_each-stands.ensures

pub returns : goal.returns
returns c =
    numbers_are (seen_units c.args.units.now) c.args.target.now c.args.bounds.now c.requires.sound c.requires.within c.as_slice-2.result.now
    (marks_of c.args.units.now c.as_slice.result.now (length c.args.bounds.now) c.as_slice-2.result.now c.in_ok-uses.uses.items c.as_slice.ensures c.in_ok-uses.ensures
    c.as_slice-2.ensures.value)
    c.in_ok-starts.starts.loops c.in_ok-starts.starts.past c.in_ok-starts.ensures c.args.keys.now c.requires.keys c.args.list.now c.requires.list
    c.past_each-stands.result c.past_each.result c.from-stages.result c.from-stages.ensures c.past_each-stands.ensures c.past_each.ensures
