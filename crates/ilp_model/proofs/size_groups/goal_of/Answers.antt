use Rattle.std.proofs.Common.{◌∙◌, ◌++◌, ap}
use Rattle.std.specs.Prelude.{flat_map}
use Rattle.ilp_model.specs.Written.{written_sizes, written_rise}
use Rattle.std.proofs.lemmas.Result.{IfOk-weaker}
use Rattle.elastic_ast.specs.Units.SeenUnits.{seen_units}
use Rattle.ilp_model.proofs.GroupLaws.{keys_numbered, goal_written}
use Rattle.ilp_model.proofs.size_groups.goal_of.Goals as goal

pub objective-requires-clause-numbers : goal.objective-requires-clause-numbers
objective-requires-clause-numbers c =
    keys_numbered (seen_units c.args.units.now) c.args.target.now c.args.bounds.now c.requires.sound c.requires.within c.args.numbers.now c.requires.numbers
    c.args.keys.now c.requires.keys

pub returns : goal.returns
returns c =
    IfOk-weaker c.objective.result _ _
    (λ goal e. e ∙ ap (λ by. written_sizes 0 by ++ flat_map (written_rise c.args.numbers.now.keys) c.args.keys.now) c.as_slice.ensures
    ∙ goal_written (seen_units c.args.units.now) c.args.target.now c.args.bounds.now c.requires.sound c.requires.within c.args.numbers.now c.requires.numbers
    c.args.keys.now c.requires.keys) c.objective.ensures
