use Rattle.std.proofs.Common.{sym, subst, length, ◌<◌}
use Rattle.std.specs.Prelude.{All}
use Rattle.elastic_ast.specs.Units.Instances.{nth_size}
use Rattle.unroll_bound.specs.LoopUses.{NamesSymbol}
use Rattle.ilp_model.proofs.AllTops.{all_tops}
use Rattle.ilp_model.proofs.UnitFacts.{cell_symbols, listed_units}
use Rattle.ilp_model.proofs.tops.tops.Goals as goal

pub put_held_tops-requires-clause-units : goal.put_held_tops-requires-clause-units
put_held_tops-requires-clause-units c =
    subst (λ units. All (λ one. one.unit < length units) c.args.list.now) (sym c.as_slice.ensures)
    (listed_units c.args.units.now (nth_size c.args.bounds.now) c.args.list.now c.requires.list)

pub put_held_tops-requires-clause-cells : goal.put_held_tops-requires-clause-cells
put_held_tops-requires-clause-cells c =
    subst (λ units. All (λ unit. NamesSymbol (length c.args.bounds.now) unit.cells) units) (sym c.as_slice.ensures)
    (cell_symbols c.args.units.now c.args.bounds.now c.requires.sound c.requires.within.found.dense)

pub returns : goal.returns
returns c =
    all_tops c.args.units.now c.args.target.now c.args.bounds.now c.requires.within.found.dense c.args.list.now c.requires.list c.as_slice.result.now c.as_slice.ensures
    c.args.numbers.now.held c.from.result c.requires.numbers.held c.from.ensures c.new-tops.result c.put_bounds.new.tops c.put_tops.new.tops c.put_held_tops.new.tops
    c.new-tops.ensures c.in_ok-put_bounds.ensures c.in_ok-put_tops.ensures c.in_ok-put_held_tops.ensures
