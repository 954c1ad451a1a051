use Rattle.std.proofs.Common.{List, length, sym, subst}
use Rattle.std.specs.Prelude.{All}
use Rattle.elastic_ast.specs.declared.flat.Unit.{Unit as FlatUnit}
use Rattle.unit_flow.specs.SoundUnits.{IsLoopSize}
use Rattle.unroll_bound.specs.LoopUses.{NamesSymbol}
use Rattle.unroll_bound.proofs.SoundLaws.{sound_sizes, sound_cells}
use Rattle.unroll_bound.proofs.gathering.gather.Goals as goal

pub uses_of_loops-requires : goal.uses_of_loops-requires
uses_of_loops-requires c =
    subst (λ (units : List FlatUnit). All (λ unit. IsLoopSize (length c.as_slice.result.now) unit.size) units) (sym c.as_slice-list.ensures)
    (subst (λ symbols. All (λ (unit : FlatUnit). IsLoopSize (length symbols) unit.size) c.args.units.now.list) (sym c.as_slice.ensures) (sound_sizes c.args.units.now c.requires))

pub bounds_by_cells-requires-clause-sizes : goal.bounds_by_cells-requires-clause-sizes
bounds_by_cells-requires-clause-sizes c =
    subst (λ (units : List FlatUnit). All (λ unit. IsLoopSize (length c.args.units.now.terms.symbols) unit.size) units) (sym c.as_slice-list.ensures) (sound_sizes c.args.units.now c.requires)

pub bounds_by_cells-requires-clause-cells : goal.bounds_by_cells-requires-clause-cells
bounds_by_cells-requires-clause-cells c =
    subst (λ (units : List FlatUnit). All (λ unit. NamesSymbol (length c.args.units.now.terms.symbols) unit.cells) units) (sym c.as_slice-list.ensures) (sound_cells c.args.units.now c.requires)
