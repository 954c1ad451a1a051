-- What is known of sound units, of the units and the terms as they are kept.
use Rattle.std.proofs.Common.{◌≡◌, ℕ, ◌<◌, List, length, map, Option, Some, None, sym, subst}
use Rattle.std.specs.Prelude.{All}
use Rattle.std.proofs.lemmas.List.Elements.{All-weaker}
use Rattle.elastic_ast.specs.declared.flat.Cells.{Cells}
use Rattle.elastic_ast.specs.declared.flat.Cells.TheVariants.{Fixed, Symbol}
use Rattle.elastic_ast.specs.declared.flat.Steps.{Steps}
use Rattle.elastic_ast.specs.declared.flat.Unit.{Unit as FlatUnit}
use Rattle.elastic_ast.specs.declared.flat.Units.{Units}
use Rattle.elastic_ast.specs.Units.SeenUnits.{seen_unit, seen_units}
use Rattle.size_terms.specs.Rows.{IsNearTable}
use Rattle.unit_flow.specs.SoundUnits.{IsLoopSize, IsCellCount, SoundUnits}
use Rattle.unroll_bound.specs.LoopUses.{NamesSymbol}
use Rattle.unroll_bound.proofs.Totals.{each_more}
use Rattle.std.proofs.lemmas.List.{length-map}
use Rattle.ilp_model.specs.Candidates.{candidates}
use Rattle.ilp_model.specs.ListedCandidates.{listed}
use Rattle.ilp_model.specs.declared.listing.Candidate.{Candidate as Listed}
use Rattle.ilp_model.proofs.ListedUnits.{listed_within}
use Rattle.ilp_model.proofs.Lists.{from_all, to_all}
use Rattle.ilp_model.proofs.Sums.{all_unmap}

named_cells : (symbols : ℕ) (ones : List ℕ) (cells : Option Cells) → IsCellCount symbols ones cells → NamesSymbol symbols cells
named_cells symbols ones None h = tt
named_cells symbols ones (Some (Fixed number)) h = tt
named_cells symbols ones (Some (Symbol symbol)) h = h.0

module _ (units : Units) (bounds : List ℕ) (sound : SoundUnits (seen_units units)) (dense : length bounds ≡ length units.terms.symbols) where
  -- the sizes of loops are symbols that have a bound
  pub loop_sizes : All (λ (unit : FlatUnit). IsLoopSize (length bounds) unit.size) units.list
  loop_sizes =
      subst (λ n. All (λ (unit : FlatUnit). IsLoopSize n unit.size) units.list) (sym dense)
      (to_all (λ (unit : FlatUnit). IsLoopSize (length units.terms.symbols) unit.size) units.list
      (all_unmap seen_unit (λ unit. IsLoopSize (length units.terms.symbols) unit.size) units.list
      (from_all (λ unit. IsLoopSize (length units.terms.symbols) unit.size) (map seen_unit units.list) sound.sizes)))

  -- so are symbols that count cells
  pub cell_symbols : All (λ (unit : FlatUnit). NamesSymbol (length bounds) unit.cells) units.list
  cell_symbols =
      subst (λ n. All (λ (unit : FlatUnit). NamesSymbol n unit.cells) units.list) (sym dense)
      (to_all (λ (unit : FlatUnit). NamesSymbol (length units.terms.symbols) unit.cells) units.list
      (each_more (λ (unit : FlatUnit). IsCellCount (length units.terms.symbols) units.terms.ones unit.cells) (λ (unit : FlatUnit). NamesSymbol (length units.terms.symbols) unit.cells)
      (λ unit h. named_cells (length units.terms.symbols) units.terms.ones unit.cells h) units.list
      (all_unmap seen_unit (λ unit. IsCellCount (length units.terms.symbols) units.terms.ones unit.cells) units.list
      (from_all (λ unit. IsCellCount (length units.terms.symbols) units.terms.ones unit.cells) (map seen_unit units.list) sound.counts))))

  -- and those of step tables
  pub table_symbols : All (λ (table : Steps). table.symbol < length bounds) units.terms.steps
  table_symbols =
      subst (λ n. All (λ (table : Steps). table.symbol < n) units.terms.steps) (sym dense)
      (All-weaker (IsNearTable (length units.terms.symbols)) (λ (table : Steps). table.symbol < length units.terms.symbols) (λ table near. near.place) units.terms.steps sound.short.tables)

-- the numbers of units of listed instances
pub listed_units : (units : Units) (bounds : ℕ → ℕ) (list : List Listed) → list ≡ map listed (candidates (seen_units units) bounds)
    → All (λ (one : Listed). one.unit < length units.list) list
listed_units units bounds list e =
    subst (λ n. All (λ (one : Listed). one.unit < n) list) (length-map units.list seen_unit)
    (subst (λ z. All (λ (one : Listed). one.unit < length (map seen_unit units.list)) z) (sym e) (listed_within (seen_units units) bounds))
