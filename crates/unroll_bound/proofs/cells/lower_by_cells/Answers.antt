use Rattle.std.proofs.Common.{◌≡◌, ℕ, length, map, refl, arith, subst, Some}
use Rattle.elastic_ast.specs.Units.SeenUnits.{seen_unit}
use Rattle.unroll_bound.specs.SizeRules.{lesser, surely_exists, cell_bound, cells_bound}
use Rattle.unroll_bound.specs.SymbolLists.{IsListOf}
use Rattle.unroll_bound.proofs.SymbolListLaws.{walk_back, none_behind, none_left}
use Rattle.unroll_bound.proofs.cells.lower_by_cells.Goals as goal

pub loop-i-init : goal.loop-i-init
loop-i-init c = λ terms certain. none_behind (length c.args.found.now) (λ units symbol. cells_bound terms c.args.memory symbol (map seen_unit units)) c.args.units.now c.args.found.now (c.requires.unset terms)

pub loop-i-preserved : goal.loop-i-preserved
loop-i-preserved c = λ terms certain.
    let same : length c.args.found.now ≡ length c.loop-i.found = omega arith in
    walk_back (length c.args.found.now) (λ units symbol. cells_bound terms c.args.memory symbol (map seen_unit units)) (λ unit symbol bound. lesser (cell_bound terms c.args.memory symbol (seen_unit unit)) bound) (λ unit units symbol. refl)
    c.args.units.now c.loop-i.i c.index-units-i.result c.loop-i.found c.lower_by_unit.new.found (omega arith) (omega arith) c.index-units-i.is (c.loop-i.invariant terms certain)
    (c.lower_by_unit.ensures terms (subst (λ (n : ℕ). IsListOf n (λ symbol. surely_exists terms (Some symbol)) c.args.certain.now) same certain))

pub returns : goal.returns
returns c = λ terms certain. none_left (length c.args.found.now) (λ units symbol. cells_bound terms c.args.memory symbol (map seen_unit units)) c.args.units.now c.loop-i.i c.loop-i.found (omega arith) (c.loop-i.invariant terms certain)
