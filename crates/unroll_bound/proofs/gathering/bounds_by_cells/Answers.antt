use Rattle.std.proofs.Common.{◌≡◌, ℕ, rules, length, map, subst, sym, arith}
use Rattle.elastic_ast.specs.Units.SeenUnits.{seen_unit}
use Rattle.unroll_bound.specs.SizeRules.{cells_bound}
use Rattle.unroll_bound.specs.SymbolLists.{IsListOf}
use Rattle.unroll_bound.proofs.SymbolListLaws.{take_front}
use Rattle.unroll_bound.proofs.gathering.bounds_by_cells.Goals as goal

pub returns : goal.returns
returns c =
    let sized : length c.as_mut_slice.result.now ≡ length c.args.terms.now.symbols = search rules in
    let lowered : IsListOf (length c.args.terms.now.symbols) (λ symbol. cells_bound c.args.terms.now c.args.memory symbol (map seen_unit c.args.units.now)) c.lower_by_cells.new.found =
    subst (λ (n : ℕ). IsListOf n (λ symbol. cells_bound c.args.terms.now c.args.memory symbol (map seen_unit c.args.units.now)) c.lower_by_cells.new.found) sized
    (c.lower_by_cells.ensures c.args.terms.now (search rules)) in
    let symbols : c.in_ok-found.found.len ≡ length c.args.terms.now.symbols = search rules in
    subst (λ z. IsListOf (length c.args.terms.now.symbols) (λ symbol. cells_bound c.args.terms.now c.args.memory symbol (map seen_unit c.args.units.now)) z)
    (sym (take_front c.lower_by_cells.new.found _ c.in_ok-found.found.len (let d = lowered.dense in omega (arith, d, symbols)))) lowered
