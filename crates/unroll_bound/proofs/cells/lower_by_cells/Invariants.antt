use Rattle.std.proofs.Common.{drop, length, map, Some}
use Rattle.elastic_ast.specs.declared.flat.Terms.{Terms}
use Rattle.elastic_ast.specs.Units.SeenUnits.{seen_unit}
use Rattle.unroll_bound.specs.SizeRules.{surely_exists, cells_bound}
use Rattle.unroll_bound.specs.SymbolLists.{IsListOf}
use Rattle.unroll_bound.proofs.cells.lower_by_cells.Given as goal

abbrev pub invariant-loop-i : goal.invariant-loop-i
invariant-loop-i l =
    (terms : Terms) → IsListOf (length l.initial.found) (λ symbol. surely_exists terms (Some symbol)) l.certain → IsListOf (length l.initial.found) (λ symbol. cells_bound terms l.memory symbol (map seen_unit (drop l.i l.units))) l.found
