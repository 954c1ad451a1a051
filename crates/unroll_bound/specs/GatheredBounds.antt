-- What is gathered of all symbols, from which their bounds are found, and what is asked of these; this project's own.
use Rattle.std.specs.Prelude.{ℕ, ◌≤◌, List, length}
use Rattle.elastic_ast.specs.Units.PlainUnits.{PlainUnits}
use Rattle.elastic_ast.specs.Units.Instances.{nth_size}
use Rattle.int_program.specs.Limits.{most_variables, most_rows}
use Rattle.target_desc.specs.declared.target.Target.{Target}
use Rattle.unroll_bound.specs.declared.gathering.Gathered.{Gathered}
use Rattle.unroll_bound.specs.BoundAnswers.{most_at_bounds}
use Rattle.unroll_bound.specs.Counts.{instance_count, variable_count, row_count}
use Rattle.unroll_bound.specs.LoopUses.{loop_use}
use Rattle.unroll_bound.specs.SizeRules.{rows_bound, cells_bound}
use Rattle.unroll_bound.specs.SymbolLists.{IsListOf}

-- what the rows, the loops and the cells say of each symbol
pub record IsGathered (units : PlainUnits) (target : Target) (gathered : Gathered) : Type 0 where
  pub rows : IsListOf (length units.terms.symbols) (λ symbol. rows_bound symbol units.terms.rows) gathered.rows.items
  pub uses : IsListOf (length units.terms.symbols) (loop_use units.list) gathered.uses.items
  pub cells : IsListOf (length units.terms.symbols) (λ symbol. cells_bound units.terms target.memory_bits symbol units.list) gathered.cells.items

-- at bounds there are no more instances, variables and rows than are taken
pub record AreFewAt (units : PlainUnits) (target : Target) (bounds : List ℕ) : Type 0 where
  pub instances : instance_count units.list (nth_size bounds) ≤ most_at_bounds
  pub variables : variable_count units target (nth_size bounds) ≤ most_variables
  pub rows : row_count units target (nth_size bounds) ≤ most_rows
