-- The numbers of the variables as the program keeps them: the first of each loop, of the keys, of the stages and of the cells; this
-- project's own.
use Rattle.std.specs.Prelude.{◌≡◌, ℕ, ◌+◌, ◌<◌, ◌≤◌, length, sum_by}
use Rattle.elastic_ast.specs.Units.PlainUnits.{PlainUnits}
use Rattle.elastic_ast.specs.Units.Instances.{nth_size}
use Rattle.target_desc.specs.declared.target.Target.{Target}
use Rattle.int_program.specs.Limits.{most_variables}
use Rattle.unroll_bound.specs.Counts.{looped_below, variable_count}
use Rattle.ilp_model.specs.Variables.{symbol_count, past_loops, past_keys, past_stages}
use Rattle.ilp_model.specs.declared.numbering.Numbering.{Numbering}

-- these are the numbers of the variables of units at bounds
pub record AreNumbers (units : PlainUnits) (target : Target) (bounds : ℕ → ℕ) (numbers : Numbering) : Type 0 where
  pub dense : length numbers.loops ≡ symbol_count units
  pub loops : (symbol : ℕ) → symbol < symbol_count units → nth_size numbers.loops symbol ≡ symbol_count units + sum_by bounds (looped_below units.list symbol)
  pub keys : numbers.keys ≡ past_loops units bounds
  pub stands : numbers.stands ≡ past_keys units bounds
  pub held : numbers.held ≡ past_stages units target bounds
  pub stages : numbers.stages ≡ target.stages
  pub few : variable_count units target bounds ≤ most_variables
