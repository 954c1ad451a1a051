-- What the units in the loops over a symbol come to, as it is gathered; this project's own.
use Rattle.std.specs.Prelude.{◌≡◌, ℕ, ◌+◌, ◌*◌, ◌^◌, ◌≤◌, ◌<◌, true, ◌||◌, List, Option, Some, None, if◌then◌else◌}
use Rattle.elastic_ast.specs.declared.flat.Cells.{Cells}
use Rattle.elastic_ast.specs.declared.flat.Cells.TheVariants as cells
use Rattle.elastic_ast.specs.Units.PlainUnits.{PlainUnit}
use Rattle.dep_graph.specs.declared.resource.Resource.TheVariants as resource
use Rattle.dep_graph.specs.Use.{taken_by}
use Rattle.unroll_bound.specs.SizeRules.{is_symbol, looped_sum, one_each, writes_shared, is_shared}
use Rattle.unroll_bound.specs.Counts.{is_looped}
use Rattle.unroll_bound.specs.declared.loop_uses.LoopUse.{LoopUse}

-- what the units in loops over a symbol come to
abbrev pub loop_use : List PlainUnit → ℕ → LoopUse
loop_use units symbol =
    record {
      looped = is_looped units symbol;
      stateful = looped_sum (taken_by resource.Stateful one_each) symbol units;
      stateless = looped_sum (taken_by resource.Stateless one_each) symbol units;
      memory = looped_sum (taken_by resource.Memory one_each) symbol units;
      shared = is_shared symbol units;
    }

-- the same with a unit in such a loop
abbrev pub with_looped : PlainUnit → LoopUse → LoopUse
with_looped unit taken =
    record {
      looped = true;
      stateful = taken_by resource.Stateful one_each unit + taken.stateful;
      stateless = taken_by resource.Stateless one_each unit + taken.stateless;
      memory = taken_by resource.Memory one_each unit + taken.memory;
      shared = writes_shared unit || taken.shared;
    }

abbrev pub with_unit : PlainUnit → ℕ → LoopUse → LoopUse
with_unit unit symbol taken = if is_symbol symbol unit.size then with_looped unit taken else taken

-- the most that a unit takes, where a symbolic number of cells counts as 1
abbrev pub most_amount : ℕ
most_amount = 2 ^ 41

abbrev pub most_units : ℕ
most_units = 2 ^ 64

-- no number is above that for each of this many units
pub record IsSmallUse (units : ℕ) (taken : LoopUse) : Type 0 where
  pub stateful : taken.stateful ≤ units * most_amount
  pub stateless : taken.stateless ≤ units * most_amount
  pub memory : taken.memory ≤ units * most_amount

-- a unit in the loop has joined
pub record JoinsLoop (unit : PlainUnit) (old new : LoopUse) : Type 0 where
  pub joined : new ≡ with_looped unit old
  pub small : (units : ℕ) → IsSmallUse units old → IsSmallUse (units + 1) new

-- the number of cells is the size of one of this many symbols, where it is one
abbrev pub NamesSymbol : ℕ → Option Cells → Type 0
NamesSymbol symbols None = Unit {0}
NamesSymbol symbols (Some (cells.Fixed number)) = Unit {0}
NamesSymbol symbols (Some (cells.Symbol symbol)) = symbol < symbols
