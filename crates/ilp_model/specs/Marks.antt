-- The symbols over which loops with units run, as they are marked, and the first numbers of their indices' variables; this project's own.
use Rattle.std.specs.Prelude.{◌≡◌, ℕ, ◌+◌, ◌<◌, Bool, List, [], length, filter, get_or, sum_by, if◌then◌else◌}
use Rattle.elastic_ast.specs.Units.Instances.{nth_size}
use Rattle.unroll_bound.specs.Counts.{numbers_below}
use Rattle.unroll_bound.specs.LoopUses.{loop_use}
use Rattle.unroll_bound.specs.declared.loop_uses.LoopUse.{LoopUse}

-- the use of a symbol is that of a loop
abbrev pub is_marked : List LoopUse → ℕ → Bool
is_marked uses symbol = (get_or uses symbol (loop_use [] 0)).looped

-- the symbols below a number that are marked
abbrev pub marked_below : (ℕ → Bool) → ℕ → List ℕ
marked_below marked count = filter marked (numbers_below count)

-- how many indices they have
abbrev pub indices_below : List LoopUse → List ℕ → ℕ → ℕ
indices_below uses bounds count = sum_by (nth_size bounds) (marked_below (is_marked uses) count)

abbrev pub indices_at : List LoopUse → List ℕ → ℕ → ℕ
indices_at uses bounds symbol = if is_marked uses symbol then nth_size bounds symbol else 0

-- the first numbers of the symbols below a number, and the number behind them
pub record AreStarts (uses : List LoopUse) (bounds : List ℕ) (count : ℕ) (loops : List ℕ) (behind : ℕ) : Type 0 where
  pub dense : length loops ≡ count
  pub each : (symbol : ℕ) → symbol < count → nth_size loops symbol ≡ length uses + indices_below uses bounds symbol
  pub past : behind ≡ length uses + indices_below uses bounds count
