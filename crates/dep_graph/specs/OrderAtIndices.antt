-- At which indices two units have which order; this project's own.
use Rattle.std.specs.Prelude.{◌≡◌, ◌≢◌, ℕ}
use Rattle.elastic_ast.specs.Units.PlainUnits.{PlainUnit}
use Rattle.elastic_ast.specs.Units.Order.{order}

-- two units have one order at all equal indices, and one at all indices that differ
pub record OrderAtIndices : Type 0 where
  pub equal : (first second : PlainUnit) (index : ℕ) → order first second index index ≡ order first second 0 0
  pub different : (first second : PlainUnit) (index index' : ℕ) → index ≢ index' → order first second index index' ≡ order first second 0 1
