-- What `bounds` answers for units and a target: the bounds of all sizes, or why there are none that are taken; this project's own.
use Rattle.std.specs.Prelude.{◌≡◌, ℕ, ◌<◌, ◌≤◌, ◌^◌, List, length, take, All, Some, None, IsSome}
use Rattle.elastic_ast.specs.Units.PlainUnits.{PlainUnits}
use Rattle.elastic_ast.specs.Units.Instances.{nth_size}
use Rattle.int_program.specs.Limits.{most_variables, most_rows}
use Rattle.target_desc.specs.declared.target.Target.{Target}
use Rattle.unroll_bound.specs.declared.unit_bounds.What.{What}
use Rattle.unroll_bound.specs.declared.unit_bounds.What.TheVariants as what
use Rattle.unroll_bound.specs.declared.unit_bounds.BoundError.{BoundError}
use Rattle.unroll_bound.specs.declared.unit_bounds.BoundError.TheVariants as refusal
use Rattle.unroll_bound.specs.Counts.{instance_count, variable_count, row_count}
use Rattle.unroll_bound.specs.UnitBounds.{bound_of_units}

-- the greatest bound that is taken, and the most instances at the bounds
abbrev pub most_bound : ℕ
most_bound = 1000000000

abbrev pub most_at_bounds : ℕ
most_at_bounds = 1024

-- there is one bound a symbol, the one that the rules give
pub record HaveBounds (units : PlainUnits) (target : Target) (bounds : List ℕ) : Type 0 where
  pub dense : length bounds ≡ length units.terms.symbols
  pub each : (symbol : ℕ) → symbol < length units.terms.symbols → bound_of_units units target symbol ≡ Some (nth_size bounds symbol)

abbrev pub AreSmallBounds : List ℕ → Type 0
AreSmallBounds bounds = All (λ bound. bound ≤ most_bound) bounds

-- the bounds of all sizes, none of them too great, with no more instances, variables and rows than are taken
pub record AreBoundsWithin (units : PlainUnits) (target : Target) (bounds : List ℕ) : Type 0 where
  pub found : HaveBounds units target bounds
  pub small : AreSmallBounds bounds
  pub instances : instance_count units.list (nth_size bounds) ≤ most_at_bounds
  pub variables : variable_count units target (nth_size bounds) ≤ most_variables
  pub rows : row_count units target (nth_size bounds) ≤ most_rows

-- the first symbol that has no bound
pub record IsFirstUnbounded (units : PlainUnits) (target : Target) (symbol : ℕ) : Type 0 where
  pub within : symbol < length units.terms.symbols
  pub missing : bound_of_units units target symbol ≡ None
  pub first : (earlier : ℕ) → earlier < symbol → IsSome (bound_of_units units target earlier)

-- the first bound that is too great
pub record IsFirstGreat (bounds : List ℕ) (count : ℕ) : Type 0 where
  pub symbol : ℕ
  pub within : symbol < length bounds
  pub here : nth_size bounds symbol ≡ count
  pub above : most_bound < count
  pub before : AreSmallBounds (take symbol bounds)

-- at bounds this is the first that is more than is taken: a bound, or how many instances, variables or rows there are
abbrev pub IsMoreAt : PlainUnits → Target → List ℕ → What → ℕ → Type 0
IsMoreAt units target bounds what.Bound count = IsFirstGreat bounds count
IsMoreAt units target bounds what.Instances count =
    AreSmallBounds bounds
    × (instance_count units.list (nth_size bounds) ≡ count) × (most_at_bounds < count)
IsMoreAt units target bounds what.Variables count =
    AreSmallBounds bounds × (instance_count units.list (nth_size bounds) ≤ most_at_bounds)
    × (variable_count units target (nth_size bounds) ≡ count) × (most_variables < count)
IsMoreAt units target bounds what.Rows count =
    AreSmallBounds bounds × (instance_count units.list (nth_size bounds) ≤ most_at_bounds)
    × (variable_count units target (nth_size bounds) ≤ most_variables)
    × (row_count units target (nth_size bounds) ≡ count) × (most_rows < count)

-- all sizes have bounds, and this is the first at them that is more than is taken
pub record IsTooMuch (units : PlainUnits) (target : Target) (what : What) (count : ℕ) : Type 0 where
  pub bounds : List ℕ
  pub found : HaveBounds units target bounds
  pub more : IsMoreAt units target bounds what count

-- why there are no bounds that are taken; want of memory may have any cause
abbrev pub IsWhyUnbounded : PlainUnits → Target → BoundError → Type 0
IsWhyUnbounded units target (refusal.Unbounded symbol) = IsFirstUnbounded units target symbol
IsWhyUnbounded units target (refusal.TooLarge what count) = IsTooMuch units target what count
IsWhyUnbounded units target refusal.Memory = Unit {0}

-- a count that is named can be printed
abbrev pub NamesSmallCount : BoundError → Type 0
NamesSmallCount (refusal.TooLarge what count) = count < 2 ^ 127
NamesSmallCount _ = Unit {0}
