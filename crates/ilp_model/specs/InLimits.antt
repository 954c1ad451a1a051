-- That the integer program of units is within the limits of integer programs, and how many variables and rows it has; this project's
-- own.
use Rattle.std.specs.Prelude.{◌≡◌, ℕ, ◌^◌, ◌<◌, List, length, All, Option, Some, None}
use Rattle.elastic_ast.specs.declared.flat.Cells.{Cells}
use Rattle.elastic_ast.specs.declared.flat.Cells.TheVariants as cells
use Rattle.elastic_ast.specs.Units.PlainUnits.{PlainUnit, PlainUnits}
use Rattle.elastic_ast.specs.Units.Instances.{nth_size}
use Rattle.target_desc.specs.declared.target.Target.{Target}
use Rattle.target_desc.specs.InRange.{IsInRange}
use Rattle.unit_flow.specs.SoundUnits.{SoundUnits}
use Rattle.unroll_bound.specs.BoundAnswers.{AreBoundsWithin}
use Rattle.unroll_bound.specs.Counts.{variable_count, row_count}
use Rattle.int_program.specs.Limits.{IsInLimits}
use Rattle.ilp_model.specs.IpOf.{ip_of}

-- a number of cells is one of 32 bits
abbrev pub FitCells : Option Cells → Type 0
FitCells None = Unit {0}
FitCells (Some (cells.Fixed number)) = number < 2 ^ 32
FitCells (Some (cells.Symbol symbol)) = Unit {0}

-- the numbers of a unit fit the types that hold them
pub record FitsUnit (unit : PlainUnit) : Type 0 where
  pub cells : FitCells unit.cells
  pub cell_width : unit.cell_width < 2 ^ 8
  pub cost : unit.cost < 2 ^ 32
  pub table_bits : unit.table_bits < 2 ^ 64
  pub ternary_bits : unit.ternary_bits < 2 ^ 64

-- so do those of all units, and the header bits
pub record FitTypes (units : PlainUnits) : Type 0 where
  pub list : All FitsUnit units.list
  pub fixed_bits : units.fixed_bits < 2 ^ 64
  pub symbol_bits : All (λ bits. bits < 2 ^ 64) units.symbol_bits

-- within the numbers of bounds, the integer program is within the limits
abbrev pub ProgramsAreInLimits : Type 0
ProgramsAreInLimits =
    (units : PlainUnits) (target : Target) (bounds : List ℕ)
    → SoundUnits units → FitTypes units → IsInRange target → AreBoundsWithin units target bounds
    → IsInLimits (ip_of units target (nth_size bounds))

-- the integer program has as many variables and rows as are counted
pub record AreCounted (units : PlainUnits) (target : Target) (bounds : ℕ → ℕ) : Type 0 where
  pub variables : length (ip_of units target bounds).tops ≡ variable_count units target bounds
  pub rows : length (ip_of units target bounds).rows ≡ row_count units target bounds

abbrev pub VariablesAndRowsAreCounted : Type 0
VariablesAndRowsAreCounted =
    (units : PlainUnits) (target : Target) (bounds : ℕ → ℕ) → SoundUnits units → AreCounted units target bounds
