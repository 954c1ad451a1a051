-- The refusal of a unit that has too many operators; this project's own.
use Rattle.std.specs.Prelude.{◌≡◌, ℕ, ◌<◌, ◌≤◌, List, All, map, take, slice_get, Some, option_map}
use Rattle.elastic_ast.specs.Tree.{PlainDecl}
use Rattle.elastic_ast.specs.Units.PlainUnits.{PlainUnit}
use Rattle.unit_parts.specs.declared.pieces.Piece.{Piece}
use Rattle.unit_parts.specs.SeenPieces.{seen_piece}
use Rattle.unit_parts.specs.UnitAt.{unit_at}
use Rattle.unit_flow.specs.declared.limit.UnitError.{UnitError}
use Rattle.unit_flow.specs.declared.limit.UnitError.TheVariants as refusal

-- a refusal names the unit of this number with its operators, which are more than allowed; or memory is wanted
abbrev pub IsTooLarge : ℕ → ℕ → ℕ → UnitError → Type 0
IsTooLarge number ops most (refusal.UnitTooLarge unit named) = (unit ≡ number) × (named ≡ ops) × (most < ops)
IsTooLarge number ops most refusal.Memory = Unit {0}

-- no unit has more operators than allowed
abbrev pub AreFitting : ℕ → List PlainUnit → Type 0
AreFitting most units = All (λ unit. unit.ops ≤ most) units

-- the unit of this number has so many operators, which are more than allowed, and none before it has
pub record IsFirstAbove (units : List PlainUnit) (most number ops : ℕ) : Type 0 where
  pub here : option_map (λ unit. unit.ops) (slice_get units number) ≡ Some ops
  pub above : most < ops
  pub before : AreFitting most (take number units)

-- a refusal names the first unit that has more operators than allowed, with its operators; or memory is wanted
abbrev pub IsFirstTooLarge : List PlainUnit → ℕ → UnitError → Type 0
IsFirstTooLarge units most (refusal.UnitTooLarge number ops) = IsFirstAbove units most number ops
IsFirstTooLarge units most refusal.Memory = Unit {0}

-- the units of pieces
abbrev pub units_at : List PlainDecl → List Piece → List PlainUnit
units_at decls pieces = map (λ piece. unit_at decls (seen_piece piece)) pieces
