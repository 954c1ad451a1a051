-- What the locations of a program's units are of: an own location is an element of something that has the size of the loop around
-- the unit; this project's own.
use Rattle.std.specs.Prelude.{◌≡◌, ℕ, ◌==◌, Bool, true, false, ◌&&◌, List, All, Option, Some, None, option_and_then}
use Rattle.std.specs.List.{list_any}
use Rattle.elastic_ast.specs.declared.flat.Location.{Location}
use Rattle.elastic_ast.specs.declared.flat.Location.TheVariants as location
use Rattle.elastic_ast.specs.Tree.{Name, PlainDecl}
use Rattle.elastic_ast.specs.Typing.LookUps.{meta_field, register_size}
use Rattle.elastic_ast.specs.Units.PlainUnits.{PlainWork, PlainUnit}
use Rattle.elastic_ast.specs.Units.Costs.{place_of_symbol}
use Rattle.elastic_ast.specs.Units.Instances.{same_number}

-- the size that a field of the metadata is declared with, where it is an array
abbrev pub array_size : List PlainDecl → Name → Option Name
array_size decls name = option_and_then (λ field. field.size) (meta_field decls name)

-- the size that a register is declared with, where it is an array
abbrev pub register_array_size : List PlainDecl → Name → Option Name
register_array_size decls name = option_and_then (λ size. size) (register_size decls name)

-- what is declared with a size is named as own, by a unit in a loop over this size; and what has no size isn't own
abbrev pub IsOfSize : List PlainDecl → PlainUnit → Bool → Option Name → Type 0
IsOfSize decls unit true (Some size) = unit.size ≡ Some (place_of_symbol decls size)
IsOfSize decls unit true None = ⊥
IsOfSize decls unit false (Some size) = ⊥
IsOfSize decls unit false None = Unit {0}

abbrev pub keeps : ℕ → PlainWork → Bool
keeps number (PlainWork.Pred other condition) = other == number
keeps number _ = false

-- a unit in the loop of another one keeps the condition of the predicate of a number
abbrev pub keeps_beside : PlainUnit → ℕ → PlainUnit → Bool
keeps_beside unit number other = same_number other.loop_no unit.loop_no && (same_number other.size unit.size && keeps number other.work)

-- a location is of metadata or a register that are declared so, or an own predicate of the loop around the unit
abbrev pub IsOfUnit : List PlainDecl → List PlainUnit → PlainUnit → Location → Type 0
IsOfUnit decls units unit (location.Meta name own) = IsOfSize decls unit own (array_size decls name)
IsOfUnit decls units unit (location.Reg name own) = IsOfSize decls unit own (register_array_size decls name)
IsOfUnit decls units unit (location.Pred number true) = list_any (keeps_beside unit number) units ≡ true
IsOfUnit decls units unit _ = Unit {0}

-- so stands each location that a unit may read or write. So an own location of a unit at an index below the size of its loop is
-- within the array, the register array or the predicates of the loop.
pub record OwnLocations (decls : List PlainDecl) (units : List PlainUnit) : Type 0 where
  pub reads : All (λ unit. All (IsOfUnit decls units unit) unit.reads) units
  pub writes : All (λ unit. All (IsOfUnit decls units unit) unit.writes) units
