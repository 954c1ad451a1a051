-- What it means that an instance keeps to what its unit may read and write; this project's own.
use Rattle.std.specs.Prelude.{◌≡◌, ℕ, nat_eq, Bool, true, false, ◌&&◌, ◌⊎◌, ⊤, All, IfSome, List, [], ◌∷◌, Option, None}
use Rattle.std.specs.List.{list_any}
use Rattle.std.specs.Option.{option_eq}
use Rattle.elastic_ast.specs.declared.flat.Location.{Location}
use Rattle.elastic_ast.specs.declared.flat.Location.TheVariants as location
use Rattle.elastic_ast.specs.Tree.{Name, PlainDecl, PlainEntry, PlainTable}
use Rattle.elastic_ast.specs.Typing.Scope.{same, among}
use Rattle.elastic_ast.specs.Containers.LocationPlaces.{index_at, place, valid_place}
use Rattle.elastic_ast.specs.Typing.LookUps.{action_of, table_of}
use Rattle.elastic_ast.specs.Meaning.Memory.{Spot, At, Reg, Memory, Writes}
use Rattle.elastic_ast.specs.Units.PlainUnits.{PlainUnit}
use Rattle.elastic_ast.specs.Units.UnitsOf.{units_of}
use Rattle.elastic_ast.specs.Units.Instances.{instances}
use Rattle.elastic_ast.specs.Units.Work.{pred_place, index_around, unit_writes}

-- the spot of a location, with an index around it: only what is own has the index
abbrev pub spot_of : Location → Option ℕ → Spot
spot_of (location.Header header field) index = At (place (location.Header header field) None)
spot_of (location.Valid header) index = At (valid_place header)
spot_of (location.Meta name own) index = At (place (location.Meta name own) (index_at own index))
spot_of (location.Std name) index = At (place (location.Std name) None)
spot_of (location.Pred number own) index = At (pred_place number own index)
spot_of (location.Reg name own) index = Reg name (index_at own index)

abbrev pub same_spot : Spot → Spot → Bool
same_spot (At place) (At other) = same place other
same_spot (Reg name index) (Reg other index') = same name other && option_eq nat_eq index index'
same_spot (At place) (Reg name index) = false
same_spot (Reg name index) (At place) = false

-- a spot is that of one of the locations
abbrev pub covers : List Location → Option ℕ → Spot → Bool
covers locations index spot = list_any (λ location. same_spot (spot_of location index) spot) locations

-- two memories hold the same where the test passes
abbrev pub Agree : (Spot → Bool) → Memory → Memory → Type 0
Agree test memory other = (spot : Spot) → test spot ≡ true → memory spot ≡ other spot

-- nothing is written outside of `writes`, and what is written depends on `reads` alone
pub record HasFootprint (reads writes : Spot → Bool) (work : Memory → Writes) : Type 0 where
  pub inside : (memory : Memory) (spot : Spot) → writes spot ≡ false → work memory spot ≡ None
  pub depends : (memory other : Memory) → Agree reads memory other → work memory ≡ work other

-- an action that a table may run is among its actions, or is no declared action, as `NoAction`
abbrev pub RunFits : List PlainDecl → List Name → Name → Type 0
RunFits decls actions action = (among actions action ≡ true) ⊎ (action_of decls action ≡ None)

abbrev pub EntriesFit : List PlainDecl → List Name → List PlainEntry → Type 0
EntriesFit decls actions [] = ⊤
EntriesFit decls actions (first ∷ rest) = RunFits decls actions first.action × EntriesFit decls actions rest

-- so are the actions of all entries and the default action
pub record TableFits (decls : List PlainDecl) (table : PlainTable) : Type 0 where
  pub entries : EntriesFit decls table.actions table.entries
  pub fallback : IfSome table.fallback (λ default. RunFits decls table.actions default.0)

-- in each table
abbrev pub TablesFit : List PlainDecl → Type 0
TablesFit decls = (name : Name) → IfSome (table_of decls name) (TableFits decls)

-- an instance of a unit keeps to the locations that the unit lists, at the unit's index
abbrev pub KeepsTo : List PlainDecl → List ℕ → PlainUnit → ℕ → Type 0
KeepsTo decls sizes unit index =
    HasFootprint (covers unit.reads (index_around unit index)) (covers unit.writes (index_around unit index)) (unit_writes unit decls sizes index)

-- so do all instances of the units of a program
abbrev pub InstancesHaveFootprints : Type 0
InstancesHaveFootprints =
    (decls : List PlainDecl) → TablesFit decls → (counts : ℕ → ℕ) (sizes : List ℕ) →
    All (λ instance. KeepsTo decls sizes instance.unit instance.index) (instances (units_of decls) counts)

-- at any index
abbrev pub UnitsHaveFootprints : Type 0
UnitsHaveFootprints =
    (decls : List PlainDecl) → TablesFit decls → (sizes : List ℕ) →
    All (λ unit. (index : ℕ) → KeepsTo decls sizes unit index) (units_of decls)
