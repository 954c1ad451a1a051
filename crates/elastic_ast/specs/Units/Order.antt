-- The order of two instances by what they may read and write, this project's own.
use Rattle.std.specs.Prelude.{ℕ, ◌==◌, Bool, true, false, not, ◌&&◌, ◌||◌, List}
use Rattle.std.specs.List.{list_any}
use Rattle.elastic_ast.specs.declared.flat.Location.{Location}
use Rattle.elastic_ast.specs.Units.PlainUnits.{PlainUnit}
use Rattle.elastic_ast.specs.Units.Reach.{is_own, one_thing}
use Rattle.elastic_ast.specs.Units.Instances.{Instance}

pub data Relation : Type 0 where
  Free : Relation
  NotAfter : Relation
  Before : Relation

-- a location at an index, and one at another: two own locations of one thing are apart where the indices differ
abbrev pub coincide : Location → ℕ → Location → ℕ → Bool
coincide one index other index' = one_thing one other && (not (is_own one && is_own other) || index == index')

abbrev pub touches : Location → ℕ → List Location → ℕ → Bool
touches one index others index' = list_any (λ other. coincide one index other index') others

-- a location of the first stands among the second
abbrev pub meet : List Location → ℕ → List Location → ℕ → Bool
meet ones index others index' = list_any (λ one. touches one index others index') ones

abbrev pub relation : Bool → Bool → Bool → Relation
relation true written read = Relation.Before
relation false true read = Relation.Before
relation false false true = Relation.NotAfter
relation false false false = Relation.Free

-- the order of an earlier instance of a unit and a later one: the first stands before where the second reads or writes what
-- the first writes; else not after where the second writes what the first reads; else they are free
abbrev pub order : PlainUnit → PlainUnit → ℕ → ℕ → Relation
order first second index index' =
    relation (meet second.reads index' first.writes index) (meet second.writes index' first.writes index)
    (meet second.writes index' first.reads index)

abbrev pub order_of : Instance → Instance → Relation
order_of first second = order first.unit second.unit first.index second.index
