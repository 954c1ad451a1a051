-- What is asked of a placement, of the units of any program; this project's own. Sizes are a number for each number of a symbol.
use Rattle.std.specs.Prelude.{◌≡◌, ℕ, ◌<◌, ◌≤◌, List, [], ◌∷◌, map}
use Rattle.std.specs.List.{AllByRecursion}
use Rattle.elastic_ast.specs.declared.flat.At.{At}
use Rattle.elastic_ast.specs.Units.PlainUnits.{PlainUnit}
use Rattle.elastic_ast.specs.Units.Instances.{pair_of, instances}
use Rattle.elastic_ast.specs.Units.Order.{Relation, order_of}
use Rattle.target_desc.specs.declared.target.Target.{Target}
use Rattle.dep_graph.specs.declared.resource.Resource.{Resource}
use Rattle.dep_graph.specs.Laid.{Placed}
use Rattle.dep_graph.specs.Use.{use_of, limit_of}

-- the number of the unit and the index that a placement names
abbrev pub named_pair : At → ℕ × ℕ
named_pair at = (at.unit, at.index)

-- the placement lists the instances, in order
abbrev pub ListsInstances : List PlainUnit → (ℕ → ℕ) → List At → Type 0
ListsInstances units sizes placement = map named_pair placement ≡ map pair_of (instances units sizes)

-- each stage is one of the target
abbrev pub StagesExist : Target → List Placed → Type 0
StagesExist target placed = AllByRecursion (λ one. one.stage < target.stages) placed

-- the stages of an earlier instance and a later one, by the order of the two
abbrev pub StandsSo : Relation → ℕ → ℕ → Type 0
StandsSo Relation.Before stage later = stage < later
StandsSo Relation.NotAfter stage later = stage ≤ later
StandsSo Relation.Free stage later = Unit {0}

abbrev pub StandInOrder : Placed → Placed → Type 0
StandInOrder first second = StandsSo (order_of first.instance second.instance) first.stage second.stage

-- each one and each later one are related
abbrev pub EachLater : {A : Type 0} → (A → A → Type 0) → List A → Type 0
EachLater Related [] = Unit {0}
EachLater Related (first ∷ rest) = AllByRecursion (Related first) rest × EachLater Related rest

-- each instance and each later one stand in their order
abbrev pub OrderIsKept : List Placed → Type 0
OrderIsKept placed = EachLater StandInOrder placed

-- no stage takes more of a resource than the target has
abbrev pub UsesFit : Target → (ℕ → ℕ) → List Placed → Type 0
UsesFit target sizes placed = (stage : ℕ) → stage < target.stages → (resource : Resource) → use_of resource sizes stage placed ≤ limit_of resource target
