-- How a placement is compared with the instances of units, loop by loop; this project's own.
use Rattle.std.specs.Prelude.{◌≡◌, ℕ, suc, ◌+◌, ◌≤◌, ◌&&◌, List, [], ◌∷◌, ◌++◌, length, map, drop, Option, Some, None, Result, Ok, Err, if◌then◌else◌}
use Rattle.elastic_ast.specs.declared.flat.At.{At}
use Rattle.elastic_ast.specs.Units.PlainUnits.{PlainUnit}
use Rattle.elastic_ast.specs.Units.Instances.{same_number, each_turn}
use Rattle.dep_graph.specs.PlacementRules.{named_pair}
use Rattle.place_check.specs.FirstFault.{first_difference}

-- units with numbers from one on, this many, at one index
abbrev pub one_turn : ℕ → ℕ → ℕ → List (ℕ × ℕ)
one_turn first count index = each_turn count (λ step. (first + step, index) ∷ [])

-- how often the units of a loop run, or a unit outside of loops
abbrev pub turns_of : (ℕ → ℕ) → Option ℕ → ℕ
turns_of sizes None = 1
turns_of sizes (Some symbol) = sizes symbol

-- how many of the next units stand in the loop
abbrev pub joined : Option ℕ → Option ℕ → List PlainUnit → ℕ
joined loop_no size [] = 0
joined loop_no size (unit ∷ units) =
    if same_number unit.loop_no loop_no && same_number unit.size size then suc (joined loop_no size units) else 0

-- the place at which a walk has stopped, or up to which it has come
abbrev pub place_in : Result ℕ ℕ → ℕ
place_in (Ok next) = next
place_in (Err place) = place

-- the first difference behind what was walked, or the one at which the walk has stopped
abbrev pub difference_after : List At → List (ℕ × ℕ) → Result ℕ ℕ → Option ℕ
difference_after placement more (Ok next) = first_difference next (map named_pair (drop next placement)) more
difference_after placement more (Err place) = Some place

-- a walk from a place on meets these instances one after the other, or stops at the first difference, whatever follows
pub record Walks (placement : List At) (place : ℕ) (chunk : List (ℕ × ℕ)) (result : Result ℕ ℕ) : Type 0 where
  pub meets : (more : List (ℕ × ℕ)) → first_difference place (map named_pair (drop place placement)) (chunk ++ more) ≡ difference_after placement more result
  pub within : place_in result ≤ length placement
