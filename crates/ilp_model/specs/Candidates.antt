-- The instances of units at the bounds of sizes: those that may be there; this project's own. Bounds are a number for each number of a
-- symbol.
use Rattle.std.specs.Prelude.{ℕ, ◌+◌, List, [], ◌∷◌, filter}
use Rattle.elastic_ast.specs.Meaning.Values.{bit}
use Rattle.elastic_ast.specs.Units.PlainUnits.{PlainUnits}
use Rattle.elastic_ast.specs.Units.Instances.{Instance, instances}
use Rattle.unroll_bound.specs.Counts.{is_symbolic}

-- an instance at the bounds, with its place among all of them, and its rank among those whose cells a symbol counts
pub record Candidate : Type 0 where
  pub place : ℕ
  pub rank : ℕ
  pub instance : Instance

abbrev pub candidates_from : ℕ → ℕ → List Instance → List Candidate
candidates_from place rank [] = []
candidates_from place rank (first ∷ rest) =
    record { place = place; rank = rank; instance = first }
    ∷ candidates_from (place + 1) (rank + bit (is_symbolic first.unit.cells)) rest

abbrev pub candidates : PlainUnits → (ℕ → ℕ) → List Candidate
candidates units bounds = candidates_from 0 0 (instances units.list bounds)

-- those whose cells a symbol counts
abbrev pub symbolic : List Candidate → List Candidate
symbolic candidates = filter (λ one. is_symbolic one.instance.unit.cells) candidates
