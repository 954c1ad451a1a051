-- The candidates as the program lists them, by the number of the unit, the index and the rank; this project's own.
use Rattle.std.specs.Prelude.{◌≡◌, ℕ, ◌+◌, ◌^◌, ◌≤◌, List, [], ◌∷◌, ◌++◌, length, All}
use Rattle.elastic_ast.specs.Meaning.Values.{bit}
use Rattle.elastic_ast.specs.Units.PlainUnits.{PlainUnit}
use Rattle.elastic_ast.specs.Units.Instances.{Instance}
use Rattle.unroll_bound.specs.Counts.{is_symbolic}
use Rattle.ilp_model.specs.Candidates.{Candidate}
use Rattle.ilp_model.specs.declared.listing.Candidate.{Candidate as Listed}
use Rattle.ilp_model.specs.declared.listing.Listing.{Listing}

-- a candidate as it is listed: its place is that in the list
abbrev pub listed : Candidate → Listed
listed one = record { unit = one.instance.number; index = one.instance.index; rank = one.rank }

-- the same of instances, where the ranks begin with a number
abbrev pub listed_from : ℕ → List Instance → List Listed
listed_from rank [] = []
listed_from rank (first ∷ rest) =
    record { unit = first.number; index = first.index; rank = rank } ∷ listed_from (rank + bit (is_symbolic first.unit.cells)) rest

-- the rank behind some instances
abbrev pub rank_after : ℕ → List Instance → ℕ
rank_after rank [] = rank
rank_after rank (first ∷ rest) = rank_after (rank + bit (is_symbolic first.unit.cells)) rest

-- units with their numbers, which count from one on
abbrev pub numbered : ℕ → List PlainUnit → List (ℕ × PlainUnit)
numbered number [] = []
numbered number (unit ∷ units) = (number, unit) ∷ numbered (number + 1) units

-- instances are listed behind others
pub record Adds (before : Listing) (instances : List Instance) (after : Listing) : Type 0 where
  pub list : after.list ≡ before.list ++ listed_from before.rank instances
  pub rank : after.rank ≡ rank_after before.rank instances

-- no more instances had cells that a symbol counts than were listed
abbrev pub IsRanked : Listing → Type 0
IsRanked listing = listing.rank ≤ length listing.list

-- how many numbers 32 bits hold
abbrev pub most_numbers : ℕ
most_numbers = 2 ^ 32

-- the numbers of units and the indices below the bounds have 32 bits
pub record AreNumbered {A : Type 0} (units : List A) (bounds : List ℕ) : Type 0 where
  pub few : length units ≤ most_numbers
  pub small : All (λ bound. bound ≤ most_numbers) bounds
