-- What a point of an integer program says by the numbers of its variables: which instances are there, and in which stage each of them
-- stands; this project's own.
use Rattle.std.specs.Prelude.{ℕ, ℤ, ◌+◌, ◌*◌, ◌==◌, unsigned_abs, Bool, true, List, [], ◌∷◌, ◌++◌, get_or, Option, Some, None, if◌then◌else◌}
use Rattle.elastic_ast.specs.declared.flat.At.{At}
use Rattle.elastic_ast.specs.Units.PlainUnits.{PlainUnit}
use Rattle.elastic_ast.specs.Units.Instances.{nth_size}
use Rattle.place_check.specs.Standing.{no_unit}
use Rattle.int_program.specs.Sums.{at}
use Rattle.ilp_model.specs.PairOf.{last_one}
use Rattle.ilp_model.specs.declared.listing.Candidate.{Candidate}
use Rattle.ilp_model.specs.declared.numbering.Numbering.{Numbering}

-- the value of the variable of a number, and 0 where there is none
abbrev pub value_of_number : List ℤ → ℕ → ℕ
value_of_number point number = unsigned_abs (at point number)

-- an instance is there: in a loop its variable is 1, and outside of loops it always is
abbrev pub exists_in : List ℤ → List ℕ → Option ℕ → ℕ → Bool
exists_in point loops None index = true
exists_in point loops (Some symbol) index = value_of_number point (nth_size loops symbol + index) == 1

-- the last stage whose variable is 1, where these have the numbers from the first on
abbrev pub stage_from : List ℤ → ℕ → ℕ → ℕ
stage_from point first stages = last_one (λ stage. value_of_number point (first + stage)) stages

-- the instance of a place, in its stage, if it is there
abbrev pub entry_of : List ℤ → Numbering → Option ℕ → ℕ → Candidate → List At
entry_of point numbers size place one =
    if exists_in point numbers.loops size one.index
    then record { unit = one.unit; index = one.index; stage = stage_from point (numbers.stands + place * numbers.stages) numbers.stages } ∷ []
    else []

-- those of the places from one on
abbrev pub entries_from : List ℤ → Numbering → List PlainUnit → ℕ → List Candidate → List At
entries_from point numbers units place [] = []
entries_from point numbers units place (one ∷ rest) =
    entry_of point numbers (get_or units one.unit no_unit).size place one ++ entries_from point numbers units (place + 1) rest
