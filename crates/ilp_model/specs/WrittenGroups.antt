-- The rows that are written of all instances, by the numbers of their variables; this project's own.
use Rattle.std.specs.Prelude.{ℕ, pos, ◌+◌, ◌-◌, ◌*◌, ◌<◌, List, [], ◌∷◌, ◌++◌, map, flat_map, length, get_or, Option, Some, None, if◌then◌else◌}
use Rattle.elastic_ast.specs.declared.flat.Cells.{Cells}
use Rattle.elastic_ast.specs.declared.flat.Cells.TheVariants as cells
use Rattle.elastic_ast.specs.Units.PlainUnits.{PlainUnit}
use Rattle.elastic_ast.specs.Units.Instances.{nth_size, each_turn}
use Rattle.elastic_ast.specs.Units.Order.{Relation, order}
use Rattle.target_desc.specs.declared.target.Target.{Target}
use Rattle.dep_graph.specs.declared.resource.Resource.{Resource}
use Rattle.dep_graph.specs.declared.resource.Resource.TheVariants as resource
use Rattle.dep_graph.specs.Use.{taken_by, limit_of}
use Rattle.place_check.specs.FirstFault.{resources}
use Rattle.place_check.specs.Standing.{no_unit}
use Rattle.int_program.specs.declared.program.Part.{Part}
use Rattle.int_program.specs.declared.program.Row.{Row}
use Rattle.unroll_bound.specs.Counts.{is_symbolic}
use Rattle.ilp_model.specs.declared.listing.Candidate.{Candidate as Listed}
use Rattle.ilp_model.specs.declared.numbering.Numbering.{Numbering}
use Rattle.ilp_model.specs.ListedCandidates.{most_numbers}
use Rattle.ilp_model.specs.Written.{written, written_row}
use Rattle.ilp_model.specs.WrittenInstances.{written_stand, written_only, written_whole, written_order}

-- listed candidates with their places, which count from one on
abbrev pub with_places : ℕ → List Listed → List (ℕ × Listed)
with_places place [] = []
with_places place (first ∷ rest) = (place, first) ∷ with_places (place + 1) rest

abbrev pub listed_unit : List PlainUnit → Listed → PlainUnit
listed_unit units one = get_or units one.unit no_unit

-- the number of the variable that a loop runs at an index; outside of loops there is none, and this is 0
abbrev pub exists_number : List ℕ → Option ℕ → ℕ → ℕ
exists_number loops None index = 0
exists_number loops (Some symbol) index = nth_size loops symbol + index

-- the number of the first variable of the stages of the instance at a place
abbrev pub stands_from : Numbering → ℕ → ℕ
stands_from numbers place = numbers.stands + place * numbers.stages

-- the number of the first variable of the cells of the instance with a rank
abbrev pub held_from : Numbering → ℕ → ℕ
held_from numbers rank = numbers.held + rank * numbers.stages

-- the number of a loop's variable has 32 bits
abbrev pub FitsExists : List ℕ → Option ℕ → ℕ → Type 0
FitsExists loops None index = Unit {0}
FitsExists loops (Some symbol) index = (symbol < length loops) × (nth_size loops symbol + index < most_numbers)

-- a symbol that counts cells is one of so many, and the numbers of the cells' variables, which end before one, have 32 bits
abbrev pub FitsCells : ℕ → Option Cells → ℕ → Type 0
FitsCells symbols None end = Unit {0}
FitsCells symbols (Some (cells.Fixed number)) end = Unit {0}
FitsCells symbols (Some (cells.Symbol symbol)) end = (symbol < symbols) × (end < most_numbers)

-- a candidate at a place is of a unit, and the numbers of its variables have 32 bits
pub record FitsNumbers (units : List PlainUnit) (numbers : Numbering) (place : ℕ) (one : Listed) : Type 0 where
  pub unit : one.unit < length units
  pub exists : FitsExists numbers.loops (listed_unit units one).size one.index
  pub stands : stands_from numbers place + numbers.stages < most_numbers
  pub held : FitsCells (length numbers.loops) (listed_unit units one).cells (held_from numbers one.rank + numbers.stages)

-- so do those of all that are listed
abbrev pub AllFitNumbers : List PlainUnit → Numbering → List Listed → Type 0
AllFitNumbers units numbers list =
    (place : ℕ) (none : Listed) → place < length list → FitsNumbers units numbers place (get_or list place none)

-- the rows that a candidate at a place stands in one stage
abbrev pub written_stand_of : List PlainUnit → Numbering → ℕ × Listed → List Row
written_stand_of units numbers one =
    written_stand (listed_unit units one.1).size (exists_number numbers.loops (listed_unit units one.1).size one.1.index)
    (stands_from numbers one.0) numbers.stages

-- the rows of cells, by the numbers of the variables
abbrev pub written_cells : (ℕ → ℕ) → Option Cells → Option ℕ → ℕ → ℕ → ℕ → ℕ → List Row
written_cells bounds None size exists stands held stages = []
written_cells bounds (Some (cells.Fixed number)) size exists stands held stages = []
written_cells bounds (Some (cells.Symbol symbol)) size exists stands held stages =
    each_turn stages (λ stage. written_only (bounds symbol) (stands + stage) (held + stage) ∷ [])
    ++ written_whole symbol size exists held stages (bounds symbol) ∷ []

-- those of a candidate at a place
abbrev pub written_cells_of : List PlainUnit → (ℕ → ℕ) → Numbering → ℕ × Listed → List Row
written_cells_of units bounds numbers one =
    written_cells bounds (listed_unit units one.1).cells (listed_unit units one.1).size
    (exists_number numbers.loops (listed_unit units one.1).size one.1.index) (stands_from numbers one.0)
    (held_from numbers one.1.rank) numbers.stages

-- what a candidate at a place takes of a resource at any sizes, in a stage
abbrev pub written_taken : List PlainUnit → Numbering → Resource → ℕ → ℕ × Listed → List Part
written_taken units numbers kind stage one =
    written (stands_from numbers one.0 + stage) (pos (taken_by kind (λ symbol. 0) (listed_unit units one.1)))

-- the memory of its cells in a stage, where a symbol counts them
abbrev pub written_held_of : List PlainUnit → Numbering → ℕ → Listed → List Part
written_held_of units numbers stage one =
    if is_symbolic (listed_unit units one).cells
    then written (held_from numbers one.rank + stage) (pos (listed_unit units one).cell_width)
    else []

-- that of all candidates
abbrev pub written_held : List PlainUnit → Numbering → Resource → ℕ → List Listed → List Part
written_held units numbers resource.Memory stage list = flat_map (written_held_of units numbers stage) list
written_held units numbers resource.Stateful stage list = []
written_held units numbers resource.Stateless stage list = []
written_held units numbers resource.TableBits stage list = []
written_held units numbers resource.TernaryBits stage list = []

-- the row of a resource of a stage
abbrev pub written_use : List PlainUnit → Target → Numbering → List Listed → ℕ → Resource → Row
written_use units target numbers list stage kind =
    written_row (flat_map (written_taken units numbers kind stage) (with_places 0 list) ++ written_held units numbers kind stage list)
    (pos (limit_of kind target))

-- the rows of a stage
abbrev pub written_uses : List PlainUnit → Target → Numbering → List Listed → ℕ → List Row
written_uses units target numbers list stage = map (written_use units target numbers list stage) resources

-- the rows of an earlier instance and a later one by their order, where the stages of each have the numbers from one on
abbrev pub written_orders : ℕ → ℕ → ℕ → Relation → List Row
written_orders first second stages Relation.Free = []
written_orders first second stages Relation.NotAfter =
    each_turn (stages - 1) (λ stage. written_order (first + (stage + 1)) (stages - (stage + 1)) second (stage + 1) ∷ [])
written_orders first second stages Relation.Before =
    each_turn stages (λ stage. written_order (first + stage) (stages - stage) second (stage + 1) ∷ [])

-- those of two candidates at their places
abbrev pub written_pair : List PlainUnit → Numbering → (ℕ × Listed) × (ℕ × Listed) → List Row
written_pair units numbers pair =
    written_orders (stands_from numbers pair.0.0) (stands_from numbers pair.1.0) numbers.stages
    (order (listed_unit units pair.0.1) (listed_unit units pair.1.1) pair.0.1.index pair.1.1.index)

-- those of a candidate and each of some later ones
abbrev pub written_later : List PlainUnit → Numbering → ℕ × Listed → List (ℕ × Listed) → List Row
written_later units numbers first later = flat_map (λ second. written_pair units numbers (first, second)) later

-- those of each one and each later one
abbrev pub written_each_later : List PlainUnit → Numbering → List (ℕ × Listed) → List Row
written_each_later units numbers [] = []
written_each_later units numbers (first ∷ rest) =
    written_later units numbers first rest ++ written_each_later units numbers rest

-- the rows of all candidates: where they stand, their cells, what they take of each stage, and their orders
abbrev pub written_stands : List PlainUnit → Numbering → List Listed → List Row
written_stands units numbers list = flat_map (written_stand_of units numbers) (with_places 0 list)

abbrev pub written_all_cells : List PlainUnit → (ℕ → ℕ) → Numbering → List Listed → List Row
written_all_cells units bounds numbers list = flat_map (written_cells_of units bounds numbers) (with_places 0 list)

abbrev pub written_all_uses : List PlainUnit → Target → Numbering → List Listed → List Row
written_all_uses units target numbers list = each_turn numbers.stages (written_uses units target numbers list)

abbrev pub written_all_orders : List PlainUnit → Numbering → List Listed → List Row
written_all_orders units numbers list = written_each_later units numbers (with_places 0 list)

-- one group behind the other
abbrev pub written_instances : List PlainUnit → Target → (ℕ → ℕ) → Numbering → List Listed → List Row
written_instances units target bounds numbers list =
    written_stands units numbers list
    ++ (written_all_cells units bounds numbers list
    ++ (written_all_uses units target numbers list ++ written_all_orders units numbers list))
