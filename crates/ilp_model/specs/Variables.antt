-- The variables of the integer program of units, by name and by number; this project's own.
use Rattle.std.specs.Prelude.{ℕ, ◌+◌, ◌*◌, List, ◌++◌, map, flat_map, length, sum_by}
use Rattle.elastic_ast.specs.Units.PlainUnits.{PlainUnits}
use Rattle.target_desc.specs.declared.target.Target.{Target}
use Rattle.dep_graph.specs.Use.{cell_count}
use Rattle.unroll_bound.specs.Counts.{numbers_below, looped_below, looped_symbols}
use Rattle.ilp_model.specs.Candidates.{Candidate, candidates, symbolic}
use Rattle.ilp_model.specs.StepKeys.{StepKey, step_keys}

-- the size of a symbol; whether a loop over a symbol runs at an index; whether a size is at a key of a step table or above it; whether
-- an instance stands in a stage; and how many cells it has there
pub data Variable : Type 0 where
  Size : ℕ → Variable
  Exists : ℕ → ℕ → Variable
  Reached : StepKey → Variable
  Stands : Candidate → ℕ → Variable
  Held : Candidate → ℕ → Variable

abbrev pub symbol_count : PlainUnits → ℕ
symbol_count units = length units.terms.symbols

-- the variables, in the order of their numbers
abbrev pub variables : PlainUnits → Target → (ℕ → ℕ) → List Variable
variables units target bounds =
    map Variable.Size (numbers_below (symbol_count units))
    ++ (flat_map (λ symbol. map (Variable.Exists symbol) (numbers_below (bounds symbol))) (looped_symbols units)
    ++ (map Variable.Reached (step_keys units.terms bounds)
    ++ (flat_map (λ one. map (Variable.Stands one) (numbers_below target.stages)) (candidates units bounds)
    ++ flat_map (λ one. map (Variable.Held one) (numbers_below target.stages)) (symbolic (candidates units bounds)))))

-- the number of the first variable behind those of sizes, of loops, of keys and of stages
abbrev pub past_loops : PlainUnits → (ℕ → ℕ) → ℕ
past_loops units bounds = symbol_count units + sum_by bounds (looped_symbols units)

abbrev pub past_keys : PlainUnits → (ℕ → ℕ) → ℕ
past_keys units bounds = past_loops units bounds + length (step_keys units.terms bounds)

abbrev pub past_stages : PlainUnits → Target → (ℕ → ℕ) → ℕ
past_stages units target bounds = past_keys units bounds + length (candidates units bounds) * target.stages

-- the place of a variable among all of them
abbrev pub variable_number : PlainUnits → Target → (ℕ → ℕ) → Variable → ℕ
variable_number units target bounds (Variable.Size symbol) = symbol
variable_number units target bounds (Variable.Exists symbol index) =
    symbol_count units + sum_by bounds (looped_below units.list symbol) + index
variable_number units target bounds (Variable.Reached key) = past_loops units bounds + key.place
variable_number units target bounds (Variable.Stands one stage) = past_keys units bounds + one.place * target.stages + stage
variable_number units target bounds (Variable.Held one stage) = past_stages units target bounds + one.rank * target.stages + stage

-- the greatest value of a variable
abbrev pub top_of : (ℕ → ℕ) → Variable → ℕ
top_of bounds (Variable.Size symbol) = bounds symbol
top_of bounds (Variable.Exists symbol index) = 1
top_of bounds (Variable.Reached key) = 1
top_of bounds (Variable.Stands one stage) = 1
top_of bounds (Variable.Held one stage) = cell_count bounds one.instance.unit.cells
