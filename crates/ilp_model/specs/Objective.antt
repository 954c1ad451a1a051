-- The objective of the integer program of units; this project's own.
use Rattle.std.specs.Prelude.{ℕ, ℤ, pos, ◌+ℤ◌, ◌-ℤ◌, List, [], ◌∷◌, ◌++◌, map}
use Rattle.elastic_ast.specs.declared.flat.Steps.{Steps}
use Rattle.elastic_ast.specs.declared.flat.Terms.{Terms}
use Rattle.elastic_ast.specs.Sizes.SizeSums.{negated_if}
use Rattle.ilp_model.specs.StepKeys.{StepKey, step_keys}
use Rattle.ilp_model.specs.Variables.{Variable}
use Rattle.ilp_model.specs.NamedRows.{NamedPart, part}
use Rattle.ilp_model.specs.Rows.{size_parts}

-- by how much the value of a step table changes where a key is reached
abbrev pub rise_of : StepKey → ℤ
rise_of key = negated_if key.minus (pos key.value) -ℤ negated_if key.minus (pos key.before)

abbrev pub objective : Terms → (ℕ → ℕ) → List NamedPart
objective terms bounds = size_parts 0 terms.by ++ map (λ key. part (rise_of key) (Variable.Reached key)) (step_keys terms bounds)

abbrev pub first_value : List (ℕ × ℕ) → ℕ
first_value [] = 0
first_value (pair ∷ pairs) = pair.1

-- what the step tables are worth at key 0
abbrev pub first_values : List Steps → ℤ
first_values [] = pos 0
first_values (table ∷ tables) = negated_if table.minus (pos (first_value table.pairs)) +ℤ first_values tables

-- the constant of the objective
abbrev pub constant : Terms → ℤ
constant terms = terms.base +ℤ first_values terms.steps
