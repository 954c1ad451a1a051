-- The sizes and the placement that a point of the integer program gives; this project's own.
use Rattle.std.specs.Prelude.{ℕ, zero, suc, ℤ, ◌==◌, unsigned_abs, Bool, true, List, map, filter, Option, Some, None, if◌then◌else◌}
use Rattle.elastic_ast.specs.declared.flat.At.{At}
use Rattle.elastic_ast.specs.Units.PlainUnits.{PlainUnits}
use Rattle.target_desc.specs.declared.target.Target.{Target}
use Rattle.int_program.specs.Sums.{at}
use Rattle.ilp_model.specs.Candidates.{Candidate, candidates}
use Rattle.ilp_model.specs.Variables.{Variable, symbol_count, variable_number}
use Rattle.unroll_bound.specs.Counts.{numbers_below}

-- the value of a variable at a point
abbrev pub value_at : PlainUnits → Target → (ℕ → ℕ) → List ℤ → Variable → ℕ
value_at units target bounds point variable = unsigned_abs (at point (variable_number units target bounds variable))

abbrev pub sizes_of : PlainUnits → List ℤ → List ℕ
sizes_of units point = map (λ symbol. unsigned_abs (at point symbol)) (numbers_below (symbol_count units))

-- an instance is there
abbrev pub exists_by : (Variable → ℕ) → Option ℕ → ℕ → Bool
exists_by value None index = true
exists_by value (Some symbol) index = value (Variable.Exists symbol index) == 1

-- the last number below another at which something is 1
abbrev pub last_one : (ℕ → ℕ) → ℕ → ℕ
last_one f zero = zero
last_one f (suc n) = if f n == 1 then n else last_one f n

-- an instance in the stage in which it stands
abbrev pub stands_at : ℕ → (Variable → ℕ) → Candidate → At
stands_at stages value one =
    record { unit = one.instance.number; index = one.instance.index; stage = last_one (λ stage. value (Variable.Stands one stage)) stages }

abbrev pub placement_by : (Variable → ℕ) → ℕ → List Candidate → List At
placement_by value stages ones =
    map (stands_at stages value) (filter (λ one. exists_by value one.instance.unit.size one.instance.index) ones)

-- each instance that is there, in its stage
abbrev pub placement_of : PlainUnits → Target → (ℕ → ℕ) → List ℤ → List At
placement_of units target bounds point = placement_by (value_at units target bounds point) target.stages (candidates units bounds)
