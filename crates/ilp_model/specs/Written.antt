-- The parts and rows that are written of variables by their numbers, without parts of coefficient 0; this project's own.
use Rattle.std.specs.Prelude.{ℕ, ℤ, pos, neg_ℤ, ◌+◌, ◌-◌, ◌-ℤ◌, Bool, List, [], ◌∷◌, ◌++◌, if◌then◌else◌}
use Rattle.std.specs.Ordering.{int_eq}
use Rattle.elastic_ast.specs.declared.flat.Linear.{Linear}
use Rattle.elastic_ast.specs.Units.Instances.{each_turn}
use Rattle.int_program.specs.declared.program.Part.{Part}
use Rattle.int_program.specs.declared.program.Row.{Row}
use Rattle.ilp_model.specs.declared.step_keys.ReachedKey.{ReachedKey}
use Rattle.ilp_model.specs.SeenKeys.{seen_key}
use Rattle.ilp_model.specs.Objective.{rise_of}

-- a variable times a number
abbrev pub written : ℕ → ℤ → List Part
written number by = if int_eq by (pos 0) then [] else record { var = number; by = by } ∷ []

-- variables of rising numbers, each times the same number
abbrev pub written_run : ℕ → ℕ → ℤ → List Part
written_run first count by = each_turn count (λ step. written (first + step) by)

-- variables of rising numbers, each times its coefficient
abbrev pub written_sizes : ℕ → List ℤ → List Part
written_sizes number [] = []
written_sizes number (by ∷ rest) = written number by ++ written_sizes (number + 1) rest

abbrev pub written_row : List Part → ℤ → Row
written_row parts most = record { parts = parts; most = most }

-- the row of a sum of the terms
abbrev pub written_term : Linear → Row
written_term linear = written_row (written_sizes 0 linear.by) linear.most

-- the row of a symbol that is at least 1
abbrev pub written_one : ℕ → Row
written_one symbol = written_row (written symbol (neg_ℤ (pos 1))) (neg_ℤ (pos 1))

-- the row of a loop's index, whose variable has a number, and the one behind it
abbrev pub written_falling : ℕ → Row
written_falling number = written_row (written number (neg_ℤ (pos 1)) ++ written (number + 1) (pos 1)) (pos 0)

-- the rows of a loop over a symbol, whose indices have the numbers from the first on
abbrev pub written_loop : ℕ → ℕ → ℕ → List Row
written_loop symbol first count =
    written_row (written symbol (pos 1) ++ written_run first count (neg_ℤ (pos 1))) (pos 0)
    ∷ written_row (written symbol (neg_ℤ (pos 1)) ++ written_run first count (pos 1)) (pos 0)
    ∷ each_turn (count - 1) (λ index. written_falling (first + index) ∷ [])

-- those of a symbol that is marked as one over which loops with units run
abbrev pub written_marked : (ℕ → Bool) → (ℕ → ℕ) → (ℕ → ℕ) → ℕ → List Row
written_marked marked loops bounds symbol = if marked symbol then written_loop symbol (loops symbol) (bounds symbol) else []

-- the rows of a key of a step table over a symbol, by the number of the key's variable and the bound
abbrev pub written_key : ℕ → ℕ → ℕ → ℕ → List Row
written_key symbol key reached bound =
    written_row (written symbol (neg_ℤ (pos 1)) ++ written reached (pos key)) (pos 0)
    ∷ written_row (written symbol (pos 1) ++ written reached (neg_ℤ (pos (bound - key + 1)))) (pos key -ℤ pos 1)
    ∷ []

-- those of a key that is listed, where the keys' variables have the numbers from the first on
abbrev pub written_keys : ℕ → (ℕ → ℕ) → ReachedKey → List Row
written_keys first bounds key = written_key key.symbol key.key (first + key.place) (bounds key.symbol)

-- its part of the objective
abbrev pub written_rise : ℕ → ReachedKey → List Part
written_rise first key = written (first + key.place) (rise_of (seen_key key))
