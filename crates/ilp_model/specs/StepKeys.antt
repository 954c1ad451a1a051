-- The keys of step tables that the bounds of sizes let be reached; this project's own. Bounds are a number for each number of a symbol.
use Rattle.std.specs.Prelude.{ℕ, ◌+◌, Bool, nat_le, List, [], ◌∷◌, ◌++◌, length, if◌then◌else◌}
use Rattle.elastic_ast.specs.declared.flat.Steps.{Steps}
use Rattle.elastic_ast.specs.declared.flat.Terms.{Terms}

-- a key above 0 of a step table, with its place among all of them, the sign and the symbol of the table, and the values at the key and
-- below it
pub record StepKey : Type 0 where
  pub place : ℕ
  pub minus : Bool
  pub symbol : ℕ
  pub key : ℕ
  pub value : ℕ
  pub before : ℕ

-- the keys up to the bound of the symbol, where the value below the first of them is given
abbrev pub keys_after : (ℕ → ℕ) → Bool → ℕ → ℕ → ℕ → List (ℕ × ℕ) → List StepKey
keys_after bounds minus symbol place before [] = []
keys_after bounds minus symbol place before (pair ∷ pairs) =
    if nat_le pair.0 (bounds symbol)
    then
    record { place = place; minus = minus; symbol = symbol; key = pair.0; value = pair.1; before = before }
    ∷ keys_after bounds minus symbol (place + 1) pair.1 pairs
    else keys_after bounds minus symbol place pair.1 pairs

-- the same of a whole table, whose first key is 0
abbrev pub keys_of_pairs : (ℕ → ℕ) → Bool → ℕ → ℕ → List (ℕ × ℕ) → List StepKey
keys_of_pairs bounds minus symbol place [] = []
keys_of_pairs bounds minus symbol place (pair ∷ pairs) = keys_after bounds minus symbol place pair.1 pairs

abbrev pub keys_of_table : (ℕ → ℕ) → ℕ → Steps → List StepKey
keys_of_table bounds place table = keys_of_pairs bounds table.minus table.symbol place table.pairs

abbrev pub keys_from : (ℕ → ℕ) → ℕ → List Steps → List StepKey
keys_from bounds place [] = []
keys_from bounds place (table ∷ tables) =
    keys_of_table bounds place table ++ keys_from bounds (place + length (keys_of_table bounds place table)) tables

-- the keys of all tables, in order
abbrev pub step_keys : Terms → (ℕ → ℕ) → List StepKey
step_keys terms bounds = keys_from bounds 0 terms.steps
