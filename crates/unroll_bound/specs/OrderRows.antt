-- The rows of the orders of instances that are listed by the numbers of their units and their indices; this project's own.
use Rattle.std.specs.Prelude.{ℕ, ◌+◌, List, [], ◌∷◌, sum_by}
use Rattle.elastic_ast.specs.Units.PlainUnits.{PlainUnit}
use Rattle.place_check.specs.KnownOrders.{order_at}
use Rattle.unroll_bound.specs.Counts.{relation_rows}

-- the most rows of two instances, as many as a number of stages can be
abbrev pub most_of_pair : ℕ
most_of_pair = 255

-- the rows of an instance and a later one
abbrev pub rows_of_pair : ℕ → List PlainUnit → ℕ × ℕ → ℕ × ℕ → ℕ
rows_of_pair stages units first later = relation_rows stages (order_at units first later)

-- those of each instance and each later one
abbrev pub rows_of_pairs : ℕ → List PlainUnit → List (ℕ × ℕ) → ℕ
rows_of_pairs stages units [] = 0
rows_of_pairs stages units (first ∷ rest) = sum_by (rows_of_pair stages units first) rest + rows_of_pairs stages units rest
