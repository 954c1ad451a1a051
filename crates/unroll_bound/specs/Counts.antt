-- How many instances, variables and rows the integer program of units has at the bounds of sizes; this project's own. Bounds are a
-- number for each number of a symbol.
use Rattle.std.specs.Prelude.{◌≡◌, ℕ, ◌+◌, ◌-◌, ◌*◌, nat_le, Bool, true, false, ◌&&◌, List, [], ◌∷◌, length, sum_by, count_by, filter, Option, Some, None, if◌then◌else◌}
use Rattle.std.specs.List.{list_any}
use Rattle.elastic_ast.specs.declared.flat.Cells.{Cells}
use Rattle.elastic_ast.specs.declared.flat.Cells.TheVariants as cells
use Rattle.elastic_ast.specs.declared.flat.Steps.{Steps}
use Rattle.elastic_ast.specs.Units.PlainUnits.{PlainUnit, PlainUnits}
use Rattle.elastic_ast.specs.Units.Instances.{Instance, each_turn, instances}
use Rattle.elastic_ast.specs.Units.Order.{Relation, order_of}
use Rattle.target_desc.specs.declared.target.Target.{Target}
use Rattle.place_check.specs.Walking.{turns_of}
use Rattle.unroll_bound.specs.SizeRules.{is_symbol}

-- each unit has so many instances as it runs
abbrev pub instance_count : List PlainUnit → (ℕ → ℕ) → ℕ
instance_count units bounds = sum_by (λ unit. turns_of bounds unit.size) units

-- a symbol counts the cells of a unit's register
abbrev pub is_symbolic : Option Cells → Bool
is_symbolic None = false
is_symbolic (Some (cells.Fixed number)) = false
is_symbolic (Some (cells.Symbol symbol)) = true

abbrev pub symbolic_turns : (ℕ → ℕ) → PlainUnit → ℕ
symbolic_turns bounds unit = if is_symbolic unit.cells then turns_of bounds unit.size else 0

-- the instances whose cells a symbol counts
abbrev pub symbolic_count : List PlainUnit → (ℕ → ℕ) → ℕ
symbolic_count units bounds = sum_by (symbolic_turns bounds) units

-- a unit stands in a loop over the symbol
abbrev pub is_looped : List PlainUnit → ℕ → Bool
is_looped units symbol = list_any (λ unit. is_symbol symbol unit.size) units

abbrev pub numbers_below : ℕ → List ℕ
numbers_below count = each_turn count (λ number. number ∷ [])

-- the symbols below a number over which loops with units run
abbrev pub looped_below : List PlainUnit → ℕ → List ℕ
looped_below units count = filter (is_looped units) (numbers_below count)

abbrev pub looped_symbols : PlainUnits → List ℕ
looped_symbols units = looped_below units.list (length units.terms.symbols)

-- the indices of loops up to the bounds
abbrev pub index_count : PlainUnits → (ℕ → ℕ) → ℕ
index_count units bounds = sum_by bounds (looped_symbols units)

-- the key of a step table is a size from 1 to the bound
abbrev pub is_reached : ℕ → ℕ × ℕ → Bool
is_reached bound pair = nat_le 1 pair.0 && nat_le pair.0 bound

abbrev pub keys_reached : (ℕ → ℕ) → Steps → ℕ
keys_reached bounds table = count_by (is_reached (bounds table.symbol)) table.pairs

-- the keys of all step tables
abbrev pub key_count : List Steps → (ℕ → ℕ) → ℕ
key_count tables bounds = sum_by (keys_reached bounds) tables

-- the variables: the size of each symbol, the indices of loops, the keys of step tables, and of each instance where it stands and how
-- many cells it has there, where a symbol counts these
abbrev pub variable_count : PlainUnits → Target → (ℕ → ℕ) → ℕ
variable_count units target bounds =
    length units.terms.symbols + index_count units bounds + key_count units.terms.steps bounds
    + instance_count units.list bounds * target.stages + symbolic_count units.list bounds * target.stages

-- a loop's rows: two that it runs as often as the size says, and one for each two indices that follow each other
abbrev pub loop_row_count : (ℕ → ℕ) → ℕ → ℕ
loop_row_count bounds symbol = 2 + (bounds symbol - 1)

-- the rows of an earlier instance and a later one, by their order
abbrev pub relation_rows : ℕ → Relation → ℕ
relation_rows stages Relation.Before = stages
relation_rows stages Relation.NotAfter = stages - 1
relation_rows stages Relation.Free = 0

-- those of each instance and each later one
abbrev pub order_row_count : ℕ → List Instance → ℕ
order_row_count stages [] = 0
order_row_count stages (first ∷ rest) = sum_by (λ later. relation_rows stages (order_of first later)) rest + order_row_count stages rest

-- the rows without those of orders: one for each row of the assume clauses, each symbol that is at least 1 and the header bits, those
-- of loops, two for each key and each instance, those of cells that a symbol counts, and five for each stage
abbrev pub plain_row_count : PlainUnits → Target → (ℕ → ℕ) → ℕ
plain_row_count units target bounds =
    length units.terms.rows + length units.terms.ones + 1 + sum_by (loop_row_count bounds) (looped_symbols units)
    + 2 * key_count units.terms.steps bounds + 2 * instance_count units.list bounds
    + symbolic_count units.list bounds * (target.stages + 1) + 5 * target.stages

abbrev pub row_count : PlainUnits → Target → (ℕ → ℕ) → ℕ
row_count units target bounds = plain_row_count units target bounds + order_row_count target.stages (instances units.list bounds)

-- the counts of instances are those of their list
pub record CountsInstances (units : List PlainUnit) (bounds : ℕ → ℕ) : Type 0 where
  pub all : length (instances units bounds) ≡ instance_count units bounds
  pub symbolic : length (filter (λ one. is_symbolic one.unit.cells) (instances units bounds)) ≡ symbolic_count units bounds

abbrev pub InstancesAreCounted : Type 0
InstancesAreCounted = (units : List PlainUnit) (bounds : ℕ → ℕ) → CountsInstances units bounds
