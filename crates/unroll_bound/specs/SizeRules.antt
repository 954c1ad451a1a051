-- The five rules that bound a size by the units of a program and a target; this project's own. Each rule gives the symbol of a number
-- a bound, or none: the rows of the assume clauses, the header bits, what the stages have, a location that all instances of a unit
-- write, and the cells of a register.
use Rattle.std.specs.Prelude.{ℕ, zero, suc, ◌*◌, ◌/◌, ◌==◌, nat_eq, Bool, true, false, not, ◌&&◌, ◌||◌, List, [], ◌∷◌, get_or, min, sum_by, count_by, Option, Some, None, ℤ, pos, negsuc, if◌then◌else◌}
use Rattle.std.specs.List.{list_any, list_all}
use Rattle.elastic_ast.specs.declared.flat.Cells.{Cells}
use Rattle.elastic_ast.specs.declared.flat.Cells.TheVariants as cells
use Rattle.elastic_ast.specs.declared.flat.Linear.{Linear}
use Rattle.elastic_ast.specs.declared.flat.Terms.{Terms}
use Rattle.elastic_ast.specs.Units.PlainUnits.{PlainUnit, PlainUnits}
use Rattle.elastic_ast.specs.Units.Reach.{is_own}
use Rattle.size_terms.specs.Rows.{is_whole}
use Rattle.target_desc.specs.declared.target.Target.{Target}
use Rattle.dep_graph.specs.declared.resource.Resource.{Resource}
use Rattle.dep_graph.specs.Use.{taken_by, limit_of}

-- the lesser of two bounds, where a bound may be missing
abbrev pub lesser : Option ℕ → Option ℕ → Option ℕ
lesser None other = other
lesser (Some bound) None = Some bound
lesser (Some bound) (Some other) = Some (min bound other)

-- how many of so much each of this many gets, where there are any
abbrev pub share : ℕ → ℕ → Option ℕ
share amount zero = None
share amount (suc among) = Some (amount / suc among)

-- a size or an index is that of the symbol of this number
abbrev pub is_symbol : ℕ → Option ℕ → Bool
is_symbol symbol None = false
is_symbol symbol (Some other) = other == symbol

-- the coefficient of a symbol in a row
abbrev pub coefficient : Linear → ℕ → ℤ
coefficient row symbol = get_or row.by symbol (pos 0)

-- the greatest size of which this many times are at most a number, and 0 where that number is negative
abbrev pub most_times : ℤ → ℤ → Option ℕ
most_times most (negsuc by) = None
most_times most (pos zero) = None
most_times (pos most) (pos (suc by)) = Some (most / suc by)
most_times (negsuc most) (pos (suc by)) = Some 0

-- a row bounds each symbol that it has, where none of its coefficients is negative
abbrev pub row_bound : ℕ → Linear → Option ℕ
row_bound symbol row = if list_all is_whole row.by then most_times row.most (coefficient row symbol) else None

-- the least number that one of the rows gives
abbrev pub rows_bound : ℕ → List Linear → Option ℕ
rows_bound symbol [] = None
rows_bound symbol (row ∷ rows) = lesser (row_bound symbol row) (rows_bound symbol rows)

-- the header bits of the target hold so many times what one more of the symbol takes
abbrev pub header_bound : PlainUnits → Target → ℕ → Option ℕ
header_bound units target symbol = share target.header_bits (get_or units.symbol_bits symbol 0)

-- an amount for each unit, added up over those in loops over the symbol
abbrev pub looped_sum : (PlainUnit → ℕ) → ℕ → List PlainUnit → ℕ
looped_sum amount symbol units = sum_by (λ unit. if is_symbol symbol unit.size then amount unit else 0) units

-- one
abbrev pub one_each : ℕ → ℕ
one_each symbol = 1

-- all stages together have room for the units in loops over the symbol so many times, where a symbolic number of cells counts as 1
abbrev pub stages_bound : Resource → PlainUnits → Target → ℕ → Option ℕ
stages_bound resource units target symbol =
    share (target.stages * limit_of resource target) (looped_sum (taken_by resource one_each) symbol units.list)

-- a unit writes a location that all its instances share
abbrev pub writes_shared : PlainUnit → Bool
writes_shared unit = list_any (λ location. not (is_own location)) unit.writes

abbrev pub is_shared : ℕ → List PlainUnit → Bool
is_shared symbol units = list_any (λ unit. is_symbol symbol unit.size && writes_shared unit) units

-- the instances of a unit that write one location stand each in a stage of its own
abbrev pub shared_bound : PlainUnits → Target → ℕ → Option ℕ
shared_bound units target symbol = if is_shared symbol units.list then Some target.stages else None

abbrev pub is_negative : ℤ → Bool
is_negative number = not (is_whole number)

abbrev pub is_nonzero : ℤ → Bool
is_nonzero (pos zero) = false
is_nonzero (pos (suc by)) = true
is_nonzero (negsuc by) = true

-- a row asks for a size of at least 1: it has one coefficient that isn't 0, which is the symbol's and is negative, and the number on
-- the right is negative
abbrev pub needs_one : ℕ → Linear → Bool
needs_one symbol row = (count_by is_nonzero row.by == 1) && (is_negative (coefficient row symbol) && is_negative row.most)

-- a register surely exists: it is no array, or its size counts cells or is a modulus, or a row asks for a size of at least 1
abbrev pub surely_exists : Terms → Option ℕ → Bool
surely_exists terms None = true
surely_exists terms (Some symbol) = list_any (nat_eq symbol) terms.ones || list_any (needs_one symbol) terms.rows

-- the symbol counts the cells of a register
abbrev pub counts_cells : ℕ → Option Cells → Bool
counts_cells symbol None = false
counts_cells symbol (Some (cells.Fixed number)) = false
counts_cells symbol (Some (cells.Symbol other)) = other == symbol

-- the memory of a stage holds so many cells of the register that a unit names, where it surely exists
abbrev pub cell_bound : Terms → ℕ → ℕ → PlainUnit → Option ℕ
cell_bound terms memory symbol unit =
    if counts_cells symbol unit.cells && surely_exists terms unit.size then share memory unit.cell_width else None

-- the least number that one of the units gives
abbrev pub cells_bound : Terms → ℕ → ℕ → List PlainUnit → Option ℕ
cells_bound terms memory symbol [] = None
cells_bound terms memory symbol (unit ∷ units) = lesser (cell_bound terms memory symbol unit) (cells_bound terms memory symbol units)
