-- Registers as a list: of each its name, the index where it is an element of an array, its width in bits, and the value
-- of each cell. This project's own.
use Rattle.std.specs.Prelude.{ℕ, zero, suc, Bool, false, ◌==◌, ◌&&◌, nat_eq, List, [], ◌∷◌, ◌++◌, map, length, slice_get, slice_set, replicate, Option, Some, None, option_map, option_and_then, unwrap_or, if◌then◌else◌}
use denote.Bor.{Bor}
use Rattle.std.specs.Option.{option_eq}
use Rattle.std.specs.Str.{bytes_eq}
use Rattle.std.specs.List.{position}
use Rattle.elx_bits.specs.Words.{BitWord}

-- the name and the index of a register
abbrev pub Key : Type 0
Key = List ℕ × Option ℕ

abbrev pub same_key : Key → Key → Bool
same_key one other = bytes_eq one.0 other.0 && option_eq nat_eq one.1 other.1

-- name, index, width, and the values of the cells
abbrev pub Register : Type 0
Register = List ℕ × Option ℕ × ℕ × List ℕ

abbrev pub register_key : Register → Key
register_key register = (register.0, register.1)

abbrev pub width_of : Register → ℕ
width_of register = register.2

abbrev pub values_of : Register → List ℕ
values_of register = register.3

-- name, index, width, and how many cells there are
abbrev pub Entry : Type 0
Entry = List ℕ × Option ℕ × ℕ × ℕ

abbrev pub entry_of : Register → Entry
entry_of register = (register.0, register.1, register.2, length register.3)

-- what a look-up tells, where the name is borrowed
abbrev pub told_entry : Bor (List ℕ) × Option ℕ × ℕ × ℕ → Entry
told_entry told = (told.0.now, told.1, told.2, told.3)

abbrev pub entry_at : List Register → ℕ → Option Entry
entry_at registers place = option_map entry_of (slice_get registers place)

-- no register's: no bits and no cells
abbrev pub no_register : Register
no_register = ([], None, 0, [])

-- a register whose cells are all 0
abbrev pub zeroed_register : List ℕ → Option ℕ → ℕ → ℕ → Register
zeroed_register name index width cells = (name, index, width, replicate cells 0)

-- the registers with a new one behind them
abbrev pub with_register : List Register → List ℕ → Option ℕ → ℕ → ℕ → List Register
with_register registers name index width cells = registers ++ zeroed_register name index width cells ∷ []

abbrev pub keys : List Register → List Key
keys registers = map register_key registers

-- the place of the first register with this name and index
unfoldable pub register_at : List Register → List ℕ → Option ℕ → Option ℕ
register_at registers name index = position (same_key (name, index)) (keys registers)

-- a cell of a register, as a word of the register's width
unfoldable pub cell_at : List Register → ℕ → ℕ → Option BitWord
cell_at registers place cell =
    option_and_then (λ register. option_map (λ value. (width_of register, value)) (slice_get (values_of register) cell)) (slice_get registers place)

-- whether a cell is there and has this width
abbrev pub is_of_width : Option BitWord → ℕ → Bool
is_of_width None width = false
is_of_width (Some word) width = word.0 == width

-- the register with another value in one cell
abbrev pub stored : Register → ℕ → ℕ → Register
stored register cell value = (register.0, register.1, register.2, slice_set register.3 cell value)

-- the registers with another value in one cell of the register at a place
unfoldable pub with_cell : List Register → ℕ → ℕ → ℕ → List Register
with_cell [] place cell value = []
with_cell (register ∷ rest) zero cell value = stored register cell value ∷ rest
with_cell (register ∷ rest) (suc place) cell value = register ∷ with_cell rest place cell value

-- the registers with another value in a cell, where the test says that it is written
abbrev pub with_cell_if : Bool → List Register → ℕ → ℕ → ℕ → List Register
with_cell_if written registers place cell value = if written then with_cell registers place cell value else registers

-- the register at a place, and that of no bits and no cells where there is none
abbrev pub register_or_none : List Register → Option ℕ → Register
register_or_none registers None = no_register
register_or_none registers (Some place) = unwrap_or (slice_get registers place) no_register

-- the width of the register with a name and an index, and 0 where there is none
unfoldable pub width_at : List Register → List ℕ → Option ℕ → ℕ
width_at registers name index = width_of (register_or_none registers (register_at registers name index))

-- the values of its cells, and none where there is none
unfoldable pub values_at : List Register → List ℕ → Option ℕ → List ℕ
values_at registers name index = values_of (register_or_none registers (register_at registers name index))
