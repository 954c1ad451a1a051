-- What a program remembers while it works on a packet: each place of the vector holds a word, and each register its cells;
-- and what is written to it. This project's own.
use Rattle.std.specs.Prelude.{ℕ, ◌&&◌, nat_eq, List, Option, Some, None, if◌then◌else◌}
use Rattle.std.specs.Option.{option_eq}
use Rattle.elx_bits.specs.Words.{BitWord}
use Rattle.elastic_ast.specs.Tree.{Name}
use Rattle.elastic_ast.specs.Typing.Scope.{same, or_else}
use Rattle.elastic_ast.specs.Containers.Vectors.{Vectored, value_at}
use Rattle.elastic_ast.specs.Containers.RegisterLists.{Register, values_at}

-- a place of the vector, or a register with its index where it is one of an array
pub data Spot : Type 0 where
  At : List ℕ → Spot
  Reg : Name → Option ℕ → Spot

abbrev pub HeldAt : Spot → Type 0
HeldAt (At place) = BitWord
HeldAt (Reg name index) = List ℕ

abbrev pub Memory : Type 0
Memory = (spot : Spot) → HeldAt spot

-- the numbers in the cells of each register
abbrev pub Cells : Type 0
Cells = Name → Option ℕ → List ℕ

-- a word at each place
abbrev pub Words : Type 0
Words = List ℕ → BitWord

-- the memory of a word at each place and cells in each register
abbrev pub held : Words → Cells → Memory
held words cells (At place) = words place
held words cells (Reg name index) = cells name index

-- the memory that a vector and registers show
abbrev pub memory_of : Vectored → List Register → Memory
memory_of vector registers = held (value_at vector) (values_at registers)

abbrev pub words_of : Memory → Words
words_of memory = λ place. memory (At place)

abbrev pub register_cells : Memory → Cells
register_cells memory = λ name index. memory (Reg name index)

-- what is written: something or nothing at each spot
abbrev pub Writes : Type 0
Writes = (spot : Spot) → Option (HeldAt spot)

abbrev pub nothing : Writes
nothing = λ spot. None

abbrev pub written_or : {A : Type 0} → Option A → A → A
written_or (Some new) old = new
written_or None old = old

-- the memory after the writes
abbrev pub over : Writes → Memory → Memory
over writes memory = λ spot. written_or (writes spot) (memory spot)

-- the writes of the one and then those of the other, which count where both write
abbrev pub and_then : Writes → Writes → Writes
and_then first second = λ spot. or_else (second spot) (first spot)

-- a word is written at a place, and nothing else
abbrev pub put : List ℕ → BitWord → Writes
put place word (At other) = if same place other then Some word else None
put place word (Reg name index) = None

-- a register is written
abbrev pub store : Name → Option ℕ → List ℕ → Writes
store name index cells (At place) = None
store name index cells (Reg other number) = if same name other && option_eq nat_eq index number then Some cells else None
