-- What holds of registers: widths from 1 to 128, values that fit, no name and index twice, and hashes of these in the
-- same order. This project's own.
use Rattle.std.specs.Prelude.{◌≡◌, ◌<◌, ◌≤◌, ℕ, ◌^◌, List, map, length, get_or}
use Rattle.elastic_ast.specs.Typing.LanguageLimits.{most_width}
use Rattle.std.specs.List.{All}
use Rattle.elastic_ast.specs.declared.registers.Held.{Held}
use Rattle.elastic_ast.specs.Containers.KeyHash.{hash_of}
use Rattle.elastic_ast.specs.Containers.RegisterLists.{Register, Key, keys, width_of, values_of}

abbrev pub seen_register : Held → Register
seen_register held = (held.name, held.index, held.width, held.cells.items)

abbrev pub registers_of : List Held → List Register
registers_of list = map seen_register list

pub record IsRegister (register : Register) : Type 0 where
  pub positive : 1 ≤ width_of register
  pub within : width_of register ≤ most_width
  pub few : length (values_of register) < 2 ^ 32
  pub fits : All (λ value. value < 2 ^ width_of register) (values_of register)

-- no key twice
abbrev pub AreDistinct : List Key → Type 0
AreDistinct list = (j k : ℕ) (past : Key) → j < length list → k < length list → get_or list j past ≡ get_or list k past → j ≡ k

pub record Kept (hashes : List ℕ) (registers : List Register) : Type 0 where
  pub hashed : hashes ≡ map hash_of (keys registers)
  pub each : All IsRegister registers
  pub distinct : AreDistinct (keys registers)
