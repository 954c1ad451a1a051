-- A shift has the value of the shift of words, for every amount (P4-16 language specification 1.2.3, section 8.6).
use Rattle.std.specs.Prelude.{◌≡◌, ◌<◌, ℕ, ◌^◌}
use Rattle.elx_bits.specs.Words as words
use Rattle.elastic_ast.specs.OperatorSorts.{ShiftUp, ShiftDown}
use Rattle.elastic_ast.specs.Meaning.Values.{apply}

pub record ShiftsAreOfWords : Type 0 where
  pub up : (width low a by : ℕ) → apply ShiftUp width low a by ≡ words.shl width a by
  pub down : (width low a by : ℕ) → a < 2 ^ width → apply ShiftDown width low a by ≡ words.shr a by
