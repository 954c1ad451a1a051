-- Bits of this width and this value; this project's own.
use Rattle.std.specs.Prelude.{◌≡◌, ℕ}
use Rattle.elx_bits.specs.declared.bits.Bits.{Bits}

pub record AreBits (of_width of_value : ℕ) (bits : Bits) : Type 0 where
  pub width : bits.width ≡ of_width
  pub value : bits.value ≡ of_value
