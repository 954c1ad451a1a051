-- The word of a value of the program: its width and its number. This project's own.
use Rattle.elx_bits.specs.declared.bits.Bits.{Bits}
use Rattle.elx_bits.specs.Words.{BitWord}

abbrev pub word : Bits → BitWord
word bits = (bits.width, bits.value)
