use Rattle.std.proofs.Common.{take}
use Rattle.p4_lexer.proofs.PlainDigits.{IsWidthSoFar}
use Rattle.p4_lexer.proofs.numbers.width_of.Given as goal

abbrev pub invariant-loop-byte : goal.invariant-loop-byte
invariant-loop-byte l = IsWidthSoFar (take l.byte-index l.digits) l.width
