use Rattle.std.proofs.Common.{take}
use Rattle.p4_lexer.proofs.PlainDigits.{AreRead}
use Rattle.p4_lexer.proofs.numbers.value_in.Given as goal

abbrev pub invariant-loop-byte : goal.invariant-loop-byte
invariant-loop-byte l = AreRead l.base (take l.byte-index l.digits) l.value
