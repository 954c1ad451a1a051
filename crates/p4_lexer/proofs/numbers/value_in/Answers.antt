use Rattle.std.proofs.Common.{◌∙◌}
use Rattle.p4_lexer.proofs.DigitFronts.{no_value}
use Rattle.p4_lexer.proofs.PlainDigits.{read_digit, read_line}
use Rattle.p4_lexer.proofs.numbers.value_in.Goals as goal
use Rattle.p4_lexer.proofs.numbers.value_in.Goals.{then-byte-ne95+in_ok-value, else-byte-ne95}

pub loop-byte-preserved : goal.loop-byte-preserved
loop-byte-preserved c = elim c.if-byte-ne95.branch [
  | then-byte-ne95+in_ok-value w ↦ read_digit _ _ _ c.loop-byte.value _ c.loop-byte-test.true c.loop-byte.invariant w.if-byte-ne95.true w.in_ok-value.ensures.digit (w.value-is ∙ w.in_ok-value.ensures.value)
  | else-byte-ne95 w ↦ read_line _ _ _ c.loop-byte.value _ c.loop-byte-test.true c.loop-byte.invariant w.if-byte-ne95.false w.value-is
]

pub returns-in_err-value : goal.returns-in_err-value
returns-in_err-value c =
    rw c.from_residual.ensures
    (no_value _ _ _ c.loop-byte.value c.requires.low c.loop-byte-test.true c.loop-byte.invariant c.if-byte-ne95.true c.in_err-value.ensures.none)
