use Rattle.p4_lexer.proofs.DigitFronts.{no_digit, too_wide}
use Rattle.p4_lexer.proofs.PlainDigits.{width_none, width_more}
use Rattle.p4_lexer.proofs.numbers.width_of.Goals as goal

pub loop-byte-init : goal.loop-byte-init
loop-byte-init c = width_none

pub loop-byte-preserved : goal.loop-byte-preserved
loop-byte-preserved c =
    width_more _ _ _ _ c.loop-byte-test.true c.loop-byte.invariant c.in_ok-digit.ensures.low c.in_ok-digit.ensures.value c.if-width-gt-WIDEST.false

pub returns-in_err-digit : goal.returns-in_err-digit
returns-in_err-digit c = rw c.from_residual.ensures (no_digit _ _ c.loop-byte-test.true c.in_err-digit.ensures.none)

pub returns-then-width-gt-WIDEST : goal.returns-then-width-gt-WIDEST
returns-then-width-gt-WIDEST c =
    too_wide _ _ c.loop-byte.width _ c.loop-byte-test.true c.loop-byte.invariant c.in_ok-digit.ensures.value c.if-width-gt-WIDEST.true
