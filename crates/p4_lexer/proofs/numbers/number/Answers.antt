use Rattle.std.proofs.Common.{sym}
use Rattle.p4_lexer.proofs.OneNumber.{without_w, no_width_before, no_number_behind, width_and_number}
use Rattle.p4_lexer.proofs.numbers.number.Goals as goal

pub returns-in_err-value-in-None : goal.returns-in_err-value-in-None
returns-in_err-value-in-None c =
    rw c.from_residual-in_err-value-in-None.ensures (without_w _ (sym c.in-None.ensures) c.in_err-value-in-None.ensures)

pub returns-in_err-width-in-Some : goal.returns-in_err-width-in-Some
returns-in_err-width-in-Some c =
    rw c.from_residual.ensures (no_width_before c.args.text.now _ (sym c.in-Some.ensures) c.in_err-width-in-Some.ensures)

pub returns-in_err-value-in-Some : goal.returns-in_err-value-in-Some
returns-in_err-value-in-Some c =
    rw c.from_residual-in_err-value-in-Some.ensures (no_number_behind c.args.text.now _ (sym c.in-Some.ensures) c.in_err-value-in-Some.ensures)

pub returns-in_ok-value-in-Some : goal.returns-in_ok-value-in-Some
returns-in_ok-value-in-Some c =
    width_and_number _ _ _ _ (sym c.in-Some.ensures) c.in_ok-width-in-Some.ensures c.in_ok-value-in-Some.ensures
