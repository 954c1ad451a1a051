use Rattle.std.proofs.Common.{◌<◌, ◌^◌, rules, sym}
use Rattle.std.specs.Prelude.{IfSome}
use Rattle.p4_lexer.proofs.OneNumber.{based_natural}
use Rattle.p4_lexer.proofs.numbers.natural.Goals as goal

pub returns-in-Some : goal.returns-in-Some
returns-in-Some c =
    let small : IfSome c.value_in.result (λ value. value < 2 ^ 128) = search rules in
    based_natural _ _ _ c.if-text-ge2.true c.if-text-eq48.true (sym c.in-Some.ensures) small c.value_in.ensures
