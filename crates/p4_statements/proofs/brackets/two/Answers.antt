use Rattle.p4_expr.specs.Expressions.{HasFewOperators}
use Rattle.p4_statements.proofs.FewReading.{passes_line}
use Rattle.p4_statements.specs.Reading.{SpellsTwo, seen_two}
use Rattle.spelling.proofs.ByParts.{around_few}
use Rattle.std.proofs.Common.{codes, refl, rules}
use Rattle.spelling.proofs.Bounds.{in_sign}
use Rattle.p4_statements.proofs.brackets.two.Goals as goal

pub returns : goal.returns
returns c =
    around_few {Of = SpellsTwo} {seen = seen_two} {Few = λ both. HasFewOperators both.0 × HasFewOperators both.1} refl (passes_line (codes "(") c.args.depth refl (in_sign (codes "(") refl refl refl))
    (λ inner old new r call. search rules) c.around.ensures
