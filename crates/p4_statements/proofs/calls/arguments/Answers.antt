use Rattle.p4_expr.specs.Expressions.{HasFewOperators}
use Rattle.elastic_ast.specs.Seen.{seen_exprs}
use Rattle.p4_statements.proofs.FewReading.{passes_line}
use Rattle.std.proofs.Common.{All, codes, refl, rules}
use Rattle.spelling.proofs.ByParts.{around_few}
use Rattle.p4_statements.specs.Reading.{SpellsArguments}
use Rattle.spelling.proofs.Bounds.{in_sign}
use Rattle.p4_statements.proofs.calls.arguments.Goals as goal

pub returns : goal.returns
returns c =
    around_few {Of = SpellsArguments} {seen = seen_exprs} {Few = λ es. All HasFewOperators es} refl (passes_line (codes "(") c.args.depth refl (in_sign (codes "(") refl refl refl))
    (λ inner old new r call. search rules) c.around.ensures
