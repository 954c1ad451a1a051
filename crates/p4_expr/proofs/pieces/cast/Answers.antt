use Rattle.std.proofs.Common.{codes, refl, rules}
use Rattle.spelling.proofs.Bounds.{in_sign}
use Rattle.spelling.proofs.InLines.{around_line}
use Rattle.p4_expr.proofs.pieces.cast.Goals as goal

pub returns : goal.returns
returns c = around_line refl (in_sign (codes "(") refl refl refl) (λ inner old new r call. search rules) c.in_brackets.ensures
