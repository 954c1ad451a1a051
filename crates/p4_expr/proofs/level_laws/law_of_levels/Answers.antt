use Rattle.std.proofs.Common.{refl}
use Rattle.p4_expr.proofs.Levels.{level_begins, primary_begins}
use Rattle.p4_expr.proofs.level_laws.law_of_levels.Goals as goal

pub returns : goal.returns
returns c = record { binary = λ depth level op left right ws h lt. level_begins h lt; unary = λ depth op of ws h. primary_begins h refl; cast = λ depth width of ws h. primary_begins h refl }
