use Rattle.std.proofs.Common.{codes, false, true, refl, subst, sym}
use Rattle.spelling.specs.Grammar.{Begins, IsSign}
use Rattle.spelling.specs.Reading.{ahead, MayTake}
use Rattle.spelling.proofs.Only.{not_there}
use Rattle.p4_declarations.specs.Sums.{SpellsSign}
use Rattle.p4_declarations.proofs.Signs.{no_sign_there, same_sign}
use Rattle.p4_declarations.proofs.sums.sign.Goals as goal

pub returns-then-eat_sign-clause-only : goal.returns-then-eat_sign-clause-only
returns-then-eat_sign-clause-only c = λ minus rest m. same_sign true minus m (c.if-eat_sign.ensures.taken refl)

pub returns-then-eat_sign-2-clause-only : goal.returns-then-eat_sign-2-clause-only
returns-then-eat_sign-2-clause-only c = λ minus rest m.
    same_sign false minus (subst (λ r. MayTake (SpellsSign minus) (ahead r) rest) (sym (c.if-eat_sign.ensures.left refl)) m) (c.if-eat_sign-2.ensures.taken refl)

pub returns-else-eat_sign-2-clause-only : goal.returns-else-eat_sign-2-clause-only
returns-else-eat_sign-2-clause-only c = λ minus rest m.
    absurd (no_sign_there minus m (not_there c.if-eat_sign.ensures.at.1) (λ at. not_there c.if-eat_sign-2.ensures.at.1 (subst (λ r. Begins (IsSign (codes "+")) (ahead r)) (sym (c.if-eat_sign.ensures.left refl)) at)))
