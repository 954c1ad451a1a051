-- What one word of a piece of an expression says of what was read.
use Rattle.std.proofs.Common.{◌≡◌, ℕ, Bool, true, false, List, codes, refl}
use Rattle.spelling.specs.Words.{Word}
use Rattle.spelling.specs.Grammar.{Reserved, IsReserved, Begins}
use Rattle.spelling.specs.Reading.{Takes, MayTake, IsWant, MayRefuse}
use Rattle.spelling.specs.declared.error.SyntaxError.{SyntaxError}
use Rattle.spelling.proofs.Only.{begins, other_text, same_end, stands}
use Rattle.spelling.proofs.Taking.{may}
use Rattle.p4_expr.specs.Parts.{SpellsTruth}

pub same_true : {a b c : List Word} (which : Bool) → MayTake (SpellsTruth which) a c → Takes (Reserved (codes "true")) a b → (true ≡ which) × (b ≡ c)
same_true true m t = (refl, same_end m t)
same_true {a = a} false m t = absurd (other_text (codes "false") (codes "true") a refl (λ word h. h.1) (λ word h. h.1) (begins m) (begins (may t)))

pub same_false : {a b c : List Word} (which : Bool) → MayTake (SpellsTruth which) a c → Takes (Reserved (codes "false")) a b → (false ≡ which) × (b ≡ c)
same_false false m t = (refl, same_end m t)
same_false {a = a} true m t = absurd (other_text (codes "true") (codes "false") a refl (λ word h. h.1) (λ word h. h.1) (begins m) (begins (may t)))

-- where it isn't `true` it is `false`
pub truth_stands : {a c : List Word} (which : Bool) (at : ℕ) (e : SyntaxError) → MayTake (SpellsTruth which) a c → (Begins (IsReserved (codes "true")) a → ⊥) → MayRefuse (Begins (IsReserved (codes "false")) a) at e → IsWant e
truth_stands true at e m none r = absurd (none (begins m))
truth_stands false at e m none r = stands at e r (begins m)
