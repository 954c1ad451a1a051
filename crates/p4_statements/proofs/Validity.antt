-- The two words that change a header's validity.
use Rattle.std.proofs.Common.{◌≡◌, ℕ, Bool, true, false, List, codes, refl}
use Rattle.spelling.specs.Words.{Word}
use Rattle.spelling.specs.Grammar.{Begins, IsNamed, Named}
use Rattle.spelling.specs.declared.error.SyntaxError.{SyntaxError}
use Rattle.spelling.specs.Reading.{IsWant, MayRefuse, MayTake, Takes}
use Rattle.spelling.proofs.Only.{begins, other_text, same_end, stands}
use Rattle.spelling.proofs.Bounds.{InLine, in_named}
use Rattle.p4_statements.specs.Statements.{SpellsValidity}

pub set_taken : (on : Bool) {a b c : List Word} → MayTake (SpellsValidity on) a c → Begins (IsNamed (codes "setValid")) a → Takes (Named (codes "setValid")) a b → (true ≡ on) × (b ≡ c)
set_taken true m at t = (refl, same_end m t)
set_taken false {a = a} m at t = absurd (other_text (codes "setInvalid") (codes "setValid") a refl (λ word h. h.1) (λ word h. h.1) (begins m) at)

pub unset_taken : (on : Bool) {a b c : List Word} → MayTake (SpellsValidity on) a c → (Begins (IsNamed (codes "setValid")) a → ⊥) → Takes (Named (codes "setInvalid")) a b → (false ≡ on) × (b ≡ c)
unset_taken true m none t = absurd (none (begins m))
unset_taken false m none t = (refl, same_end m t)

pub unset_wants : (on : Bool) {a c : List Word} (at : ℕ) (e : SyntaxError) → MayTake (SpellsValidity on) a c → (Begins (IsNamed (codes "setValid")) a → ⊥) → MayRefuse (Begins (IsNamed (codes "setInvalid")) a) at e → IsWant e
unset_wants true at e m none r = absurd (none (begins m))
unset_wants false at e m none r = stands at e r (begins m)

pub validity_in_line : (on : Bool) → InLine (SpellsValidity on)
validity_in_line true = in_named (codes "setValid")
validity_in_line false = in_named (codes "setInvalid")
