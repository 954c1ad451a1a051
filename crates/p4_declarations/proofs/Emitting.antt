-- What the spelling of an emit and of the three parts of a program leaves no choice of.
use Rattle.std.proofs.Common.{◌≡◌, ℕ, List, ap, ◌∙◌}
use Rattle.spelling.specs.Words.{Word}
use Rattle.spelling.specs.Grammar.{Grammar, ◌⨟◌, Begins, IsSign}
use Rattle.spelling.specs.Reading.{MayTake}
use Rattle.spelling.proofs.Only.{split}
use Rattle.p4_declarations.specs.Flat.{SpellsEmit}
use Rattle.p4_declarations.specs.declared.package.Parts.{Parts}
use Rattle.p4_declarations.proofs.FieldSpelling.{named_no_sign}

pub emit_no_sign : (depth : ℕ) (header : List ℕ) {Q : Grammar} {a c : List Word} (sign : List ℕ) → MayTake (SpellsEmit depth header ⨟ Q) a c → Begins (IsSign sign) a → ⊥
emit_no_sign depth header sign m = named_no_sign sign (split m).first

pub same_parts : (p q : Parts) → p.parser ≡ q.parser → p.control ≡ q.control → p.deparser ≡ q.deparser → p ≡ q
same_parts p q parser control deparser =
    let made : List ℕ → List ℕ → List ℕ → Parts = λ x y z. record { parser = x; control = y; deparser = z } in
    let same : made p.parser p.control p.deparser ≡ made q.parser q.control q.deparser = ap (λ x. made x p.control p.deparser) parser ∙ ap (λ y. made q.parser y p.deparser) control ∙ ap (λ z. made q.parser q.control z) deparser in
    same
