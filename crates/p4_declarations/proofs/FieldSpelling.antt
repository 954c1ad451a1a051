-- What the spelling of a field and of a header of a packet leaves no choice of.
use Rattle.std.proofs.Common.{◌≡◌, ℕ, List, subst, Option, ap, ◌∙◌, codes}
use Rattle.elastic_ast.specs.declared.declarations.Field.{Field}
use Rattle.spelling.specs.Words.{Word}
use Rattle.spelling.specs.Grammar.{Grammar, ◌⨟◌, Begins, IsSign, Named}
use Rattle.spelling.specs.Reading.{MayTake}
use Rattle.spelling.proofs.Only.{begins_as, begins_first, not_sign, of_where, reserved_no_sign, split}
use Rattle.p4_expr.specs.GoesOn.{EndsIndex}
use Rattle.p4_expr.proofs.FormWords.{name_no_sign}
use Rattle.p4_declarations.specs.Flat.{SpellsConstant, SpellsHeaderField, SpellsMetaField, SpellsMember}

pub same_field : (f g : Field) → f.name ≡ g.name → f.width ≡ g.width → f.size ≡ g.size → f ≡ g
same_field f g name width size =
    let made : List ℕ → ℕ → Option (List ℕ) → Field = λ n w s. record { name = n; width = w; size = s } in
    let same : made f.name f.width f.size ≡ made g.name g.width g.size = ap (λ n. made n f.width f.size) name ∙ ap (λ w. made g.name w f.size) width ∙ ap (λ s. made g.name g.width s) size in
    same

-- a name is no sign
pub named_no_sign : {n : List ℕ} {Q : Grammar} {a c : List Word} (sign : List ℕ) → MayTake (Named n ⨟ Q) a c → Begins (IsSign sign) a → ⊥
named_no_sign {a = a} sign m = name_no_sign sign a (begins_as (λ word h. h.0) a (begins_first m))

-- where a name follows, there is no index
pub name_ends_index : {n : List ℕ} {Q : Grammar} {a c : List Word} → MayTake (Named n ⨟ Q) a c → EndsIndex a
name_ends_index m at = absurd (named_no_sign (codes "[") m at)

-- the first word of a field is no sign, nor is that of a header of a packet
pub meta_field_no_sign : (depth : ℕ) (field : Field) {Q : Grammar} {a c : List Word} (sign : List ℕ) → MayTake (SpellsMetaField depth field ⨟ Q) a c → Begins (IsSign sign) a → ⊥
meta_field_no_sign depth field {a = a} sign m =
    not_sign sign a (λ word h. reserved_no_sign word.kind h.0) (begins_first (of_where (split (split m).first).first))

pub header_field_no_sign : (field : Field) {Q : Grammar} {a c : List Word} (sign : List ℕ) → MayTake (SpellsHeaderField field ⨟ Q) a c → Begins (IsSign sign) a → ⊥
header_field_no_sign field {a = a} sign m =
    not_sign sign a (λ word h. reserved_no_sign word.kind h.0) (begins_first (of_where (split (of_where (split m).first)).first))

pub member_no_sign : (member : List ℕ × List ℕ) {Q : Grammar} {a c : List Word} (sign : List ℕ) → MayTake (SpellsMember member ⨟ Q) a c → Begins (IsSign sign) a → ⊥
member_no_sign member sign m = named_no_sign sign (split m).first

-- a constant's value, where its width is the same
pub constant_as : {w v value : ℕ} {a c : List Word} → v ≡ w → MayTake (SpellsConstant v value) a c → MayTake (SpellsConstant w value) a c
constant_as {value = value} {a = a} {c = c} e m = subst (λ n. MayTake (SpellsConstant n value) a c) e m
