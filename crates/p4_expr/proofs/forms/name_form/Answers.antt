use Rattle.std.proofs.Common.{codes, inl, inr, refl, subst, sym}
use Rattle.spelling.specs.Grammar.{Begins, IsSign}
use Rattle.spelling.proofs.Only.{no_sign, not_there}
use Rattle.p4_expr.specs.declared.forms.Form.TheVariants as form
use Rattle.p4_expr.proofs.FormWords.{named_form, place_form}
use Rattle.p4_expr.proofs.forms.name_form.Goals as goal

pub returns-then-is_at_hash : goal.returns-then-is_at_hash
returns-then-is_at_hash c = λ b.
    let at = c.if-is_at_hash.ensures.0 refl in
    named_form form.Hash b
    (λ rest end. inr (refl, subst (Begins (IsSign (codes "("))) end at.1))
    (λ rest w. absurd (no_sign (codes ".") (codes "(") _ refl w.dot at.1))
    (λ rest w. absurd (no_sign (codes ".") (codes "(") _ refl w.1 at.1))
    (λ rest h. inl refl)
    (λ h. at)
    (λ t. absurd cc)

pub returns-then-not-is_at_sign : goal.returns-then-not-is_at_sign
returns-then-not-is_at_sign c = λ b.
    named_form form.Name b
    (λ rest end. refl)
    (λ rest w. absurd (not_there c.if-not-is_at_sign.ensures.1 (subst (Begins (IsSign (codes "."))) (sym c.later.ensures) w.dot)))
    (λ rest w. absurd (not_there c.if-not-is_at_sign.ensures.1 (subst (Begins (IsSign (codes "."))) (sym c.later.ensures) w.1)))
    (λ rest h. absurd (not_there c.if-is_at_hash.ensures.1 h))
    (λ h. absurd cc)
    (λ t. absurd cc)

pub returns-then-is_at_test : goal.returns-then-is_at_test
returns-then-is_at_test c = λ b.
    let dot = subst (Begins (IsSign (codes "."))) c.later.ensures (c.if-not-is_at_sign.ensures.0 refl) in
    let header = c.if-is_at_name.ensures.0 refl in
    let test = c.if-is_at_test.ensures.0 refl in
    named_form form.Validity b
    (λ rest end. inr (inl (refl, subst (Begins (IsSign (codes "."))) end dot)))
    (λ rest w. inr (inr (refl, w.test header test)))
    (λ rest w. inl refl)
    (λ rest h. absurd (not_there c.if-is_at_hash.ensures.1 h))
    (λ h. absurd cc)
    (λ t. (header, test))

pub returns-else-is_at_test : goal.returns-else-is_at_test
returns-else-is_at_test c = λ b.
    place_form b (subst (Begins (IsSign (codes "."))) c.later.ensures (c.if-not-is_at_sign.ensures.0 refl)) (not_there c.if-is_at_hash.ensures.1) (λ h t. not_there c.if-is_at_test.ensures.1 t)

pub returns-then-is_at_name-2 : goal.returns-then-is_at_name-2
returns-then-is_at_name-2 c = λ b.
    place_form b (subst (Begins (IsSign (codes "."))) c.later.ensures (c.if-not-is_at_sign.ensures.0 refl)) (not_there c.if-is_at_hash.ensures.1) (λ h t. not_there c.if-is_at_name.ensures.1 h)

pub returns-then-is_at_name-3 : goal.returns-then-is_at_name-3
returns-then-is_at_name-3 c = λ b.
    place_form b (subst (Begins (IsSign (codes "."))) c.later.ensures (c.if-not-is_at_sign.ensures.0 refl)) (not_there c.if-is_at_hash.ensures.1) (λ h t. not_there c.if-is_at_name.ensures.1 h)

pub returns : goal.returns
returns c = λ b.
    named_form form.Name b
    (λ rest end. refl)
    (λ rest w. elim w.first [ inl h ↦ absurd (not_there c.if-is_at_name.ensures.1 h) | inr (inl h) ↦ absurd (not_there c.if-is_at_name-2.ensures.1 h) | inr (inr h) ↦ absurd (not_there c.if-is_at_name-3.ensures.1 h) ])
    (λ rest w. absurd (not_there c.if-is_at_name.ensures.1 w.0))
    (λ rest h. absurd (not_there c.if-is_at_hash.ensures.1 h))
    (λ h. absurd cc)
    (λ t. absurd cc)
