use Rattle.std.proofs.Common.{codes, inl, inr, refl}
use Rattle.spelling.proofs.Only.{not_sign, not_there, reserved_no_sign}
use Rattle.p4_expr.specs.declared.forms.Form.TheVariants as form
use Rattle.p4_expr.proofs.FormWords.{number_no_sign, number_no_word, truth_form, unnamed_form}
use Rattle.p4_expr.proofs.forms.form_ahead.Goals as goal

pub returns-then-is_at_any_name : goal.returns-then-is_at_any_name
returns-then-is_at_any_name c = c.name_form.ensures (c.if-is_at_any_name.ensures.0 refl)

pub returns-then-is_at_number : goal.returns-then-is_at_number
returns-then-is_at_number c =
    let at = c.if-is_at_number.ensures.0 refl in
    unnamed_form form.Number (not_there c.if-is_at_any_name.ensures.1)
    (λ b. refl)
    (λ w. elim w [ inl h ↦ absurd (number_no_word _ _ at h) | inr h ↦ absurd (number_no_word _ _ at h) ])
    (λ b. absurd (number_no_sign (codes "(") _ at b))
    (λ h. cc)
    (λ t. cc)

pub returns-then-is_at_sign : goal.returns-then-is_at_sign
returns-then-is_at_sign c =
    let at = c.if-is_at_sign.ensures.0 refl in
    unnamed_form form.Bracketed (not_there c.if-is_at_any_name.ensures.1)
    (λ b. absurd (not_there c.if-is_at_number.ensures.1 b))
    (λ w. elim w [ inl h ↦ absurd (not_sign (codes "(") _ (λ word k. reserved_no_sign word.kind k.0) h at) | inr h ↦ absurd (not_sign (codes "(") _ (λ word k. reserved_no_sign word.kind k.0) h at) ])
    (λ b. refl)
    (λ h. cc)
    (λ t. cc)

pub returns-then-is_at_reserved : goal.returns-then-is_at_reserved
returns-then-is_at_reserved c =
    truth_form (not_there c.if-is_at_any_name.ensures.1) (not_there c.if-is_at_number.ensures.1) (not_there c.if-is_at_sign.ensures.1)

pub returns-then-is_at_reserved-2 : goal.returns-then-is_at_reserved-2
returns-then-is_at_reserved-2 c =
    truth_form (not_there c.if-is_at_any_name.ensures.1) (not_there c.if-is_at_number.ensures.1) (not_there c.if-is_at_sign.ensures.1)

pub returns : goal.returns
returns c =
    unnamed_form form.Other (not_there c.if-is_at_any_name.ensures.1)
    (λ b. absurd (not_there c.if-is_at_number.ensures.1 b))
    (λ w. elim w [ inl h ↦ absurd (not_there c.if-is_at_reserved.ensures.1 h) | inr h ↦ absurd (not_there c.if-is_at_reserved-2.ensures.1 h) ])
    (λ b. absurd (not_there c.if-is_at_sign.ensures.1 b))
    (λ h. cc)
    (λ t. cc)
