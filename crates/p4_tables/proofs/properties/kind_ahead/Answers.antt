use Rattle.std.proofs.Common.{codes, inl, inr, refl, subst, sym}
use Rattle.spelling.specs.Grammar.{Begins, IsNamed}
use Rattle.spelling.proofs.Only.{not_there}
use Rattle.p4_tables.proofs.PropertySpelling.{const_kind, first_words, named_kind, none_begins}
use Rattle.p4_tables.proofs.properties.kind_ahead.Goals as goal

pub returns-then-is_at_name-clause-only : goal.returns-then-is_at_name-clause-only
returns-then-is_at_name-clause-only c = λ depth property rest m. named_kind (codes "key") refl property _ (first_words depth property m) (c.if-is_at_name.ensures.0 refl)

pub returns-then-is_at_name-2-clause-only : goal.returns-then-is_at_name-2-clause-only
returns-then-is_at_name-2-clause-only c = λ depth property rest m. named_kind (codes "actions") refl property _ (first_words depth property m) (c.if-is_at_name-2.ensures.0 refl)

pub returns-then-is_at_name-3-clause-only : goal.returns-then-is_at_name-3-clause-only
returns-then-is_at_name-3-clause-only c = λ depth property rest m. named_kind (codes "default_action") refl property _ (first_words depth property m) (c.if-is_at_name-3.ensures.0 refl)

pub returns-then-is_at_name-4-clause-only : goal.returns-then-is_at_name-4-clause-only
returns-then-is_at_name-4-clause-only c = λ depth property rest m. named_kind (codes "size") refl property _ (first_words depth property m) (c.if-is_at_name-4.ensures.0 refl)

pub returns-then-not-is_at_reserved-clause-only : goal.returns-then-not-is_at_reserved-clause-only
returns-then-not-is_at_reserved-clause-only c = λ depth property rest m.
    absurd (none_begins property _ (first_words depth property m) (not_there c.if-is_at_name.ensures.1) (not_there c.if-is_at_name-2.ensures.1) (not_there c.if-is_at_name-3.ensures.1) (not_there c.if-is_at_name-4.ensures.1) (λ const at. not_there c.if-not-is_at_reserved.ensures.1 const))

pub returns-then-is_at_name-5-clause-only : goal.returns-then-is_at_name-5-clause-only
returns-then-is_at_name-5-clause-only c = λ depth property rest m.
    const_kind (codes "default_action") property _ (first_words depth property m) (c.if-not-is_at_reserved.ensures.0 refl) (subst (Begins (IsNamed (codes "default_action"))) c.later-behind.ensures (c.if-is_at_name-5.ensures.0 refl))

pub returns-then-is_at_name-6-clause-only : goal.returns-then-is_at_name-6-clause-only
returns-then-is_at_name-6-clause-only c = λ depth property rest m.
    const_kind (codes "entries") property _ (first_words depth property m) (c.if-not-is_at_reserved.ensures.0 refl) (subst (Begins (IsNamed (codes "entries"))) c.later-behind.ensures (c.if-is_at_name-6.ensures.0 refl))

pub returns-clause-only : goal.returns-clause-only
returns-clause-only c = λ depth property rest m.
    absurd (none_begins property _ (first_words depth property m) (not_there c.if-is_at_name.ensures.1) (not_there c.if-is_at_name-2.ensures.1) (not_there c.if-is_at_name-3.ensures.1) (not_there c.if-is_at_name-4.ensures.1)
    (λ const at. elim at [
      | inl default ↦ not_there c.if-is_at_name-5.ensures.1 (subst (Begins (IsNamed (codes "default_action"))) (sym c.later-behind.ensures) default)
      | inr entries ↦ not_there c.if-is_at_name-6.ensures.1 (subst (Begins (IsNamed (codes "entries"))) (sym c.later-behind.ensures) entries)
    ]))
