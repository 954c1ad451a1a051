use Rattle.std.proofs.Common.{rules, codes, refl, subst, sym, ◌∙◌}
use Rattle.elastic_ast.specs.declared.declarations.Rel.TheVariants as rel
use Rattle.spelling.specs.Grammar.{Begins, IsSign}
use Rattle.spelling.specs.Reading.{ahead}
use Rattle.spelling.proofs.Only.{not_there}
use Rattle.p4_declarations.proofs.Signs.{no_relation, reads_relation}
use Rattle.p4_declarations.proofs.sums.relation.Goals as goal

pub returns-then-eat_sign : goal.returns-then-eat_sign
returns-then-eat_sign c = reads_relation rel.Le refl (c.if-eat_sign.ensures.taken refl)

pub returns-then-eat_sign-2 : goal.returns-then-eat_sign-2
returns-then-eat_sign-2 c = reads_relation rel.Lt (c.if-eat_sign.ensures.left refl) (c.if-eat_sign-2.ensures.taken refl)

pub returns-then-eat_sign-3 : goal.returns-then-eat_sign-3
returns-then-eat_sign-3 c = reads_relation rel.Ge (c.if-eat_sign-2.ensures.left refl ∙ c.if-eat_sign.ensures.left refl) (c.if-eat_sign-3.ensures.taken refl)

pub returns-then-eat_sign-4 : goal.returns-then-eat_sign-4
returns-then-eat_sign-4 c = reads_relation rel.Gt (c.if-eat_sign-3.ensures.left refl ∙ c.if-eat_sign-2.ensures.left refl ∙ c.if-eat_sign.ensures.left refl) (c.if-eat_sign-4.ensures.taken refl)

pub returns-then-eat_sign-5 : goal.returns-then-eat_sign-5
returns-then-eat_sign-5 c = reads_relation rel.Eq (c.if-eat_sign-4.ensures.left refl ∙ c.if-eat_sign-3.ensures.left refl ∙ c.if-eat_sign-2.ensures.left refl ∙ c.if-eat_sign.ensures.left refl) (c.if-eat_sign-5.ensures.taken refl)

pub returns-else-eat_sign-5 : goal.returns-else-eat_sign-5
returns-else-eat_sign-5 c =
    record {
      taken = search rules;
      only = λ r rest m.
          absurd (no_relation r m (not_there c.if-eat_sign.ensures.at.1)
          (λ b. not_there c.if-eat_sign-2.ensures.at.1 (subst (λ at. Begins (IsSign (codes "<")) (ahead at)) (sym (c.if-eat_sign.ensures.left refl)) b))
          (λ b. not_there c.if-eat_sign-3.ensures.at.1 (subst (λ at. Begins (IsSign (codes ">=")) (ahead at)) (sym (c.if-eat_sign-2.ensures.left refl ∙ c.if-eat_sign.ensures.left refl)) b))
          (λ b. not_there c.if-eat_sign-4.ensures.at.1 (subst (λ at. Begins (IsSign (codes ">")) (ahead at)) (sym (c.if-eat_sign-3.ensures.left refl ∙ c.if-eat_sign-2.ensures.left refl ∙ c.if-eat_sign.ensures.left refl)) b))
          (λ b. not_there c.if-eat_sign-5.ensures.at.1 (subst (λ at. Begins (IsSign (codes "==")) (ahead at)) (sym (c.if-eat_sign-4.ensures.left refl ∙ c.if-eat_sign-3.ensures.left refl ∙ c.if-eat_sign-2.ensures.left refl ∙ c.if-eat_sign.ensures.left refl)) b)));
      shallow = search rules;
    }
