use Rattle.p4_statements.proofs.FewReading.{refused_assign}
use Rattle.std.proofs.Common.{ap, codes, refl, ◌∙◌}
use Rattle.elastic_ast.specs.Seen.{seen_expr}
use Rattle.elastic_ast.proofs.SeenLaws.{seen_stmt-assign}
use Rattle.elastic_ast.specs.Tree.{PlainStmt}
use Rattle.spelling.proofs.Only.{after, alone, begins, ends_sign, same_end, wants, wants_one}
use Rattle.spelling.proofs.Taking.{takes_both}
use Rattle.spelling.proofs.Limits.{want_or}
use Rattle.p4_expr.specs.GoesOn.{expression_signs}
use Rattle.spelling.proofs.Bounds.{if_deep, refused_deep}
use Rattle.p4_expr.proofs.Bound.{expr_bound}
use Rattle.p4_statements.proofs.plain.assign.Goals as goal

pub returns : goal.returns
returns c =
    record {
      taken = record {
        value = seen_expr c.in_ok-value.value;
        is = seen_stmt-assign c.args.to c.in_ok-value.value;
        few = c.in_ok-value.ensures.few;
        taken = takes_both c.in_ok-value.ensures.taken c.in_ok-sign.ensures.taken;
      };
      only = λ more value rest m.
          let m1 = after m (λ b f s. c.in_ok-value.ensures.only more value b f (ends_sign expression_signs (codes ";") b refl (begins s))) in
          (seen_stmt-assign c.args.to c.in_ok-value.value ∙ ap (PlainStmt.Assign c.args.to) m1.0, same_end m1.1 c.in_ok-sign.ensures.taken);
      deep = tt;
    }

pub returns-in_err-value : goal.returns-in_err-value
returns-in_err-value c =
    refused_assign _ c.from_residual.ensures.1 (λ more value rest m. (wants m (λ b f s. c.in_err-value.ensures.only more value b f (ends_sign expression_signs (codes ";") b refl (begins s)))))
    ((if_deep _ (λ p. expr_bound p) c.in_err-value.ensures.deep))

pub returns-in_err-sign : goal.returns-in_err-sign
returns-in_err-sign c =
    refused_assign _ c.from_residual-in_err-sign.ensures.1 (λ more value rest m. let m1 = after m (λ b f s. c.in_ok-value.ensures.only more value b f (ends_sign expression_signs (codes ";") b refl (begins s))) in
    (want_or _ _ (wants_one _ _ (alone m1.1) c.in_err-sign.ensures.refused)))
    ((refused_deep _ _ _ _ c.in_err-sign.ensures.refused))
