use Rattle.spelling.proofs.Refusals.{refused_reads}
use Rattle.p4_tables.proofs.SetSpelling.{named_value, number_value}
use Rattle.spelling.proofs.Only.{alone, named_same, not_there, same_end, wants_name}
use Rattle.elastic_ast.proofs.SeenLaws.{seen_expr-named, seen_expr-num}
use Rattle.std.proofs.Common.{ap, refl, sym, ◌∙◌}
use Rattle.spelling.proofs.Bounds.{refused_deep}
use Rattle.elastic_ast.specs.Tree.{PlainExpr}
use Rattle.p4_tables.proofs.sets.value.Goals as goal

pub returns-in_err-name : goal.returns-in_err-name
returns-in_err-name c =
    refused_reads _ c.from_residual.ensures.1 (λ value rest m. wants_name _ _ (alone (named_value value m (not_there c.if-not-is_at_number.ensures.1)).ahead) c.in_err-name.ensures.refused) (refused_deep _ _ _ _ c.in_err-name.ensures.refused)

pub returns-then-not-is_at_number : goal.returns-then-not-is_at_number
returns-then-not-is_at_number c =
    record {
      taken = rw (seen_expr-named c.in_ok-name.name) c.in_ok-name.ensures.taken;
      only = λ value rest m.
          let n = named_value value m (not_there c.if-not-is_at_number.ensures.1) in
          (seen_expr-named _ ∙ ap PlainExpr.Named (named_same (alone n.ahead) c.in_ok-name.ensures.taken) ∙ sym n.is, same_end n.ahead c.in_ok-name.ensures.taken);
      shallow = tt;
    }

pub returns-in_err-width : goal.returns-in_err-width
returns-in_err-width c =
    refused_reads _ c.from_residual-in_err-width.ensures.1
    (λ value rest m. let n = number_value value m (c.if-not-is_at_number.ensures.0 refl) in c.in_err-width.ensures.only (n.width, n.number) rest n.ahead) c.in_err-width.ensures.shallow

pub returns : goal.returns
returns c =
    record {
      taken = rw (seen_expr-num c.in_ok-width.width c.in_ok-width.value) c.in_ok-width.ensures.taken;
      only = λ value rest m.
          let n = number_value value m (c.if-not-is_at_number.ensures.0 refl) in
          let r = c.in_ok-width.ensures.only (n.width, n.number) rest n.ahead in
          (seen_expr-num _ _ ∙ ap (λ p. PlainExpr.Num p.0 p.1) r.0 ∙ sym n.is, r.1);
      shallow = tt;
    }
