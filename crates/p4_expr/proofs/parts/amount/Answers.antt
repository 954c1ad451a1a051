use Rattle.std.proofs.Common.{ap, arith, refl, sym, ◌∙◌, rules}
use Rattle.elastic_ast.specs.declared.statements.Amount.TheVariants as amount
use Rattle.spelling.proofs.Bounds.{refused_deep}
use Rattle.spelling.proofs.Only.{alone, not_there, same_end, same_name, same_number, wants_name, wants_number}
use Rattle.spelling.proofs.Refusals.{refused_reads}
use Rattle.p4_expr.proofs.PartSpelling.{amount_name, amount_number}
use Rattle.p4_expr.proofs.parts.amount.Goals as goal

pub returns-in_err-name : goal.returns-in_err-name
returns-in_err-name c =
    refused_reads _ c.from_residual.ensures.1
    (λ of rest m. let n = amount_name of m (not_there c.if-not-is_at_number.ensures.1) in wants_name _ _ (alone n.2) c.in_err-name.ensures.refused)
    (refused_deep _ _ _ _ c.in_err-name.ensures.refused)

pub returns-then-not-is_at_number : goal.returns-then-not-is_at_number
returns-then-not-is_at_number c =
    record {
      taken = search rules;
      only = λ of rest m.
          let n = amount_name of m (not_there c.if-not-is_at_number.ensures.1) in
          (ap amount.Named (same_name n.2 c.in_ok-name.ensures.taken) ∙ sym n.1, same_end n.2 c.in_ok-name.ensures.taken);
      shallow = tt;
    }

pub returns-in_err-value : goal.returns-in_err-value
returns-in_err-value c =
    refused_reads _ c.from_residual-in_err-value.ensures.1
    (λ of rest m. let n = amount_number of m (c.if-not-is_at_number.ensures.0 refl) in wants_number _ _ (omega (arith, n.2)) (alone n.3) c.in_err-value.ensures.refused)
    (refused_deep _ _ _ _ c.in_err-value.ensures.refused)

pub returns : goal.returns
returns c =
    record {
      taken = search rules;
      only = λ of rest m.
          let n = amount_number of m (c.if-not-is_at_number.ensures.0 refl) in
          (ap amount.Num (same_number n.3 c.in_ok-value.ensures.taken) ∙ sym n.1, same_end n.3 c.in_ok-value.ensures.taken);
      shallow = tt;
    }
