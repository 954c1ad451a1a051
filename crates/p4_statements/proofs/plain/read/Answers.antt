use Rattle.p4_statements.proofs.FewReading.{refused_read}
use Rattle.std.proofs.Common.{ap, codes, refl, ◌∙◌, inl}
use Rattle.elastic_ast.specs.Seen.{seen_expr}
use Rattle.elastic_ast.proofs.SeenLaws.{seen_stmt-read}
use Rattle.elastic_ast.specs.Tree.{PlainStmt}
use Rattle.spelling.proofs.Only.{after, after_one, alone, begins_first, same_end, wants, wants_one}
use Rattle.spelling.proofs.Taking.{takes_both, may}
use Rattle.spelling.proofs.Limits.{or_as, want_or}
use Rattle.p4_expr.proofs.PartSpelling.{ends_index}
use Rattle.spelling.proofs.Bounds.{if_deep, in_both, in_named, in_sign, refused_deep}
use Rattle.spelling.proofs.Balance.{stays_both, stays_named, stays_sign}
use Rattle.p4_expr.proofs.PartsWithin.{register_stays}
use Rattle.p4_expr.proofs.InLines.{register_in_line}
use Rattle.p4_statements.proofs.Lines.{past}
use Rattle.p4_statements.proofs.plain.read.Goals as goal

pub returns : goal.returns
returns c =
    record {
      taken = record {
        register = c.in_ok-reg.reg;
        cell = seen_expr c.in_ok-cell.cell;
        is = seen_stmt-read c.args.to c.in_ok-reg.reg c.in_ok-cell.cell;
        few = c.in_ok-cell.ensures.few;
        taken = takes_both c.in_ok-reg.ensures.taken (takes_both c.in_ok-sign.ensures.taken (takes_both c.in_ok-fixed_name.ensures.taken (takes_both c.in_ok-cell.ensures.taken c.in_ok-sign-2.ensures.taken)));
      };
      only = λ more reg cell rest m.
          let m1 = after m (λ b f s. c.in_ok-reg.ensures.only more reg b f (ends_index (codes ".") b refl (begins_first s))) in
          let m2 = after_one m1.1 c.in_ok-sign.ensures.taken in
          let m3 = after_one m2 c.in_ok-fixed_name.ensures.taken in
          let m4 = after m3 (λ b f s. c.in_ok-cell.ensures.only more cell b f) in
          (seen_stmt-read c.args.to c.in_ok-reg.reg c.in_ok-cell.cell ∙ ap (λ r. PlainStmt.Read c.args.to r (seen_expr c.in_ok-cell.cell)) m1.0 ∙ ap (PlainStmt.Read c.args.to reg) m4.0, same_end m4.1 c.in_ok-sign-2.ensures.taken);
      deep = tt;
    }

pub returns-in_err-reg : goal.returns-in_err-reg
returns-in_err-reg c =
    refused_read _ c.from_residual.ensures.1 (λ more reg cell rest m. (wants m (λ b f s. or_as _ _ _ (λ few. few.0) (c.in_err-reg.ensures.only more reg b f (ends_index (codes ".") b refl (begins_first s))))))
    ((if_deep _ (λ s. inl s) c.in_err-reg.ensures.deep))

pub returns-in_err-sign : goal.returns-in_err-sign
returns-in_err-sign c =
    refused_read _ c.from_residual-in_err-sign.ensures.1 (λ more reg cell rest m. let m1 = after m (λ b f s. c.in_ok-reg.ensures.only more reg b f (ends_index (codes ".") b refl (begins_first s))) in
    (want_or _ _ (wants_one _ _ m1.1 c.in_err-sign.ensures.refused)))
    ((refused_deep _ _ _ _ c.in_err-sign.ensures.refused))

pub returns-in_err-fixed_name : goal.returns-in_err-fixed_name
returns-in_err-fixed_name c =
    refused_read _ c.from_residual-in_err-fixed_name.ensures.1 (λ more reg cell rest m. let m1 = after m (λ b f s. c.in_ok-reg.ensures.only more reg b f (ends_index (codes ".") b refl (begins_first s))) in
    let m2 = after_one m1.1 c.in_ok-sign.ensures.taken in
    (want_or _ _ (wants_one _ _ m2 c.in_err-fixed_name.ensures.refused)))
    ((refused_deep _ _ _ _ c.in_err-fixed_name.ensures.refused))

pub returns-in_err-cell : goal.returns-in_err-cell
returns-in_err-cell c =
    refused_read _ c.from_residual-in_err-cell.ensures.1 (λ more reg cell rest m. let m1 = after m (λ b f s. c.in_ok-reg.ensures.only more reg b f (ends_index (codes ".") b refl (begins_first s))) in
    let m2 = after_one m1.1 c.in_ok-sign.ensures.taken in
    let m3 = after_one m2 c.in_ok-fixed_name.ensures.taken in
    (wants m3 (λ b f s. c.in_err-cell.ensures.only more cell b f)))
    ((if_deep _ (λ p. past c.args.depth (may (takes_both c.in_ok-reg.ensures.taken (takes_both c.in_ok-sign.ensures.taken c.in_ok-fixed_name.ensures.taken))) (stays_both (register_stays c.args.depth c.in_ok-reg.reg) (stays_both (stays_sign (codes ".") refl refl) (stays_named (codes "read")))) (in_both (register_in_line c.args.depth c.in_ok-reg.reg) (in_both (in_sign (codes ".") refl refl refl) (in_named (codes "read")))) p) c.in_err-cell.ensures.deep))

pub returns-in_err-sign-2 : goal.returns-in_err-sign-2
returns-in_err-sign-2 c =
    refused_read _ c.from_residual-in_err-sign-2.ensures.1 (λ more reg cell rest m. let m1 = after m (λ b f s. c.in_ok-reg.ensures.only more reg b f (ends_index (codes ".") b refl (begins_first s))) in
    let m2 = after_one m1.1 c.in_ok-sign.ensures.taken in
    let m3 = after_one m2 c.in_ok-fixed_name.ensures.taken in
    let m4 = after m3 (λ b f s. c.in_ok-cell.ensures.only more cell b f) in
    (want_or _ _ (wants_one _ _ (alone m4.1) c.in_err-sign-2.ensures.refused)))
    ((refused_deep _ _ _ _ c.in_err-sign-2.ensures.refused))
