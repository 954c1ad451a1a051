use Rattle.elastic_ast.specs.Tree.{PlainStmt}
use Rattle.spelling.proofs.Only.{after, after_one, alone, begins_first, same_end, wants, wants_one}
use Rattle.p4_expr.specs.Expressions.{HasFewOperators}
use Rattle.spelling.proofs.Balance.{stays_both, stays_named, stays_sign}
use Rattle.p4_expr.proofs.PartsWithin.{register_stays}
use Rattle.p4_statements.specs.Reading.{HasFew}
use Rattle.spelling.proofs.Limits.{or_as, want_or}
use Rattle.std.proofs.Common.{[], ap, codes, inl, refl, subst, sym, ◌∙◌, ◌∷◌}
use Rattle.elastic_ast.proofs.SeenLaws.{seen_stmt-write}
use Rattle.spelling.proofs.Bounds.{if_deep, in_both, in_named, in_sign, refused_deep}
use Rattle.std.proofs.lemmas.List.Elements.{All-cons, All-head, All-nil, All-tail}
use Rattle.spelling.specs.Reading.{Takes, ahead}
use Rattle.elastic_ast.specs.Seen.{seen_expr}
use Rattle.p4_statements.proofs.Lines.{past}
use Rattle.p4_expr.proofs.PartSpelling.{ends_index}
use Rattle.p4_statements.specs.Statements.{SpellsPlain}
use Rattle.spelling.proofs.Refusals.{refused_few_made}
use Rattle.spelling.proofs.Taking.{may, takes_both}
use Rattle.p4_expr.proofs.InLines.{register_in_line}
use Rattle.p4_statements.proofs.plain.write.Goals as goal

pub returns-in_err-reg : goal.returns-in_err-reg
returns-in_err-reg c =
    refused_few_made _ c.from_residual.ensures.1 (λ more of rest m. wants m (λ b f s. or_as _ _ _ (λ few. few.0) (c.in_err-reg.ensures.only more of.0 b f (ends_index (codes ".") b refl (begins_first s)))))
    (if_deep _ (λ s. inl s) c.in_err-reg.ensures.deep)

pub returns-in_err-sign : goal.returns-in_err-sign
returns-in_err-sign c =
    refused_few_made _ c.from_residual-in_err-sign.ensures.1
    (λ more of rest m.
    let m1 = after m (λ b f s. c.in_ok-reg.ensures.only more of.0 b f (ends_index (codes ".") b refl (begins_first s))) in
    want_or _ _ (wants_one _ _ m1.1 c.in_err-sign.ensures.refused))
    (refused_deep _ _ _ _ c.in_err-sign.ensures.refused)

pub returns-in_err-fixed_name : goal.returns-in_err-fixed_name
returns-in_err-fixed_name c =
    refused_few_made _ c.from_residual-in_err-fixed_name.ensures.1
    (λ more of rest m.
    let m1 = after m (λ b f s. c.in_ok-reg.ensures.only more of.0 b f (ends_index (codes ".") b refl (begins_first s))) in
    want_or _ _ (wants_one _ _ (after_one m1.1 c.in_ok-sign.ensures.taken) c.in_err-fixed_name.ensures.refused))
    (refused_deep _ _ _ _ c.in_err-fixed_name.ensures.refused)

pub returns-in_err-cell : goal.returns-in_err-cell
returns-in_err-cell c =
    let words = may (takes_both c.in_ok-reg.ensures.taken (takes_both c.in_ok-sign.ensures.taken c.in_ok-fixed_name.ensures.taken)) in
    let stay = stays_both (register_stays c.args.depth c.in_ok-reg.reg) (stays_both (stays_sign (codes ".") refl refl) (stays_named (codes "write"))) in
    refused_few_made _ c.from_residual-in_err-cell.ensures.1
    (λ more of rest m.
    let m1 = after m (λ b f s. c.in_ok-reg.ensures.only more of.0 b f (ends_index (codes ".") b refl (begins_first s))) in
    let m3 = after_one (after_one m1.1 c.in_ok-sign.ensures.taken) c.in_ok-fixed_name.ensures.taken in
    wants m3 (λ b f s. or_as _ _ _ (λ few. (few.0, (All-head HasFewOperators of.1 (of.2 ∷ []) few.1, All-head HasFewOperators of.2 [] (All-tail HasFewOperators of.1 (of.2 ∷ []) few.1)))) (c.in_err-cell.ensures.only more (of.1, of.2) b f)))
    (if_deep _ (λ p. past c.args.depth words stay (in_both (register_in_line c.args.depth c.in_ok-reg.reg) (in_both (in_sign (codes ".") refl refl refl) (in_named (codes "write")))) p) c.in_err-cell.ensures.deep)

pub returns-in_err-sign-2 : goal.returns-in_err-sign-2
returns-in_err-sign-2 c =
    refused_few_made _ c.from_residual-in_err-sign-2.ensures.1
    (λ more of rest m.
    let m1 = after m (λ b f s. c.in_ok-reg.ensures.only more of.0 b f (ends_index (codes ".") b refl (begins_first s))) in
    let m4 = after (after_one (after_one m1.1 c.in_ok-sign.ensures.taken) c.in_ok-fixed_name.ensures.taken) (λ b f s. c.in_ok-cell.ensures.only more (of.1, of.2) b f) in
    want_or _ _ (wants_one _ _ (alone m4.1) c.in_err-sign-2.ensures.refused))
    (refused_deep _ _ _ _ c.in_err-sign-2.ensures.refused)

pub returns : goal.returns
returns c =
    let one = seen_expr c.in_ok-cell.cell in
    let other = seen_expr c.in_ok-cell.value in
    let shown = seen_stmt-write c.in_ok-reg.reg c.in_ok-cell.cell c.in_ok-cell.value in
    record {
      taken = subst (λ s. Takes (SpellsPlain c.args.depth s) (ahead c.args.reader.now) (ahead c.sign-2.new.self)) (sym shown)
          (takes_both c.in_ok-reg.ensures.taken (takes_both c.in_ok-sign.ensures.taken (takes_both c.in_ok-fixed_name.ensures.taken (takes_both c.in_ok-cell.ensures.taken c.in_ok-sign-2.ensures.taken))));
      few = subst HasFew (sym shown) (All-cons HasFewOperators one (other ∷ []) c.in_ok-cell.ensures.few.0 (All-cons HasFewOperators other [] c.in_ok-cell.ensures.few.1 (All-nil HasFewOperators)));
      only = λ more of rest m.
          let m1 = after m (λ b f s. c.in_ok-reg.ensures.only more of.0 b f (ends_index (codes ".") b refl (begins_first s))) in
          let m4 = after (after_one (after_one m1.1 c.in_ok-sign.ensures.taken) c.in_ok-fixed_name.ensures.taken) (λ b f s. c.in_ok-cell.ensures.only more (of.1, of.2) b f) in
          (shown ∙ ap (λ r. PlainStmt.Write r one other) m1.0 ∙ ap (λ both. PlainStmt.Write of.0 both.0 both.1) m4.0, same_end m4.1 c.in_ok-sign-2.ensures.taken);
      deep = tt;
    }
