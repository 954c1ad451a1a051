use Rattle.elastic_ast.specs.Tree.{PlainStmt}
use Rattle.spelling.proofs.Only.{after, after_one, alone, named_same, same_end, wants, wants_one}
use Rattle.spelling.proofs.Balance.{stays_both, stays_named, stays_sign}
use Rattle.spelling.proofs.Bounds.{if_deep, in_both, in_named, in_sign, refused_deep}
use Rattle.std.proofs.Common.{ap, codes, inl, refl, subst, sym, ◌∙◌}
use Rattle.std.proofs.lemmas.List.Elements.{All-nil}
use Rattle.spelling.specs.Reading.{Takes, ahead}
use Rattle.p4_expr.specs.Expressions.{HasFewOperators}
use Rattle.spelling.proofs.Refusals.{refused_few_made}
use Rattle.elastic_ast.proofs.SeenLaws.{seen_stmt-apply}
use Rattle.p4_statements.specs.Reading.{HasFew, SpellsSimple}
use Rattle.spelling.proofs.Limits.{or_as, want_or}
use Rattle.spelling.proofs.Taking.{may, takes_both}
use Rattle.spelling.proofs.InLines.{line_deep}
use Rattle.p4_statements.proofs.calls.apply.Goals as goal

pub returns-in_err-no_arguments : goal.returns-in_err-no_arguments
returns-in_err-no_arguments c =
    let words = may (takes_both c.in_ok-table.ensures.taken (takes_both c.in_ok-sign.ensures.taken c.in_ok-fixed_name.ensures.taken)) in
    let stay = stays_both (stays_named c.in_ok-table.table) (stays_both (stays_sign (codes ".") refl refl) (stays_named (codes "apply"))) in
    refused_few_made _ c.from_residual-in_err-no_arguments.ensures.1
    (λ more table rest m. wants (after_one (after_one (after_one m c.in_ok-table.ensures.taken) c.in_ok-sign.ensures.taken) c.in_ok-fixed_name.ensures.taken) (λ b f s. or_as _ _ _ (λ few. few.0) (c.in_err-no_arguments.ensures.only more tt b f)))
    (if_deep _ (λ s. inl s) (line_deep _ _ stay (in_both (in_named c.in_ok-table.table) (in_both (in_sign (codes ".") refl refl refl) (in_named (codes "apply")))) words c.in_err-no_arguments.ensures.deep))

pub returns-in_err-sign-2 : goal.returns-in_err-sign-2
returns-in_err-sign-2 c =
    refused_few_made _ c.from_residual-in_err-sign-2.ensures.1
    (λ more table rest m.
    let m4 = after (after_one (after_one (after_one m c.in_ok-table.ensures.taken) c.in_ok-sign.ensures.taken) c.in_ok-fixed_name.ensures.taken) (λ b f s. c.in_ok-no_arguments.ensures.only more tt b f) in
    want_or _ _ (wants_one _ _ (alone m4.1) c.in_err-sign-2.ensures.refused))
    (refused_deep _ _ _ _ c.in_err-sign-2.ensures.refused)

pub returns : goal.returns
returns c =
    let shown = seen_stmt-apply c.in_ok-table.table in
    record {
      taken = subst (λ s. Takes (SpellsSimple c.args.depth s) (ahead c.args.reader.now) (ahead c.sign-2.new.self)) (sym shown)
          (takes_both c.in_ok-table.ensures.taken (takes_both c.in_ok-sign.ensures.taken (takes_both c.in_ok-fixed_name.ensures.taken (takes_both c.in_ok-no_arguments.ensures.taken c.in_ok-sign-2.ensures.taken))));
      few = subst HasFew (sym shown) (All-nil HasFewOperators);
      only = λ more table rest m.
          let m4 = after (after_one (after_one (after_one m c.in_ok-table.ensures.taken) c.in_ok-sign.ensures.taken) c.in_ok-fixed_name.ensures.taken) (λ b f s. c.in_ok-no_arguments.ensures.only more tt b f) in
          (shown ∙ ap PlainStmt.Apply (named_same m c.in_ok-table.ensures.taken), same_end m4.1 c.in_ok-sign-2.ensures.taken);
      deep = tt;
    }
