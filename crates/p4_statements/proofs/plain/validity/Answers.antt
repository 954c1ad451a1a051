use Rattle.elastic_ast.specs.Tree.{PlainStmt}
use Rattle.p4_expr.proofs.InLines.{header_in_line}
use Rattle.spelling.proofs.Only.{after, after_one, alone, same_end, wants, wants_one}
use Rattle.spelling.proofs.Balance.{stays_both, stays_sign}
use Rattle.spelling.proofs.Bounds.{if_deep, in_both, in_sign, never_deep, refused_deep}
use Rattle.std.proofs.Common.{ap, codes, inl, refl, subst, sym, ◌∙◌}
use Rattle.p4_expr.proofs.PartsWithin.{header_stays}
use Rattle.std.proofs.lemmas.List.Elements.{All-nil}
use Rattle.spelling.proofs.Taking.{may, takes_both}
use Rattle.spelling.specs.Reading.{Takes, ahead}
use Rattle.p4_expr.specs.Expressions.{HasFewOperators}
use Rattle.spelling.proofs.Refusals.{refused_few_made}
use Rattle.elastic_ast.proofs.SeenLaws.{seen_stmt-valid}
use Rattle.p4_statements.specs.Statements.{SpellsPlain}
use Rattle.p4_statements.specs.Reading.{HasFew}
use Rattle.spelling.proofs.Limits.{or_as, want_or}
use Rattle.p4_statements.proofs.StatementsWithin.{validity_stays}
use Rattle.spelling.proofs.InLines.{line_deep}
use Rattle.p4_statements.proofs.Validity.{validity_in_line}
use Rattle.p4_statements.proofs.plain.validity.Goals as goal

pub returns-in_err-header : goal.returns-in_err-header
returns-in_err-header c =
    refused_few_made _ c.from_residual.ensures.1 (λ more of rest m. want_or _ _ (wants m (λ b f s. c.in_err-header.ensures.only of.0 b f))) (never_deep _ _ c.in_err-header.ensures.shallow)

pub returns-in_err-sign : goal.returns-in_err-sign
returns-in_err-sign c =
    refused_few_made _ c.from_residual-in_err-sign.ensures.1
    (λ more of rest m. want_or _ _ (wants_one _ _ (after m (λ b f s. c.in_ok-header.ensures.only of.0 b f)).1 c.in_err-sign.ensures.refused))
    (refused_deep _ _ _ _ c.in_err-sign.ensures.refused)

pub returns-in_err-on : goal.returns-in_err-on
returns-in_err-on c =
    refused_few_made _ c.from_residual-in_err-on.ensures.1
    (λ more of rest m. want_or _ _ (wants (after_one (after m (λ b f s. c.in_ok-header.ensures.only of.0 b f)).1 c.in_ok-sign.ensures.taken) (λ b f s. c.in_err-on.ensures.only of.1 b f)))
    (never_deep _ _ c.in_err-on.ensures.shallow)

pub returns-in_err-no_arguments : goal.returns-in_err-no_arguments
returns-in_err-no_arguments c =
    let words = may (takes_both c.in_ok-header.ensures.taken (takes_both c.in_ok-sign.ensures.taken c.in_ok-on.ensures.taken)) in
    let stay = stays_both (header_stays c.in_ok-header.header) (stays_both (stays_sign (codes ".") refl refl) (validity_stays c.in_ok-on.on)) in
    refused_few_made _ c.from_residual-in_err-no_arguments.ensures.1
    (λ more of rest m.
    let m3 = after (after_one (after m (λ b f s. c.in_ok-header.ensures.only of.0 b f)).1 c.in_ok-sign.ensures.taken) (λ b f s. c.in_ok-on.ensures.only of.1 b f) in
    wants m3.1 (λ b f s. or_as _ _ _ (λ few. few.0) (c.in_err-no_arguments.ensures.only more tt b f)))
    (if_deep _ (λ s. inl s) (line_deep _ _ stay (in_both (header_in_line c.in_ok-header.header) (in_both (in_sign (codes ".") refl refl refl) (validity_in_line c.in_ok-on.on))) words c.in_err-no_arguments.ensures.deep))

pub returns-in_err-sign-2 : goal.returns-in_err-sign-2
returns-in_err-sign-2 c =
    refused_few_made _ c.from_residual-in_err-sign-2.ensures.1
    (λ more of rest m.
    let m3 = after (after_one (after m (λ b f s. c.in_ok-header.ensures.only of.0 b f)).1 c.in_ok-sign.ensures.taken) (λ b f s. c.in_ok-on.ensures.only of.1 b f) in
    let m4 = after m3.1 (λ b f s. c.in_ok-no_arguments.ensures.only more tt b f) in
    want_or _ _ (wants_one _ _ (alone m4.1) c.in_err-sign-2.ensures.refused))
    (refused_deep _ _ _ _ c.in_err-sign-2.ensures.refused)

pub returns : goal.returns
returns c =
    let shown = seen_stmt-valid c.in_ok-header.header c.in_ok-on.on in
    record {
      taken = subst (λ s. Takes (SpellsPlain c.args.depth s) (ahead c.args.reader.now) (ahead c.sign-2.new.self)) (sym shown)
          (takes_both c.in_ok-header.ensures.taken (takes_both c.in_ok-sign.ensures.taken (takes_both c.in_ok-on.ensures.taken (takes_both c.in_ok-no_arguments.ensures.taken c.in_ok-sign-2.ensures.taken))));
      few = subst HasFew (sym shown) (All-nil HasFewOperators);
      only = λ more of rest m.
          let m1 = after m (λ b f s. c.in_ok-header.ensures.only of.0 b f) in
          let m3 = after (after_one m1.1 c.in_ok-sign.ensures.taken) (λ b f s. c.in_ok-on.ensures.only of.1 b f) in
          let m4 = after m3.1 (λ b f s. c.in_ok-no_arguments.ensures.only more tt b f) in
          (shown ∙ ap (λ h. PlainStmt.Valid h c.in_ok-on.on) m1.0 ∙ ap (PlainStmt.Valid of.0) m3.0, same_end m4.1 c.in_ok-sign-2.ensures.taken);
      deep = tt;
    }
