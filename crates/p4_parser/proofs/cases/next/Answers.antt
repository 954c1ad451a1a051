use Rattle.spelling.proofs.Taking.{takes_both}
use Rattle.spelling.proofs.Only.{after_one, alone, named_same, not_there, same_end, wants_name, wants_one}
use Rattle.elastic_ast.specs.Tree.{PlainNext}
use Rattle.spelling.proofs.Limits.{want_or}
use Rattle.std.proofs.Common.{ap, refl, sym, ◌∙◌}
use Rattle.p4_expr.specs.Expressions.{HasFewOperators}
use Rattle.spelling.proofs.Refusals.{refused_few}
use Rattle.p4_parser.proofs.StateSpelling.{select_read, to_there}
use Rattle.std.proofs.lemmas.List.Elements.{All-nil}
use Rattle.spelling.proofs.Bounds.{refused_deep}
use Rattle.p4_parser.proofs.cases.next.Goals as goal

pub returns-then-is_at_reserved : goal.returns-then-is_at_reserved
returns-then-is_at_reserved c =
    record {
      taken = c.select.ensures.taken;
      few = c.select.ensures.few;
      only = λ more next rest m. select_read more c.args.depth next _ c.select.result m (c.if-is_at_reserved.ensures.0 refl) (λ of cases f. c.select.ensures.only more (of, cases) rest f);
      deep = c.select.ensures.deep;
    }

pub returns-in_err-state : goal.returns-in_err-state
returns-in_err-state c =
    refused_few _ c.from_residual.ensures.1
    (λ more next rest m. want_or _ _ (wants_name _ _ (to_there more next m (not_there c.if-is_at_reserved.ensures.1)).ahead c.in_err-state.ensures.refused))
    (refused_deep _ _ _ _ c.in_err-state.ensures.refused)

pub returns-in_err-sign : goal.returns-in_err-sign
returns-in_err-sign c =
    refused_few _ c.from_residual-in_err-sign.ensures.1
    (λ more next rest m.
    let n = to_there more next m (not_there c.if-is_at_reserved.ensures.1) in
    want_or _ _ (wants_one _ _ (alone (after_one n.ahead c.in_ok-state.ensures.taken)) c.in_err-sign.ensures.refused))
    (refused_deep _ _ _ _ c.in_err-sign.ensures.refused)

pub returns : goal.returns
returns c =
    record {
      taken = takes_both c.in_ok-state.ensures.taken c.in_ok-sign.ensures.taken;
      few = All-nil HasFewOperators;
      only = λ more next rest m.
          let n = to_there more next m (not_there c.if-is_at_reserved.ensures.1) in
          (ap PlainNext.To (named_same n.ahead c.in_ok-state.ensures.taken) ∙ sym n.is, same_end (after_one n.ahead c.in_ok-state.ensures.taken) c.in_ok-sign.ensures.taken);
      deep = tt;
    }
