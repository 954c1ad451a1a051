use Rattle.std.proofs.Common.{ap, inl, refl, subst, sym, ◌∙◌}
use Rattle.p4_expr.specs.Expressions.{HasFewOperators}
use Rattle.p4_parser.specs.Reading.{LocalHasFew}
use Rattle.p4_parser.proofs.ControlSpelling.{action_there, table_there}
use Rattle.spelling.proofs.Refusals.{refused_few}
use Rattle.elastic_ast.specs.Tree.{PlainLocal}
use Rattle.spelling.proofs.Limits.{or_as}
use Rattle.spelling.proofs.Only.{not_there}
use Rattle.std.proofs.lemmas.List.Elements.{All-nil}
use Rattle.spelling.proofs.Bounds.{if_deep}
use Rattle.p4_parser.proofs.controls.local.Goals as goal

pub returns-in_err-action : goal.returns-in_err-action
returns-in_err-action c =
    refused_few _ c.from_residual.ensures.1
    (λ more local rest m.
    let a = action_there more local m (c.if-is_at_reserved.ensures.0 refl) in
    or_as _ _ _ (λ few. (few.0, subst LocalHasFew a.is few.1)) (c.in_err-action.ensures.only more a.action rest a.ahead))
    c.in_err-action.ensures.deep

pub returns-then-is_at_reserved : goal.returns-then-is_at_reserved
returns-then-is_at_reserved c =
    record {
      taken = c.in_ok-action.ensures.taken;
      few = c.in_ok-action.ensures.few;
      only = λ more local rest m.
          let a = action_there more local m (c.if-is_at_reserved.ensures.0 refl) in
          let r = c.in_ok-action.ensures.only more a.action rest a.ahead in
          (ap PlainLocal.OfAction r.0 ∙ sym a.is, r.1);
      deep = tt;
    }

pub returns-in_err-table : goal.returns-in_err-table
returns-in_err-table c =
    refused_few _ c.from_residual-in_err-table.ensures.1
    (λ more local rest m. let t = table_there more local m (not_there c.if-is_at_reserved.ensures.1) in or_as _ _ _ (λ few. few.0) (c.in_err-table.ensures.only more t.table rest t.ahead))
    (if_deep _ (λ s. inl s) c.in_err-table.ensures.deep)

pub returns : goal.returns
returns c =
    record {
      taken = c.in_ok-table.ensures.taken;
      few = All-nil HasFewOperators;
      only = λ more local rest m.
          let t = table_there more local m (not_there c.if-is_at_reserved.ensures.1) in
          let r = c.in_ok-table.ensures.only more t.table rest t.ahead in
          (ap PlainLocal.OfTable r.0 ∙ sym t.is, r.1);
      deep = tt;
    }
