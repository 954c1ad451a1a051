use Rattle.spelling.proofs.Refusals.{refused_few_before}
use Rattle.std.proofs.Common.{◌≡◌, [], ◌∷◌, ◌++◌, ap, codes, map, refl, subst, ◌∙◌}
use Rattle.std.proofs.lemmas.List.{map-append}
use Rattle.std.proofs.lemmas.List.Elements.{All-cons, All-nil, All-push}
use Rattle.elastic_ast.specs.Seen.{seen_expr, seen_exprs}
use Rattle.spelling.specs.Grammar.{◌⨟◌, Begins, IsSign, Sign}
use Rattle.spelling.specs.Reading.{ahead}
use Rattle.spelling.proofs.Limits.{or_as}
use Rattle.spelling.proofs.Only.{after, after_one, begins_first, not_there, regroup, wants}
use Rattle.spelling.proofs.Taking.{first_one, later_more, may, takes_both}
use Rattle.spelling.proofs.Whole.{first_of, left_first, left_more, none_left, one_left}
use Rattle.p4_expr.specs.Expressions.{HasFewOperators, SpellsExpr}
use Rattle.p4_statements.proofs.Arguments.{args_follow, few_at, no_comma, take_commas, LaterExpr}
use Rattle.spelling.proofs.Bounds.{if_deep, in_commas, in_sign}
use Rattle.spelling.proofs.Balance.{stays_commas, stays_sign}
use Rattle.p4_expr.proofs.Bound.{expr_bound}
use Rattle.p4_expr.proofs.InLines.{expr_in_line}
use Rattle.p4_expr.proofs.ExprWithin.{expr_within}
use Rattle.p4_statements.proofs.Lines.{past}
use Rattle.p4_statements.proofs.calls.expressions.Goals as goal

pub exprs-init : goal.exprs-init
exprs-init c =
    rw (c.in_ok-keep.ensures.ok, c.new-exprs.ensures)
    record {
      taken = first_one (SpellsExpr c.args.depth) (λ e. Sign (codes ",") ⨟ SpellsExpr c.args.depth e) (seen_expr c.in_ok-first.first) c.in_ok-first.ensures.taken;
      few = All-cons HasFewOperators (seen_expr c.in_ok-first.first) [] c.in_ok-first.ensures.few (All-nil HasFewOperators);
      only = λ more all rest m ends.
          let n = first_of (SpellsExpr more) (λ e. Sign (codes ",") ⨟ SpellsExpr more e) all m in
          let r = after n.ahead (λ b f s. c.in_ok-first.ensures.only more n.one b f (args_follow more n.later s ends)) in
          left_first n refl r.0 r.1;
    }

pub exprs-preserved : goal.exprs-preserved
exprs-preserved c =
    let grown : map seen_expr c.keep-in-exprs.new.items ≡ map seen_expr c.exprs.exprs ++ seen_expr c.in_ok-next.next ∷ [] = ap (map seen_expr) c.in_ok-keep-2.ensures.ok ∙ map-append seen_expr c.exprs.exprs (c.in_ok-next.next ∷ []) in
    record {
      taken = rw grown (later_more (SpellsExpr c.args.depth) (λ e. Sign (codes ",") ⨟ SpellsExpr c.args.depth e) (map seen_expr c.exprs.exprs) (seen_expr c.in_ok-next.next) c.exprs.invariant.taken (may (takes_both (c.exprs-test.ensures.taken refl) c.in_ok-next.ensures.taken)));
      few = rw grown (All-push HasFewOperators (map seen_expr c.exprs.exprs) (seen_expr c.in_ok-next.next) c.exprs.invariant.few c.in_ok-next.ensures.few);
      only = λ more all rest m ends.
          let n = one_left (c.exprs.invariant.only more all rest m ends) (λ e. no_comma rest ends (subst (Begins (IsSign (codes ","))) e (c.exprs-test.ensures.at.0 refl))) in
          let r1 = after_one (regroup n.ahead) (c.exprs-test.ensures.taken refl) in
          let r2 = after r1 (λ b f s. c.in_ok-next.ensures.only more n.one b f (args_follow more n.later s ends)) in
          left_more n grown r2.0 r2.1;
    }

pub returns-in_err-first : goal.returns-in_err-first
returns-in_err-first c =
    refused_few_before _ c.from_residual.ensures.1
    (λ more all rest m ends.
    let n = first_of (SpellsExpr more) (LaterExpr more) all m in
    wants n.ahead (λ b f s. or_as _ _ _ (λ few. (few.0, few_at [] n.one n.later all n.whole few.1)) (c.in_err-first.ensures.only more n.one b f (args_follow more n.later s ends))))
    (if_deep _ (λ p. expr_bound p) c.in_err-first.ensures.deep)

pub returns-in_err-next : goal.returns-in_err-next
returns-in_err-next c =
    let depth = c.args.depth in
    let read = seen_exprs c.exprs.exprs in
    refused_few_before _ c.from_residual-in_err-next.ensures.1
    (λ more all rest m ends.
    let n = one_left (c.exprs.invariant.only more all rest m ends) (λ e. no_comma rest ends (subst (Begins (IsSign (codes ","))) e (c.exprs-test.ensures.at.0 refl))) in
    let r1 = after_one (regroup n.ahead) (c.exprs-test.ensures.taken refl) in
    wants r1 (λ b f s. or_as _ _ _ (λ few. (few.0, few_at _ n.one n.later all n.whole few.1)) (c.in_err-next.ensures.only more n.one b f (args_follow more n.later s ends))))
    (if_deep _ (λ p. past depth (take_commas depth read c.exprs.invariant.taken) (stays_commas (SpellsExpr depth) (λ e. expr_within) read) (in_commas (SpellsExpr depth) (λ e. expr_in_line depth e) read)
    (past depth (may (c.exprs-test.ensures.taken refl)) (stays_sign (codes ",") refl refl) (in_sign (codes ",") refl refl refl) (expr_bound p))) c.in_err-next.ensures.deep)

pub returns : goal.returns
returns c =
    record {
      taken = rw (c.exprs-test.ensures.left refl) c.exprs.invariant.taken;
      few = c.exprs.invariant.few;
      only = λ more all rest m ends.
          let done = none_left (c.exprs.invariant.only more all rest m ends) (λ e later f. not_there c.exprs-test.ensures.at.1 (begins_first (regroup f))) in
          (done.0, ap ahead (c.exprs-test.ensures.left refl) ∙ done.1);
      deep = tt;
    }
