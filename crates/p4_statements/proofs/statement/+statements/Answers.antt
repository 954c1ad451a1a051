use Rattle.spelling.proofs.AllOf.{all_front}
use Rattle.std.proofs.lemmas.Result.{IfOk-weaker}
use Rattle.std.proofs.Common.{◌≡◌, ◌-◌, suc, true, false, [], ◌∷◌, ◌++◌, ap, arith, codes, inl, inr, map, refl, rules, sym, subst, ◌∙◌}
use Rattle.std.proofs.lemmas.Bool.{false≢true}
use Rattle.std.proofs.lemmas.List.{map-append}
use Rattle.std.proofs.lemmas.List.Elements.{All-append, All-cons}
use Rattle.elastic_ast.specs.Seen.{joined, seen_expr, seen_stmt, seen_stmts}
use Rattle.elastic_ast.proofs.SeenLaws.{seen_stmt-block, seen_stmt-for, seen_stmt-if, seen_stmt-if_else}
use Rattle.elastic_ast.specs.Tree.{PlainStmt, PlainStmts}
use Rattle.spelling.specs.Grammar.{Begins, IsReserved, IsSign}
use Rattle.spelling.specs.Reading.{ahead, Takes}
use Rattle.spelling.proofs.Limits.{inside, opens_or, or_as}
use Rattle.spelling.proofs.Only.{after, after_one, begins, begins_first, not_there, same_end, split, wants}
use Rattle.spelling.proofs.Taking.{each_more, may, may_takes, takes_as, takes_both, takes_bracketed}
use Rattle.spelling.proofs.Whole.{left_more, none_left, one_left}
use Rattle.p4_expr.specs.Expressions.{HasFewOperators}
use Rattle.p4_statements.specs.ExpressionsIn.{expressions_of, expressions_of_all}
use Rattle.p4_statements.specs.Statements.{SpellsBranch, SpellsStmt, SpellsStmts}
use Rattle.p4_statements.specs.Reading.{HasFew, HaveFew}
use Rattle.p4_statements.proofs.Forms.{alone_there, block_of, braces_begin, braces_there, branch_of, closed_end, else_of, for_of, if_of, is_block, is_for, is_if, is_simple, no_bare, one_less, one_of, simple_of, stmt_no_closing}
use Rattle.p4_statements.proofs.Lists.{SpellsAny, any_end, else_few, few_next, few_push, if_few, joined_listed, list_stmts, listed, no_else_follows, of_any, take_stmts}
use Rattle.spelling.proofs.Bounds.{deep_as, forbidden, if_deep}
use Rattle.p4_statements.proofs.Begun.{after_condition, after_else, after_stage, after_turns, block_here, condition_open, in_alone, in_block, in_braced, in_stmt, in_stmts}
use Rattle.spelling.proofs.Refusals.{refused_few}
use Rattle.p4_statements.proofs.ToEnd.{closed_taken, of_closed, of_if, refused_stmts, refused_to_end}
use Rattle.p4_statements.proofs.statement.+statements.Goals as goal

pub block-returns-in_err-stage : goal.block-returns-in_err-stage
block-returns-in_err-stage t c =
    refused_to_end _ c.from_residual.ensures.1
    (λ more open_end stmt rest m at.
    let p = is_block more open_end stmt m at in
    wants p.parts (λ b f s. or_as _ _ _ (λ few. few.0) (c.in_err-stage.ensures.only more p.stage b f (braces_begin more p.body s))))
    (if_deep c.in_err-stage.field-0.0 (λ s. in_stmt (inl s)) c.in_err-stage.ensures.deep)

pub block-returns-in_err-body : goal.block-returns-in_err-body
block-returns-in_err-body t c =
    refused_to_end _ c.from_residual-in_err-body.ensures.1
    (λ more open_end stmt rest m at.
    let p = is_block more open_end stmt m at in
    let m2 = after p.parts (λ b f s. c.in_ok-stage.ensures.only more p.stage b f (braces_begin more p.body s)) in
    or_as _ _ _ (λ few. (few.0, subst HasFew p.is few.1)) (c.in_err-body.ensures.only more p.body rest m2.1))
    (if_deep c.in_err-body.field-0.0 (λ p. after_stage c.in_ok-stage.stage c.in_ok-stage.ensures.taken p) c.in_err-body.ensures.deep)

pub block-returns : goal.block-returns
block-returns t c =
    let shown = seen_stmt-block c.in_ok-stage.stage c.in_ok-body.body in
    record {
      taken =
          subst (λ s. Takes (SpellsStmt c.args.depth false s) (ahead c.args.reader.now) (ahead c.in_braces.new.reader)) (sym shown)
          (takes_as (block_of c.args.depth c.in_ok-stage.stage (seen_stmts c.in_ok-body.body)) (may_takes c.in_ok-stage.ensures.taken c.in_ok-body.ensures.taken));
      few = subst HasFew (sym shown) c.in_ok-body.ensures.few;
      only = λ more open_end stmt rest m at.
          let p = is_block more open_end stmt m at in
          let m2 = after p.parts (λ b f s. c.in_ok-stage.ensures.only more p.stage b f (braces_begin more p.body s)) in
          let r = c.in_ok-body.ensures.only more p.body rest m2.1 in
          (shown ∙ ap (λ g. PlainStmt.Block g (seen_stmts c.in_ok-body.body)) m2.0 ∙ ap (PlainStmt.Block p.stage) r.0 ∙ sym p.is, r.1);
      deep = tt;
    }

pub repeated-returns-in_err-index : goal.repeated-returns-in_err-index
repeated-returns-in_err-index t c =
    refused_to_end _ c.from_residual.ensures.1
    (λ more open_end stmt rest m at.
    let p = is_for more open_end stmt m at in
    wants p.parts (λ b f s. or_as _ _ _ (λ few. few.0) (c.in_err-index.ensures.only more (p.index, p.size) b f)))
    (if_deep c.in_err-index.field-0.0 (λ s. in_stmt (inl s)) c.in_err-index.ensures.deep)

pub repeated-returns-in_err-body : goal.repeated-returns-in_err-body
repeated-returns-in_err-body t c =
    refused_to_end _ c.from_residual-in_err-body.ensures.1
    (λ more open_end stmt rest m at.
    let p = is_for more open_end stmt m at in
    let m2 = after p.parts (λ b f s. c.in_ok-index.ensures.only more (p.index, p.size) b f) in
    or_as _ _ _ (λ few. (few.0, subst HasFew p.is few.1)) (c.in_err-body.ensures.only more p.body rest m2.1))
    (if_deep c.in_err-body.field-0.0 (λ p. after_turns c.in_ok-index.index c.in_ok-index.size c.in_ok-index.ensures.taken p) c.in_err-body.ensures.deep)

pub repeated-returns : goal.repeated-returns
repeated-returns t c =
    let shown = seen_stmt-for c.in_ok-index.index c.in_ok-index.size c.in_ok-body.body in
    record {
      taken =
          subst (λ s. Takes (SpellsStmt c.args.depth false s) (ahead c.args.reader.now) (ahead c.in_braces.new.reader)) (sym shown)
          (takes_as (for_of c.args.depth c.in_ok-index.index c.in_ok-index.size (seen_stmts c.in_ok-body.body)) (takes_both c.in_ok-index.ensures.taken c.in_ok-body.ensures.taken));
      few = subst HasFew (sym shown) c.in_ok-body.ensures.few;
      only = λ more open_end stmt rest m at.
          let p = is_for more open_end stmt m at in
          let m2 = after p.parts (λ b f s. c.in_ok-index.ensures.only more (p.index, p.size) b f) in
          let r = c.in_ok-body.ensures.only more p.body rest m2.1 in
          (shown ∙ ap (λ i. PlainStmt.For i.0 i.1 (seen_stmts c.in_ok-body.body)) m2.0 ∙ ap (PlainStmt.For p.index p.size) r.0 ∙ sym p.is, r.1);
      deep = tt;
    }

pub conditional-returns-in_err-cond : goal.conditional-returns-in_err-cond
conditional-returns-in_err-cond t c =
    refused_to_end _ c.from_residual.ensures.1
    (λ more open_end stmt rest m at.
    elim (is_if more open_end stmt m at.0) [
      | inl p ↦ wants p.parts (λ b f s. or_as _ _ _ (λ few. (few.0, (if_few stmt p.condition p.body p.is few.1).0)) (c.in_err-cond.ensures.only more p.condition b f))
      | inr p ↦ wants p.parts (λ b f s. or_as _ _ _ (λ few. (few.0, (else_few stmt p.condition p.body p.other p.is few.1).0)) (c.in_err-cond.ensures.only more p.condition b f))
    ])
    (if_deep c.in_err-cond.field-0.0 (λ p. in_stmt p) c.in_err-cond.ensures.deep)

pub conditional-returns-in_err-yes : goal.conditional-returns-in_err-yes
conditional-returns-in_err-yes t c =
    refused_to_end _ c.from_residual-in_err-yes.ensures.1
    (λ more open_end stmt rest m at.
    elim (is_if more open_end stmt m at.0) [
      | inl p ↦ let m1 = after p.parts (λ b f s. c.in_ok-cond.ensures.only more p.condition b f) in or_as _ _ _ (λ few. (few.0, (if_few stmt p.condition p.body p.is few.1).1)) (c.in_err-yes.ensures.only more p.branch_end p.body rest m1.1 (λ _ at_else. at.1 p.opened at_else))
      | inr p ↦ let m1 = after p.parts (λ b f s. c.in_ok-cond.ensures.only more p.condition b f) in wants m1.1 (λ b f s. or_as _ _ _ (λ few. (few.0, (else_few stmt p.condition p.body p.other p.is few.1).1)) (c.in_err-yes.ensures.only more false p.body b f (λ e _. absurd (false≢true e))))
    ])
    (if_deep c.in_err-yes.field-0.0 (λ p. after_condition (seen_expr c.in_ok-cond.cond) c.in_ok-cond.ensures.taken (p (condition_open (seen_expr c.in_ok-cond.cond) c.in_ok-cond.ensures.taken))) c.in_err-yes.ensures.deep)

pub conditional-returns-then-not-is_at_reserved : goal.conditional-returns-then-not-is_at_reserved
conditional-returns-then-not-is_at_reserved t c =
    let shown = seen_stmt-if c.in_ok-cond.cond c.in_ok-yes.yes in
    record {
      taken = record {
        open_end = true;
        taken =
            subst (λ s. Takes (SpellsStmt c.args.depth true s) (ahead c.args.reader.now) (ahead c.branch-alloc.new.reader)) (sym shown)
            (takes_as (if_of c.args.depth c.in_ok-yes.ensures.taken.open_end (seen_expr c.in_ok-cond.cond) (seen_stmts c.in_ok-yes.yes)) (takes_both c.in_ok-cond.ensures.taken c.in_ok-yes.ensures.taken.taken));
        ends = λ _ at_else. not_there c.if-not-is_at_reserved.ensures.1 at_else;
      };
      few = subst HasFew (sym shown) (All-cons HasFewOperators (seen_expr c.in_ok-cond.cond) (expressions_of_all (seen_stmts c.in_ok-yes.yes)) c.in_ok-cond.ensures.few c.in_ok-yes.ensures.few);
      only = λ more open_end stmt rest m at.
          elim (is_if more open_end stmt m at.0) [
            | inl p ↦ let m1 = after p.parts (λ b f s. c.in_ok-cond.ensures.only more p.condition b f) in let r = c.in_ok-yes.ensures.only more p.branch_end p.body rest m1.1 (λ _ at_else. at.1 p.opened at_else) in (shown ∙ ap (λ e. PlainStmt.If e (seen_stmts c.in_ok-yes.yes)) m1.0 ∙ ap (PlainStmt.If p.condition) r.0 ∙ sym p.is, r.1)
            | inr p ↦ let m1 = after p.parts (λ b f s. c.in_ok-cond.ensures.only more p.condition b f) in let m2 = after m1.1 (λ b f s. c.in_ok-yes.ensures.only more false p.body b f (λ e _. absurd (false≢true e))) in absurd (not_there c.if-not-is_at_reserved.ensures.1 (begins_first m2.1))
          ];
      deep = tt;
    }

pub conditional-returns-in_err-no : goal.conditional-returns-in_err-no
conditional-returns-in_err-no t c =
    let yes = c.in_ok-yes.ensures.taken in
    let closed = closed_end yes.open_end _ yes.ends (c.if-not-is_at_reserved.ensures.0 refl) in
    let first = subst (λ o. Takes (SpellsBranch c.args.depth o (seen_stmts c.in_ok-yes.yes)) (ahead c.condition.new.reader) (ahead c.branch-alloc.new.reader)) closed yes.taken in
    refused_to_end _ c.from_residual-in_err-no.ensures.1
    (λ more open_end stmt rest m at.
    elim (is_if more open_end stmt m at.0) [
      | inl p ↦ let m1 = after p.parts (λ b f s. c.in_ok-cond.ensures.only more p.condition b f) in let r = c.in_ok-yes.ensures.only more p.branch_end p.body rest m1.1 (λ _ at_else. at.1 p.opened at_else) in absurd (at.1 p.opened (subst (Begins (IsReserved (codes "else"))) r.1 (c.if-not-is_at_reserved.ensures.0 refl)))
      | inr p ↦ let m1 = after p.parts (λ b f s. c.in_ok-cond.ensures.only more p.condition b f) in let m2 = after m1.1 (λ b f s. c.in_ok-yes.ensures.only more false p.body b f (λ e _. absurd (false≢true e))) in or_as _ _ _ (λ few. (few.0, (else_few stmt p.condition p.body p.other p.is few.1).2)) (c.in_err-no.ensures.only more open_end p.other rest (after_one m2.1 c.in_ok-reserved.ensures.taken) at.1)
    ])
    (if_deep c.in_err-no.field-0.0 (λ p. after_else (seen_expr c.in_ok-cond.cond) (seen_stmts c.in_ok-yes.yes) c.in_ok-cond.ensures.taken first c.in_ok-reserved.ensures.taken (p (condition_open (seen_expr c.in_ok-cond.cond) c.in_ok-cond.ensures.taken))) c.in_err-no.ensures.deep)

pub conditional-returns : goal.conditional-returns
conditional-returns t c =
    let yes = c.in_ok-yes.ensures.taken in
    let no = c.in_ok-no.ensures.taken in
    let closed = closed_end yes.open_end _ yes.ends (c.if-not-is_at_reserved.ensures.0 refl) in
    let first = subst (λ o. Takes (SpellsBranch c.args.depth o (seen_stmts c.in_ok-yes.yes)) (ahead c.condition.new.reader) (ahead c.branch-alloc.new.reader)) closed yes.taken in
    let body = expressions_of_all (seen_stmts c.in_ok-yes.yes) in
    let other = expressions_of_all (seen_stmts c.in_ok-no.no) in
    let shown = seen_stmt-if_else c.in_ok-cond.cond c.in_ok-yes.yes c.in_ok-no.no in
    record {
      taken = record {
        open_end = no.open_end;
        taken =
            subst (λ s. Takes (SpellsStmt c.args.depth no.open_end s) (ahead c.args.reader.now) (ahead c.branch-alloc-2.new.reader)) (sym shown)
            (takes_as (else_of c.args.depth no.open_end (seen_expr c.in_ok-cond.cond) (seen_stmts c.in_ok-yes.yes) (seen_stmts c.in_ok-no.no)) (takes_both c.in_ok-cond.ensures.taken (takes_both first (takes_both c.in_ok-reserved.ensures.taken no.taken))));
        ends = no.ends;
      };
      few = subst HasFew (sym shown) (All-cons HasFewOperators (seen_expr c.in_ok-cond.cond) (body ++ other) c.in_ok-cond.ensures.few (All-append HasFewOperators body other c.in_ok-yes.ensures.few c.in_ok-no.ensures.few));
      only = λ more open_end stmt rest m at.
          elim (is_if more open_end stmt m at.0) [
            | inl p ↦ let m1 = after p.parts (λ b f s. c.in_ok-cond.ensures.only more p.condition b f) in let r = c.in_ok-yes.ensures.only more p.branch_end p.body rest m1.1 (λ _ at_else. at.1 p.opened at_else) in absurd (at.1 p.opened (subst (Begins (IsReserved (codes "else"))) r.1 (c.if-not-is_at_reserved.ensures.0 refl)))
            | inr p ↦ let m1 = after p.parts (λ b f s. c.in_ok-cond.ensures.only more p.condition b f) in let m2 = after m1.1 (λ b f s. c.in_ok-yes.ensures.only more false p.body b f (λ e _. absurd (false≢true e))) in let r = c.in_ok-no.ensures.only more open_end p.other rest (after_one m2.1 c.in_ok-reserved.ensures.taken) at.1 in (shown ∙ ap (λ e. PlainStmt.IfElse e (seen_stmts c.in_ok-yes.yes) (seen_stmts c.in_ok-no.no)) m1.0 ∙ ap (λ b. PlainStmt.IfElse p.condition b (seen_stmts c.in_ok-no.no)) m2.0 ∙ ap (PlainStmt.IfElse p.condition p.body) r.0 ∙ sym p.is, r.1)
          ];
      deep = tt;
    }

pub in_braces-returns-in_err-inner : goal.in_braces-returns-in_err-inner
in_braces-returns-in_err-inner t c =
    refused_few _ c.from_residual.ensures.1
    (λ more stmts rest m. opens_or (codes "{") (codes "}") more c.args.depth (λ n. SpellsStmts n stmts) _ _ _ (λ few. few.0) m c.in_err-inner.ensures.refused)
    (if_deep c.in_err-inner.field-0.0 (λ h. block_here (ap ahead c.in_err-inner.ensures.left) h) (forbidden (codes "{") refl c.args.depth _ _ _ c.in_err-inner.ensures.refused))

pub in_braces-returns-in_err-stmts : goal.in_braces-returns-in_err-stmts
in_braces-returns-in_err-stmts t c =
    refused_few _ c.from_residual-in_err-stmts.ensures.1
    (λ more stmts rest m.
    let i = inside (codes "{") (codes "}") more c.args.depth c.in_ok-inner.inner (λ n. SpellsStmts n stmts) c.in_ok-inner.ensures.depth m in
    wants (after_one i.parts c.in_ok-inner.ensures.taken) (λ b f s. or_as _ _ _ (λ few. (i.fewer few.0, few.1)) (c.in_err-stmts.ensures.only i.within stmts b f (begins s))))
    (if_deep c.in_err-stmts.field-0.0 (λ p. in_block c.in_ok-inner.ensures.depth c.in_ok-inner.ensures.taken p) c.in_err-stmts.ensures.deep)

pub in_braces-returns : goal.in_braces-returns
in_braces-returns t c =
    record {
      taken = takes_bracketed _ _ c.args.depth c.in_ok-inner.inner (λ n. SpellsStmts n (seen_stmts c.in_ok-stmts.stmts)) c.in_ok-inner.ensures.depth c.in_ok-inner.ensures.taken c.in_ok-stmts.ensures.taken c.in_ok-sign.ensures.taken;
      few = c.in_ok-stmts.ensures.few;
      only = λ more stmts rest m.
          let i = inside (codes "{") (codes "}") more c.args.depth c.in_ok-inner.inner (λ n. SpellsStmts n stmts) c.in_ok-inner.ensures.depth m in
          let m2 = after (after_one i.parts c.in_ok-inner.ensures.taken) (λ b f s. c.in_ok-stmts.ensures.only i.within stmts b f (begins s)) in
          (m2.0, same_end m2.1 c.in_ok-sign.ensures.taken);
      deep = tt;
    }

pub branch-returns-then-is_at_sign : goal.branch-returns-then-is_at_sign
branch-returns-then-is_at_sign t c =
    record {
      taken = closed_taken (λ stmts open_end. SpellsBranch c.args.depth open_end (seen_stmts stmts)) c.in_braces.result _ _ (IfOk-weaker c.in_braces.result _ _ (λ s t. takes_as (branch_of c.args.depth (seen_stmts s)) t) c.in_braces.ensures.taken);
      few = c.in_braces.ensures.few;
      only = λ more open_end stmts rest m ends. c.in_braces.ensures.only more stmts rest (braces_there more open_end stmts m (c.if-is_at_sign.ensures.0 refl));
      deep = deep_as c.in_braces.result (λ p some. in_braced p) c.in_braces.ensures.deep;
    }

pub branch-returns-in_err-stmt : goal.branch-returns-in_err-stmt
branch-returns-in_err-stmt t c =
    refused_to_end _ c.from_residual.ensures.1
    (λ more open_end stmts rest m ends.
    let p = alone_there more open_end stmts m (not_there c.if-is_at_sign.ensures.1) in
    or_as _ _ _ (λ few. (omega (arith, few.0, p.deeper), all_front HasFewOperators (expressions_of p.stmt) [] (subst HaveFew p.is few.1))) (c.in_err-stmt.ensures.only p.inner open_end p.stmt rest p.parts ends))
    (if_deep c.in_err-stmt.field-0.0 (λ p some. in_alone c.if-depth-eq0.false (not_there c.if-is_at_sign.ensures.1) p) c.in_err-stmt.ensures.deep)

pub branch-returns : goal.branch-returns
branch-returns t c =
    let t = c.in_ok-stmt.ensures.taken in
    let d = c.args.depth - 1 in
    let s = seen_stmt c.in_ok-stmt.stmt in
    let grown : c.keep.new.items ≡ c.in_ok-stmt.stmt ∷ [] = c.in_ok-keep.ensures.ok ∙ ap (λ ss. ss ++ c.in_ok-stmt.stmt ∷ []) c.new-stmts.ensures in
    let deeper : c.args.depth ≡ suc d = one_less c.args.depth c.if-depth-eq0.false in
    let other = no_bare d t.open_end s (may t.taken) (not_there c.if-is_at_sign.ensures.1) in
    let taken = subst (λ n. Takes (SpellsBranch n t.open_end (PlainStmts.cons s PlainStmts.nil)) (ahead c.args.reader.now) (ahead c.statement.new.reader)) (sym deeper) (takes_as (one_of d t.open_end s other) t.taken) in
    record {
      taken = record {
        open_end = t.open_end;
        taken = subst (λ ss. Takes (SpellsBranch c.args.depth t.open_end (seen_stmts ss)) (ahead c.args.reader.now) (ahead c.statement.new.reader)) (sym grown) taken;
        ends = t.ends;
      };
      few = search rules;
      only = λ more open_end stmts rest m ends.
          let p = alone_there more open_end stmts m (not_there c.if-is_at_sign.ensures.1) in
          let r = c.in_ok-stmt.ensures.only p.inner open_end p.stmt rest p.parts ends in
          (ap seen_stmts grown ∙ ap (λ s. PlainStmts.cons s PlainStmts.nil) r.0 ∙ sym p.is, r.1);
      deep = tt;
    }

pub statement-returns-then-is_at_block : goal.statement-returns-then-is_at_block
statement-returns-then-is_at_block t c = of_closed c.block.ensures (c.if-is_at_block.ensures.0 refl)

pub statement-returns-then-is_at_reserved : goal.statement-returns-then-is_at_reserved
statement-returns-then-is_at_reserved t c = of_if c.conditional.ensures (c.if-is_at_reserved.ensures.0 refl)

pub statement-returns-then-is_at_reserved-2 : goal.statement-returns-then-is_at_reserved-2
statement-returns-then-is_at_reserved-2 t c = of_closed c.repeated.ensures (c.if-is_at_reserved-2.ensures.0 refl)

pub statement-returns : goal.statement-returns
statement-returns t c =
    let r = c.simple_statement.ensures in
    record {
      taken = closed_taken (λ s open_end. SpellsStmt c.args.depth open_end (seen_stmt s)) c.simple_statement.result _ _ (IfOk-weaker c.simple_statement.result _ _ (λ s t. takes_as (simple_of c.args.depth (seen_stmt s)) t) r.taken);
      few = r.few;
      only = λ more open_end stmt rest m ends.
          r.only more stmt rest (is_simple more open_end stmt m (λ at. not_there c.if-is_at_block.ensures.1 (inl at)) (λ at. not_there c.if-is_at_block.ensures.1 (inr at)) (not_there c.if-is_at_reserved.ensures.1) (not_there c.if-is_at_reserved-2.ensures.1));
      deep = deep_as c.simple_statement.result (λ p. in_stmt p) r.deep;
    }

pub statements-stmts-preserved : goal.statements-stmts-preserved
statements-stmts-preserved t c =
    let grown : map seen_stmt c.keep.new.items ≡ map seen_stmt c.stmts.stmts ++ seen_stmt c.in_ok-stmt.stmt ∷ [] = ap (map seen_stmt) c.in_ok-keep.ensures.ok ∙ map-append seen_stmt c.stmts.stmts (c.in_ok-stmt.stmt ∷ []) in
    record {
      taken = rw grown (each_more (SpellsAny c.args.depth) (map seen_stmt c.stmts.stmts) (seen_stmt c.in_ok-stmt.stmt) c.stmts.invariant.taken (any_end c.in_ok-stmt.ensures.taken));
      few = subst (λ ss. HaveFew (joined ss)) (sym grown) (few_push (map seen_stmt c.stmts.stmts) (seen_stmt c.in_ok-stmt.stmt) c.stmts.invariant.few c.in_ok-stmt.ensures.few);
      only = λ more all rest m ends.
          let n = one_left (c.stmts.invariant.only more all rest m ends) (λ e. not_there c.stmts-test.ensures.1 (subst (Begins (IsSign (codes "}"))) (sym e) ends)) in
          let r = after n.ahead (λ b f s. c.in_ok-stmt.ensures.only more f.spelled.0 n.one b (of_any f) (λ _ at_else. no_else_follows more n.later s ends at_else)) in
          left_more n grown r.0 r.1;
    }

pub statements-returns-in_err-stmt : goal.statements-returns-in_err-stmt
statements-returns-in_err-stmt t c =
    refused_stmts _ c.from_residual.ensures.1
    (λ more stmts rest m ends.
    let n = one_left (c.stmts.invariant.only more (listed stmts) rest (list_stmts more stmts m) ends) (λ e. not_there c.stmts-test.ensures.1 (subst (Begins (IsSign (codes "}"))) (sym e) ends)) in
    wants n.ahead (λ b f s. or_as _ _ _ (λ few. (few.0, few_next _ n.one n.later (listed stmts) n.whole (subst HaveFew (sym (joined_listed stmts)) few.1))) (c.in_err-stmt.ensures.only more f.spelled.0 n.one b (of_any f) (λ _ at_else. no_else_follows more n.later s ends at_else))))
    (if_deep c.in_err-stmt.field-0.0 (λ p. in_stmts (take_stmts c.args.depth (map seen_stmt c.stmts.stmts) c.stmts.invariant.taken) p) c.in_err-stmt.ensures.deep)

pub statements-returns : goal.statements-returns
statements-returns t c =
    record {
      taken = take_stmts c.args.depth (map seen_stmt c.stmts.stmts) c.stmts.invariant.taken;
      few = c.stmts.invariant.few;
      ended = c.stmts-test.ensures.0 refl;
      only = λ more stmts rest m ends.
          let r = none_left (c.stmts.invariant.only more (listed stmts) rest (list_stmts more stmts m) ends) (λ stmt later f. let s = split f in stmt_no_closing more s.first.spelled.0 stmt (of_any s.first) (c.stmts-test.ensures.0 refl)) in
          (ap joined r.0 ∙ joined_listed stmts, r.1);
      deep = tt;
    }
