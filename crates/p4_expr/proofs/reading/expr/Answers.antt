use Rattle.std.proofs.Common.{rules, ℕ, ◌≡◌, ◌-◌, ◌^◌, ◌≤◌, ap, arith, drop, length, min, subst, sym, ◌∙◌}
use Rattle.elastic_ast.specs.Seen.{seen_expr}
use Rattle.spelling.specs.Words.{words}
use Rattle.spelling.specs.Reading.{MayTake, Takes, ahead}
use Rattle.spelling.specs.Bounds.{IfTooDeepAt, PassedAt}
use Rattle.spelling.proofs.Limits.{or_same}
use Rattle.spelling.proofs.Places.{named_deep, passed_at, place_behind}
use Rattle.p4_expr.specs.Expressions.{SpellsExpr, most_operators}
use Rattle.p4_expr.specs.Operators.{weakest}
use Rattle.p4_expr.specs.Passing.{ExprPassed}
use Rattle.p4_expr.specs.Standing.{GoesNoFurther}
use Rattle.p4_expr.proofs.PassingLaws.{passed_front}
use Rattle.p4_expr.proofs.reading.expr.Goals as goal

pub returns-in-Ok : goal.returns-in-Ok
returns-in-Ok c =
    let read = c.in-Ok.ensures in
    let tokens = c.args.tokens.now in
    let words_from = λ (n : ℕ). words c.args.text.now (drop n tokens) in
    let t = subst (λ a. Takes (SpellsExpr c.args.most_depth (seen_expr c.in-Ok.e)) a (ahead c.read_expr.new.reader)) c.from-reader.ensures read.taken in
    let end = sym (ap (λ n. words_from (length tokens - n)) c.left.ensures ∙ place_behind c.args.text.now tokens c.args.at t.front (ahead c.read_expr.new.reader) t.joined) in
    record {
      taken = subst (Takes (SpellsExpr c.args.most_depth (seen_expr c.in-Ok.e)) (words_from c.args.at)) end t;
      few = read.few;
      within = search rules;
      only = λ more e rest m ends. let r = read.only more e rest (subst (λ a. MayTake (SpellsExpr more e) a rest) (sym c.from-reader.ensures) m) ends in (r.0, sym end ∙ r.1);
      longest = λ more e rest m. subst (λ ws. length ws ≤ length rest) end (read.longest more e rest (subst (λ a. MayTake (SpellsExpr more e) a rest) (sym c.from-reader.ensures) m));
      whole = subst (GoesNoFurther weakest) end read.whole;
      deep = tt;
      named = tt;
    }

pub returns-in-Err-clause-only : goal.returns-in-Err-clause-only
returns-in-Err-clause-only c = λ more e rest m ends.
    or_same _ _ _ c.within.ensures.same (c.in-Err.ensures.only more e rest (subst (λ a. MayTake (SpellsExpr more e) a rest) (sym c.from-reader.ensures) m) ends)

pub returns-in-Err-clause-deep : goal.returns-in-Err-clause-deep
returns-in-Err-clause-deep c =
    let after = ahead c.read_expr.new.reader in
    let passed = ExprPassed c.args.most_depth most_operators in
    let next : c.saturating_sub.result ≡ length c.args.tokens.now - length after = c.saturating_sub.ensures ∙ ap (λ n. length c.args.tokens.now - n) c.left-in-Err.ensures in
    let at = subst (λ n. IfTooDeepAt (λ token. token ≡ min n (2 ^ 32 - 1)) c.within.result) next (c.within.ensures.at (omega (arith, next))) in
    named_deep (PassedAt passed c.args.text.now c.args.tokens.now c.args.at) (min (length c.args.tokens.now - length after) (2 ^ 32 - 1)) c.in-Err.error c.within.result
    (λ s.
    let t = subst (λ a. passed a after) c.from-reader.ensures s in
    let f = passed_front t in
    passed_at passed c.args.text.now c.args.tokens.now c.args.at f.0 after f.1 t) c.within.ensures.same at c.in-Err.ensures.deep
