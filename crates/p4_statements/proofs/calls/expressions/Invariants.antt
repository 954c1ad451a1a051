use Rattle.std.proofs.Common.{ℕ, List, All, codes, length}
use Rattle.elastic_ast.specs.Seen.{seen_exprs}
use Rattle.elastic_ast.specs.Tree.{PlainExpr}
use Rattle.spelling.specs.Words.{Word}
use Rattle.spelling.specs.Grammar.{◌⨟◌, Begins, IsSign, Separated, Sign}
use Rattle.spelling.specs.Reading.{ahead, MayTake, Takes}
use Rattle.spelling.proofs.Whole.{Left}
use Rattle.p4_expr.specs.Expressions.{HasFewOperators, SpellsExpr}
use Rattle.p4_statements.proofs.calls.expressions.Given as goal

abbrev pub invariant-exprs : goal.invariant-exprs
invariant-exprs l = record {
  taken : Takes (Separated (Sign (codes ",")) (SpellsExpr l.depth) (seen_exprs l.exprs)) (ahead l.fn.reader) (ahead l.reader);
  few : All HasFewOperators (seen_exprs l.exprs);
  only : (more : ℕ) (all : List PlainExpr) (rest : List Word) → MayTake (Separated (Sign (codes ",")) (SpellsExpr more) all) (ahead l.fn.reader) rest → Begins (IsSign (codes ")")) rest → Left (λ e. Sign (codes ",") ⨟ SpellsExpr more e) (seen_exprs l.exprs) all (ahead l.reader) rest;
}

abbrev pub decreases-exprs : goal.decreases-exprs
decreases-exprs l = length (ahead l.reader)
