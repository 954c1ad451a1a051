use Rattle.std.proofs.Common.{ℕ, ◌+◌, ◌*◌, List, codes, length, map}
use Rattle.elastic_ast.specs.Seen.{seen_stmt, seen_stmts}
use Rattle.elastic_ast.specs.Tree.{PlainStmt}
use Rattle.spelling.specs.Words.{Word}
use Rattle.spelling.specs.Grammar.{Begins, Each, IsSign}
use Rattle.spelling.specs.Reading.{ahead, MayTake}
use Rattle.spelling.proofs.Whole.{Left}
use Rattle.p4_statements.specs.Reading.{HaveFew}
use Rattle.p4_statements.proofs.Lists.{SpellsAny}
use Rattle.p4_statements.proofs.statement.+statements.Given as goal

abbrev pub decreases-statements : goal.decreases-statements
decreases-statements l = 8 * l.depth + 7

abbrev pub decreases-statement : goal.decreases-statement
decreases-statement l = 8 * l.depth + 6

abbrev pub decreases-block : goal.decreases-block
decreases-block l = 8 * l.depth + 5

abbrev pub decreases-conditional : goal.decreases-conditional
decreases-conditional l = 8 * l.depth + 5

abbrev pub decreases-repeated : goal.decreases-repeated
decreases-repeated l = 8 * l.depth + 5

abbrev pub decreases-branch : goal.decreases-branch
decreases-branch l = 8 * l.depth + 4

abbrev pub decreases-in_braces : goal.decreases-in_braces
decreases-in_braces l = 8 * l.depth + 3

abbrev pub invariant-statements-stmts : goal.invariant-statements-stmts
invariant-statements-stmts l = record {
  taken : MayTake (Each (SpellsAny l.depth) (map seen_stmt l.stmts)) (ahead l.fn.reader) (ahead l.reader);
  few : HaveFew (seen_stmts l.stmts);
  only : (more : ℕ) (all : List PlainStmt) (rest : List Word) → MayTake (Each (SpellsAny more) all) (ahead l.fn.reader) rest → Begins (IsSign (codes "}")) rest → Left (SpellsAny more) (map seen_stmt l.stmts) all (ahead l.reader) rest;
}

abbrev pub decreases-statements-stmts : goal.decreases-statements-stmts
decreases-statements-stmts l = length (ahead l.reader)
