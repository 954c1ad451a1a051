-- What statements do to the memory (P4-16 language specification 1.2.3, its section on statements; loops over a size and
-- blocks with a stage are this project's own).
use Rattle.std.specs.Prelude.{ℕ, zero, suc, List, Option, Some, if◌then◌else◌}
use Rattle.elastic_ast.specs.Tree.{PlainDecl, PlainStmt, PlainStmts}
use Rattle.elastic_ast.specs.Sizes.SizeSums.{symbols_of, size_of}
use Rattle.elastic_ast.specs.Meaning.Memory.{Memory, over}
use Rattle.elastic_ast.specs.Meaning.Values.{holds}
use Rattle.elastic_ast.specs.Meaning.Written.{outside, leaf_writes}

-- `work 0`, `work 1` and so on up to `work (n - 1)`, one after the other
abbrev pub turns : {A : Type 0} → ℕ → (ℕ → A → A) → A → A
turns zero work start = start
turns (suc n) work start = work n (turns n work start)

-- the memory after a statement, at sizes, with the index of the loop around it. A block does what is in it, whatever its
-- stage; a condition is decided where it stands; any other statement changes what it writes.
abbrev mutual
  pub statement_meaning : PlainStmt → List PlainDecl → List ℕ → Option ℕ → Memory → Memory
  statement_meaning (PlainStmt.Block stage body) decls sizes index memory = statements_meaning body decls sizes index memory
  statement_meaning (PlainStmt.If condition body) decls sizes index memory =
      if holds (outside decls sizes index) memory condition then statements_meaning body decls sizes index memory else memory
  statement_meaning (PlainStmt.IfElse condition body other) decls sizes index memory =
      if holds (outside decls sizes index) memory condition then statements_meaning body decls sizes index memory else statements_meaning other decls sizes index memory
  statement_meaning (PlainStmt.For name size body) decls sizes index memory =
      turns (size_of (symbols_of decls) sizes size) (λ turn now. statements_meaning body decls sizes (Some turn) now) memory
  statement_meaning statement decls sizes index memory = over (leaf_writes statement decls sizes index memory) memory

  pub statements_meaning : PlainStmts → List PlainDecl → List ℕ → Option ℕ → Memory → Memory
  statements_meaning PlainStmts.nil decls sizes index memory = memory
  statements_meaning (PlainStmts.cons first rest) decls sizes index memory = statements_meaning rest decls sizes index (statement_meaning first decls sizes index memory)
