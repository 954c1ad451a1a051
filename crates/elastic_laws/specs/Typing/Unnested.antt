-- Statements in which no loop stands in a loop; this project's own.
use Rattle.std.specs.Prelude.{◌≡◌, Bool, true, false}
use Rattle.elastic_ast.specs.Tree.{PlainStmt, PlainStmts}

-- where the statements stand in a loop, there is no loop in them
abbrev mutual
  pub UnnestedStmt : PlainStmt → Bool → Type 0
  UnnestedStmt (PlainStmt.Block stage body) in_loop = Unnested body in_loop
  UnnestedStmt (PlainStmt.If condition body) in_loop = Unnested body in_loop
  UnnestedStmt (PlainStmt.IfElse condition body other) in_loop = Unnested body in_loop × Unnested other in_loop
  UnnestedStmt (PlainStmt.For index size body) in_loop = (in_loop ≡ false) × Unnested body true
  UnnestedStmt (PlainStmt.Assign to value) in_loop = Unit {0}
  UnnestedStmt (PlainStmt.Read to register cell) in_loop = Unit {0}
  UnnestedStmt (PlainStmt.Write register cell value) in_loop = Unit {0}
  UnnestedStmt (PlainStmt.Valid header on) in_loop = Unit {0}
  UnnestedStmt (PlainStmt.Call action index args) in_loop = Unit {0}
  UnnestedStmt (PlainStmt.Apply table) in_loop = Unit {0}

  pub Unnested : PlainStmts → Bool → Type 0
  Unnested PlainStmts.nil in_loop = Unit {0}
  Unnested (PlainStmts.cons first rest) in_loop = UnnestedStmt first in_loop × Unnested rest in_loop
