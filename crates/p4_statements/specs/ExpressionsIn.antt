-- The expressions of a statement, those that stand in an expression left out; this project's own.
use Rattle.std.specs.Prelude.{List, [], ◌∷◌, ◌++◌}
use Rattle.elastic_ast.specs.Tree.{PlainExpr, PlainStmt, PlainStmts}

abbrev mutual
  pub expressions_of : PlainStmt → List PlainExpr
  expressions_of (PlainStmt.Block stage body) = expressions_of_all body
  expressions_of (PlainStmt.If condition body) = condition ∷ expressions_of_all body
  expressions_of (PlainStmt.IfElse condition body other) = condition ∷ expressions_of_all body ++ expressions_of_all other
  expressions_of (PlainStmt.For index size body) = expressions_of_all body
  expressions_of (PlainStmt.Assign to value) = value ∷ []
  expressions_of (PlainStmt.Read to register cell) = cell ∷ []
  expressions_of (PlainStmt.Write register cell value) = cell ∷ value ∷ []
  expressions_of (PlainStmt.Valid header on) = []
  expressions_of (PlainStmt.Call action index args) = args
  expressions_of (PlainStmt.Apply table) = []

  pub expressions_of_all : PlainStmts → List PlainExpr
  expressions_of_all PlainStmts.nil = []
  expressions_of_all (PlainStmts.cons first rest) = expressions_of first ++ expressions_of_all rest
