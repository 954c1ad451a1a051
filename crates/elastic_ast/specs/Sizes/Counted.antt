-- Which symbols count something, the cells of a register or what a hash may give; this project's own. No hash stands in a
-- set, nor in an argument of an entry or of a default action.
use Rattle.std.specs.Prelude.{List, [], ◌∷◌, ◌++◌, flat_map}
use Rattle.elastic_ast.specs.declared.statements.Amount.{Amount}
use Rattle.elastic_ast.specs.declared.statements.Amount.TheVariants as amount
use Rattle.elastic_ast.specs.Tree.{Name, PlainExpr, PlainStmt, PlainStmts, PlainLocal, PlainNext, PlainState, PlainDecl}

abbrev pub counted_in_amount : Amount → List Name
counted_in_amount (amount.Num number) = []
counted_in_amount (amount.Named symbol) = symbol ∷ []

abbrev pub counted_in_expr : PlainExpr → List Name
counted_in_expr (PlainExpr.Num width value) = []
counted_in_expr (PlainExpr.Truth truth) = []
counted_in_expr (PlainExpr.Named name) = []
counted_in_expr (PlainExpr.At place) = []
counted_in_expr (PlainExpr.IsValid header) = []
counted_in_expr (PlainExpr.Unary op of) = counted_in_expr of
counted_in_expr (PlainExpr.Binary op left right) = counted_in_expr left ++ counted_in_expr right
counted_in_expr (PlainExpr.Cast width of) = counted_in_expr of
counted_in_expr (PlainExpr.Slice of high low) = counted_in_expr of
counted_in_expr (PlainExpr.Hash k of modulus) = counted_in_expr of ++ counted_in_amount modulus

abbrev mutual
  pub counted_in_stmt : PlainStmt → List Name
  counted_in_stmt (PlainStmt.Block stage body) = counted_in_stmts body
  counted_in_stmt (PlainStmt.If condition body) = counted_in_expr condition ++ counted_in_stmts body
  counted_in_stmt (PlainStmt.IfElse condition body other) = counted_in_expr condition ++ (counted_in_stmts body ++ counted_in_stmts other)
  counted_in_stmt (PlainStmt.For index size body) = counted_in_stmts body
  counted_in_stmt (PlainStmt.Assign to value) = counted_in_expr value
  counted_in_stmt (PlainStmt.Read to register cell) = counted_in_expr cell
  counted_in_stmt (PlainStmt.Write register cell value) = counted_in_expr cell ++ counted_in_expr value
  counted_in_stmt (PlainStmt.Valid header on) = []
  counted_in_stmt (PlainStmt.Call action index args) = flat_map counted_in_expr args
  counted_in_stmt (PlainStmt.Apply table) = []

  pub counted_in_stmts : PlainStmts → List Name
  counted_in_stmts PlainStmts.nil = []
  counted_in_stmts (PlainStmts.cons first rest) = counted_in_stmt first ++ counted_in_stmts rest

abbrev pub counted_in_local : PlainLocal → List Name
counted_in_local (PlainLocal.OfAction action) = counted_in_stmts action.body
counted_in_local (PlainLocal.OfTable table) = []

abbrev pub counted_in_next : PlainNext → List Name
counted_in_next (PlainNext.To state) = []
counted_in_next (PlainNext.Select of cases) = counted_in_expr of

abbrev pub counted_in_state : PlainState → List Name
counted_in_state state = counted_in_next state.next

abbrev pub counted_in_decl : PlainDecl → List Name
counted_in_decl (PlainDecl.Register name width cells size) = counted_in_amount cells
counted_in_decl (PlainDecl.Parser name states) = flat_map counted_in_state states
counted_in_decl (PlainDecl.Control name locals body) = flat_map counted_in_local locals ++ counted_in_stmts body
counted_in_decl _ = []

-- the symbols that are a number of cells or a modulus, in the order of the text, each as often as it stands there
abbrev pub counted_symbols : List PlainDecl → List Name
counted_symbols = flat_map counted_in_decl
