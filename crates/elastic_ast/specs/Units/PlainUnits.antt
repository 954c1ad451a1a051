-- Units of work as plain data, this project's own: what the flat forms hold, without the places of their parts in memory.
use Rattle.std.specs.Prelude.{ℕ, List, Option}
use Rattle.elastic_ast.specs.declared.flat.Lit.{Lit}
use Rattle.elastic_ast.specs.declared.flat.Location.{Location}
use Rattle.elastic_ast.specs.declared.flat.Cells.{Cells}
use Rattle.elastic_ast.specs.declared.flat.Terms.{Terms}
use Rattle.elastic_ast.specs.Tree.{Name, PlainExpr, PlainStmt}

-- a plain statement, a call of an action, the application of a table, or a condition that is kept in the predicate of a number
pub data PlainWork : Type 0 where
  Plain : PlainStmt → PlainWork
  Call : PlainStmt → PlainWork
  Apply : Name → PlainWork
  Pred : ℕ → PlainExpr → PlainWork

pub record PlainUnit : Type 0 where
  pub lits : List Lit
  pub conds : List PlainExpr
  pub work : PlainWork
  pub loop_no : Option ℕ
  pub size : Option ℕ
  pub index : Option Name
  pub stage : Option ℕ
  pub reads : List Location
  pub writes : List Location
  pub cells : Option Cells
  pub cell_width : ℕ
  pub cost : ℕ
  pub ops : ℕ
  pub table_bits : ℕ
  pub ternary_bits : ℕ

pub record PlainUnits : Type 0 where
  pub terms : Terms
  pub list : List PlainUnit
  pub fixed_bits : ℕ
  pub symbol_bits : List ℕ
