-- The tree of a program as plain data, this project's own: what the grammar spells, without the places of its parts in
-- memory. A type with no expression or statement in it is used as declared.
use Rattle.std.specs.Prelude.{ℕ, Bool, List, Option}
use Rattle.elastic_ast.specs.declared.statements.Amount.{Amount}
use Rattle.elastic_ast.specs.declared.statements.Lval.{Lval}
use Rattle.elastic_ast.specs.declared.statements.RegRef.{RegRef}
use Rattle.elastic_ast.specs.declared.declarations.Field.{Field}
use Rattle.elastic_ast.specs.declared.declarations.Param.{Param}
use Rattle.elastic_ast.specs.declared.declarations.Key.{Key}
use Rattle.elastic_ast.specs.declared.declarations.Comp.{Comp}
use Rattle.elastic_ast.specs.declared.declarations.UtilTerm.{UtilTerm}

abbrev pub Name : Type 0
Name = List ℕ

pub data PlainExpr : Type 0 where
  Num : Option ℕ → ℕ → PlainExpr
  Truth : Bool → PlainExpr
  Named : Name → PlainExpr
  At : Lval → PlainExpr
  IsValid : Name → PlainExpr
  Unary : ℕ → PlainExpr → PlainExpr
  Binary : ℕ → PlainExpr → PlainExpr → PlainExpr
  Cast : ℕ → PlainExpr → PlainExpr
  Slice : PlainExpr → ℕ → ℕ → PlainExpr
  Hash : Amount → PlainExpr → Amount → PlainExpr

mutual
  pub data PlainStmt : Type 0 where
    Block : Option ℕ → PlainStmts → PlainStmt
    If : PlainExpr → PlainStmts → PlainStmt
    IfElse : PlainExpr → PlainStmts → PlainStmts → PlainStmt
    For : Name → Name → PlainStmts → PlainStmt
    Assign : Lval → PlainExpr → PlainStmt
    Read : Lval → RegRef → PlainExpr → PlainStmt
    Write : RegRef → PlainExpr → PlainExpr → PlainStmt
    Valid : Name → Bool → PlainStmt
    Call : Name → Option Name → List PlainExpr → PlainStmt
    Apply : Name → PlainStmt

  pub data PlainStmts : Type 0 where
    nil : PlainStmts
    cons : PlainStmt → PlainStmts → PlainStmts

pub data PlainKeyset : Type 0 where
  One : PlainExpr → PlainKeyset
  Masked : PlainExpr → PlainExpr → PlainKeyset
  Any : PlainKeyset

pub record PlainEntry : Type 0 where
  pub keys : List PlainKeyset
  pub action : Name
  pub args : List PlainExpr

pub record PlainAction : Type 0 where
  pub name : Name
  pub index : Option Name
  pub params : List Param
  pub body : PlainStmts

pub record PlainTable : Type 0 where
  pub name : Name
  pub keys : List Key
  pub actions : List Name
  pub entries : List PlainEntry
  pub fallback : Option (Name × List PlainExpr)
  pub size : Option ℕ

pub data PlainLocal : Type 0 where
  OfAction : PlainAction → PlainLocal
  OfTable : PlainTable → PlainLocal

pub data PlainNext : Type 0 where
  To : Name → PlainNext
  Select : PlainExpr → List (PlainKeyset × Name) → PlainNext

pub record PlainState : Type 0 where
  pub name : Name
  pub extracts : List Name
  pub next : PlainNext

pub data PlainDecl : Type 0 where
  Include : ℕ → PlainDecl
  Symbol : Name → PlainDecl
  Assume : List Comp → PlainDecl
  Maximize : List UtilTerm → PlainDecl
  Const : Name → ℕ → ℕ → PlainDecl
  Header : Name → List Field → PlainDecl
  Headers : List (Name × Name) → PlainDecl
  Meta : List Field → PlainDecl
  Register : Name → ℕ → Amount → Option Name → PlainDecl
  Parser : Name → List PlainState → PlainDecl
  Control : Name → List PlainLocal → PlainStmts → PlainDecl
  Deparser : Name → List Name → PlainDecl
  Main : Name → Name → Name → PlainDecl

-- a program: its declarations in the order of the text
abbrev pub PlainProgram : Type 0
PlainProgram = List PlainDecl
