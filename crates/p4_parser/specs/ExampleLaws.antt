-- What the grammar of whole programs spells and what it doesn't, by examples; this project's own.
use Rattle.std.specs.Prelude.{ℕ, ◌≤◌, Bool, true, List, [], ◌∷◌, Some, None, codes}
use Rattle.elastic_ast.specs.declared.statements.Amount.TheVariants as Amount
use Rattle.elastic_ast.specs.Tree.{PlainExpr, PlainStmt, PlainStmts, PlainDecl}
use Rattle.spelling.specs.Words.{Word}
use Rattle.p4_statements.specs.Statements.{SpellsStmt, SpellsStmts}
use Rattle.p4_parser.specs.Declarations.{SpellsProgram}
use Rattle.p4_parser.specs.Examples.{inner_else, branch_of_a_stage, touching_closings, only, bare_call, conditions, bracketed_conditions}

-- an `else` behind two `if` belongs to the inner one
abbrev pub InnerElse : Type 0
InnerElse = SpellsStmt 3 true (PlainStmt.If (PlainExpr.Named (codes "a")) (only (PlainStmt.IfElse (PlainExpr.Named (codes "b")) (only (bare_call (codes "x"))) (only (bare_call (codes "y")))))) inner_else

-- a block of a stage is one statement of a branch
abbrev pub StageInBranch : Type 0
StageInBranch = SpellsStmt 3 true (PlainStmt.If (PlainExpr.Named (codes "a")) (only (PlainStmt.Block (Some 0) (only (bare_call (codes "x")))))) branch_of_a_stage

-- two signs `>` that touch close two types
abbrev pub TouchingClosings : Type 0
TouchingClosings = SpellsProgram 1 (PlainDecl.Register (codes "r") 32 (Amount.Num 4) None ∷ []) touching_closings

-- no `if` is spelled where no bracket may be open
abbrev pub NoIfAtNone : Type 0
NoIfAtNone = (open_end : Bool) (condition : PlainExpr) (then_stmts : PlainStmts) (ws : List Word) → SpellsStmt 0 open_end (PlainStmt.If condition then_stmts) ws → ⊥

-- nor one with `else`
abbrev pub NoIfElseAtNone : Type 0
NoIfElseAtNone = (open_end : Bool) (condition : PlainExpr) (then_stmts else_stmts : PlainStmts) (ws : List Word) → SpellsStmt 0 open_end (PlainStmt.IfElse condition then_stmts else_stmts) ws → ⊥

-- no words spell so many conditions at a smaller depth
abbrev pub ConditionsNeedDepth : Type 0
ConditionsNeedDepth = (n depth : ℕ) (ws : List Word) → SpellsStmts depth (only (conditions n)) ws → n ≤ depth

-- and those with brackets spell nothing at one
abbrev pub BracketsNeedDepth : Type 0
BracketsNeedDepth = (n depth : ℕ) (stmts : PlainStmts) → SpellsStmts depth stmts (bracketed_conditions n) → n ≤ depth
