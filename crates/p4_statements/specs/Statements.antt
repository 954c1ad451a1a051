-- Which words spell a statement, in the manner of the grammar of the P4-16 language specification 1.2.3; blocks of a stage
-- and loops over a symbol's size are this project's own.
use Rattle.std.specs.Prelude.{◌≡◌, ℕ, suc, ◌<◌, ◌^◌, Bool, true, false, List, [], ◌++◌, Option, None, Some, codes}
use Rattle.elastic_ast.specs.Tree.{Name, PlainExpr, PlainStmt, PlainStmts}
use Rattle.spelling.specs.Words.{Word}
use Rattle.spelling.specs.Grammar.{Grammar, Empty, Nothing, ◌⨟◌, Where, Commas, Sign, Reserved, Named, Num, Bracketed}
use Rattle.spelling.specs.Readers.{InRound}
use Rattle.p4_expr.specs.Parts.{SpellsHeader, SpellsIndex, SpellsLval, SpellsNoArguments, SpellsRegister}
use Rattle.p4_expr.specs.Expressions.{SpellsExpr}

-- 'setValid' | 'setInvalid'
abbrev pub SpellsValidity : Bool → Grammar
SpellsValidity true = Named (codes "setValid")
SpellsValidity false = Named (codes "setInvalid")

-- plain := lval '=' expr ';'
--   | lval '=' reg '.' 'read' '(' expr ')' ';'
--   | reg '.' 'write' '(' expr ',' expr ')' ';'
--   | 'hdr' '.' N '.' ('setValid' | 'setInvalid') '(' ')' ';'
-- and no other statement is plain
abbrev pub SpellsPlain : ℕ → PlainStmt → Grammar
SpellsPlain depth (PlainStmt.Assign to value) = SpellsLval depth to ⨟ Sign (codes "=") ⨟ SpellsExpr depth value ⨟ Sign (codes ";")
SpellsPlain depth (PlainStmt.Read to register cell) = SpellsLval depth to ⨟ Sign (codes "=") ⨟ SpellsRegister depth register ⨟ Sign (codes ".") ⨟ Named (codes "read") ⨟ Bracketed (codes "(") (codes ")") depth (λ inner. SpellsExpr inner cell) ⨟ Sign (codes ";")
SpellsPlain depth (PlainStmt.Write register cell value) = SpellsRegister depth register ⨟ Sign (codes ".") ⨟ Named (codes "write") ⨟ Bracketed (codes "(") (codes ")") depth (λ inner. SpellsExpr inner cell ⨟ Sign (codes ",") ⨟ SpellsExpr inner value) ⨟ Sign (codes ";")
SpellsPlain depth (PlainStmt.Valid header on) = SpellsHeader header ⨟ Sign (codes ".") ⨟ SpellsValidity on ⨟ SpellsNoArguments depth ⨟ Sign (codes ";")
SpellsPlain depth _ = Nothing

-- plain*
abbrev pub SpellsPlains : ℕ → PlainStmts → Grammar
SpellsPlains depth PlainStmts.nil = Empty
SpellsPlains depth (PlainStmts.cons stmt stmts) = SpellsPlain depth stmt ⨟ SpellsPlains depth stmts

-- ['@' 'stage' '(' K ')']
abbrev pub SpellsStage : ℕ → Option ℕ → Grammar
SpellsStage depth None = Empty
SpellsStage depth (Some stage) = Where (stage < 2 ^ 8) (Sign (codes "@") ⨟ Named (codes "stage") ⨟ Bracketed (codes "(") (codes ")") depth (λ _. Num stage))

-- 'if' '(' expr ')'
abbrev pub SpellsCondition : ℕ → PlainExpr → Grammar
SpellsCondition depth condition = Reserved (codes "if") ⨟ Bracketed (codes "(") (codes ")") depth (λ inner. SpellsExpr inner condition)

-- N '<' N
abbrev pub SpellsTurn : Name × Name → Grammar
SpellsTurn turn = Named turn.0 ⨟ Sign (codes "<") ⨟ Named turn.1

-- 'for' '(' N '<' N ')'
abbrev pub SpellsFor : ℕ → Name × Name → Grammar
SpellsFor depth turn = Reserved (codes "for") ⨟ InRound (λ _. SpellsTurn) depth turn

abbrev pub SpellsTurns : ℕ → Name → Name → Grammar
SpellsTurns depth index size = SpellsFor depth (index, size)

-- N ['[' N ']'] '(' expr,* ')' ';'
abbrev pub SpellsCall : ℕ → Name → Option Name → List PlainExpr → Grammar
SpellsCall depth action index arguments = Named action ⨟ SpellsIndex depth index ⨟ Bracketed (codes "(") (codes ")") depth (λ inner. Commas (SpellsExpr inner) arguments) ⨟ Sign (codes ";")

-- N '.' 'apply' '(' ')' ';'
abbrev pub SpellsApply : ℕ → Name → Grammar
SpellsApply depth table = Named table ⨟ Sign (codes ".") ⨟ Named (codes "apply") ⨟ SpellsNoArguments depth ⨟ Sign (codes ";")

-- a block without a stage
abbrev pub is_bare_block : PlainStmt → Bool
is_bare_block (PlainStmt.Block None body) = true
is_bare_block _ = false

mutual
  -- A statement at a depth, which is how many brackets may be open. An open one ends in an `if` without `else`, to which an
  -- `else` behind it would belong.
  --   stmt := ['@' 'stage' '(' K ')'] '{' stmt* '}' | 'if' '(' expr ')' stmt ['else' stmt]
  --     | 'for' '(' N '<' N ')' '{' stmt* '}' | N ['[' N ']'] '(' expr,* ')' ';' | N '.' 'apply' '(' ')' ';' | plain
  pub data SpellsStmt : ℕ → Bool → PlainStmt → List Word → Type 0 where
    block : {depth : ℕ} → {stage : Option ℕ} → {body : PlainStmts} → {ws : List Word} → (front opening inside closing : List Word) →
        SpellsStage (suc depth) stage front →
        Sign (codes "{") opening →
        SpellsStmts depth body inside →
        Sign (codes "}") closing →
        ws ≡ front ++ opening ++ inside ++ closing →
        SpellsStmt (suc depth) false (PlainStmt.Block stage body) ws
    without_else : {depth : ℕ} → {open_end : Bool} → {condition : PlainExpr} → {then_stmts : PlainStmts} → {ws : List Word} → (front back : List Word) →
        SpellsCondition depth condition front →
        SpellsBranch depth open_end then_stmts back →
        ws ≡ front ++ back →
        SpellsStmt depth true (PlainStmt.If condition then_stmts) ws
    with_else : {depth : ℕ} → {open_end : Bool} → {condition : PlainExpr} → {then_stmts else_stmts : PlainStmts} → {ws : List Word} → (front first between second : List Word) →
        SpellsCondition depth condition front →
        SpellsBranch depth false then_stmts first →
        Reserved (codes "else") between →
        SpellsBranch depth open_end else_stmts second →
        ws ≡ front ++ first ++ between ++ second →
        SpellsStmt depth open_end (PlainStmt.IfElse condition then_stmts else_stmts) ws
    repeated : {depth : ℕ} → {index size : Name} → {body : PlainStmts} → {ws : List Word} → (front opening inside closing : List Word) →
        SpellsTurns (suc depth) index size front →
        Sign (codes "{") opening →
        SpellsStmts depth body inside →
        Sign (codes "}") closing →
        ws ≡ front ++ opening ++ inside ++ closing →
        SpellsStmt (suc depth) false (PlainStmt.For index size body) ws
    called : {depth : ℕ} → {action : Name} → {index : Option Name} → {arguments : List PlainExpr} → {ws : List Word} →
        SpellsCall depth action index arguments ws →
        SpellsStmt depth false (PlainStmt.Call action index arguments) ws
    applied : {depth : ℕ} → {table : Name} → {ws : List Word} →
        SpellsApply depth table ws →
        SpellsStmt depth false (PlainStmt.Apply table) ws
    simple : {depth : ℕ} → {stmt : PlainStmt} → {ws : List Word} →
        SpellsPlain depth stmt ws →
        SpellsStmt depth false stmt ws

  -- stmt*
  pub data SpellsStmts : ℕ → PlainStmts → List Word → Type 0 where
    no_more : {depth : ℕ} →
        SpellsStmts depth PlainStmts.nil []
    one_more : {depth : ℕ} → {open_end : Bool} → {stmt : PlainStmt} → {stmts : PlainStmts} → {ws : List Word} → (front back : List Word) →
        SpellsStmt depth open_end stmt front →
        SpellsStmts depth stmts back →
        ws ≡ front ++ back →
        SpellsStmts depth (PlainStmts.cons stmt stmts) ws

  -- A branch of an `if`. A block without a stage gives its statements; any other statement gives a list of one, and counts as
  -- one more bracket, which is open from its first word to its last.
  pub data SpellsBranch : ℕ → Bool → PlainStmts → List Word → Type 0 where
    in_brackets : {depth : ℕ} → {stmts : PlainStmts} → {ws : List Word} → (opening inside closing : List Word) →
        Sign (codes "{") opening →
        SpellsStmts depth stmts inside →
        Sign (codes "}") closing →
        ws ≡ opening ++ inside ++ closing →
        SpellsBranch (suc depth) false stmts ws
    alone : {depth : ℕ} → {open_end : Bool} → {stmt : PlainStmt} → {ws : List Word} →
        is_bare_block stmt ≡ false →
        SpellsStmt depth open_end stmt ws →
        SpellsBranch (suc depth) open_end (PlainStmts.cons stmt PlainStmts.nil) ws
