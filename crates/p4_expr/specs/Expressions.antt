-- Which words spell an expression, in the manner of the grammar of the P4-16 language specification 1.2.3; the levels of
-- operators and the numbers are this project's own.
use Rattle.std.specs.Prelude.{◌≡◌, ℕ, suc, ◌≤◌, Bool, List, ◌++◌, Option, codes}
use Rattle.elastic_ast.specs.declared.statements.Amount.{Amount}
use Rattle.elastic_ast.specs.declared.statements.Lval.{Lval}
use Rattle.elastic_ast.specs.OperatorSorts.{Operator}
use Rattle.elastic_ast.specs.Tree.{Name, PlainExpr}
use Rattle.spelling.specs.Words.{Word}
use Rattle.spelling.specs.Grammar.{Grammar, ◌⨟◌, Sign, Named}
use Rattle.p4_expr.specs.Parts.{SpellsNumber, SpellsTruth, SpellsAmount, SpellsLval, SpellsIsValid, SpellsBitRange, SpellsCast}
use Rattle.p4_expr.specs.Operators.{IsOperator, SpellsOperator, weakest, operators_in}

mutual
  -- An expression of a level, at a depth, which is how many brackets may be open. Level 0 is `pre`; each level above it
  -- is that of some binary operators, which group to the left.
  pub data SpellsLevel : ℕ → ℕ → PlainExpr → List Word → Type 0 where
    -- pre
    prefixed : {depth : ℕ} → {e : PlainExpr} → {ws : List Word} →
        SpellsPrefixed depth e ws →
        SpellsLevel depth 0 e ws
    -- an expression of the next stronger level
    stronger : {depth level : ℕ} → {e : PlainExpr} → {ws : List Word} →
        SpellsLevel depth level e ws →
        SpellsLevel depth (suc level) e ws
    -- an expression of this level, an operator of this level, an expression of the next stronger level
    binary : {depth level op : ℕ} → {left right : PlainExpr} → {ws : List Word} → (operator : Operator) (front sign back : List Word) →
        IsOperator (suc level) op operator →
        SpellsLevel depth (suc level) left front →
        SpellsOperator operator sign →
        SpellsLevel depth level right back →
        ws ≡ front ++ sign ++ back →
        SpellsLevel depth (suc level) (PlainExpr.Binary op left right) ws

  -- pre := prim | ('~' | '!') pre | '(' bits ')' pre
  pub data SpellsPrefixed : ℕ → PlainExpr → List Word → Type 0 where
    primary : {depth : ℕ} → {e : PlainExpr} → {ws : List Word} →
        SpellsPrimary depth e ws →
        SpellsPrefixed depth e ws
    unary : {depth op : ℕ} → {of : PlainExpr} → {ws : List Word} → (operator : Operator) (front back : List Word) →
        IsOperator 0 op operator →
        SpellsOperator operator front →
        SpellsPrefixed depth of back →
        ws ≡ front ++ back →
        SpellsPrefixed depth (PlainExpr.Unary op of) ws
    cast : {depth width : ℕ} → {of : PlainExpr} → {ws : List Word} → (front back : List Word) →
        SpellsCast depth width front →
        SpellsPrefixed depth of back →
        ws ≡ front ++ back →
        SpellsPrefixed depth (PlainExpr.Cast width of) ws

  -- prim := V | N | 'true' | 'false' | lval | 'hdr' '.' N '.' 'isValid' '(' ')' | '(' expr ')'
  --   | 'hash' '(' amount ',' expr ',' amount ')' | prim '[' K ':' K ']'
  pub data SpellsPrimary : ℕ → PlainExpr → List Word → Type 0 where
    number : {depth : ℕ} → {width : Option ℕ} → {value : ℕ} → {ws : List Word} →
        SpellsNumber width value ws →
        SpellsPrimary depth (PlainExpr.Num width value) ws
    name : {depth : ℕ} → {text : Name} → {ws : List Word} →
        Named text ws →
        SpellsPrimary depth (PlainExpr.Named text) ws
    truth : {depth : ℕ} → {which : Bool} → {ws : List Word} →
        SpellsTruth which ws →
        SpellsPrimary depth (PlainExpr.Truth which) ws
    place : {depth : ℕ} → {lval : Lval} → {ws : List Word} →
        SpellsLval depth lval ws →
        SpellsPrimary depth (PlainExpr.At lval) ws
    is_valid : {depth : ℕ} → {header : Name} → {ws : List Word} →
        SpellsIsValid depth header ws →
        SpellsPrimary depth (PlainExpr.IsValid header) ws
    bracketed : {depth : ℕ} → {e : PlainExpr} → {ws : List Word} → (opening inside closing : List Word) →
        Sign (codes "(") opening →
        SpellsLevel depth weakest e inside →
        Sign (codes ")") closing →
        ws ≡ opening ++ inside ++ closing →
        SpellsPrimary (suc depth) e ws
    hash : {depth : ℕ} → {number modulus : Amount} → {of : PlainExpr} → {ws : List Word} → (name opening front inside back closing : List Word) →
        Named (codes "hash") name →
        Sign (codes "(") opening →
        (SpellsAmount number ⨟ Sign (codes ",")) front →
        SpellsLevel depth weakest of inside →
        (Sign (codes ",") ⨟ SpellsAmount modulus) back →
        Sign (codes ")") closing →
        ws ≡ name ++ opening ++ (front ++ inside ++ back) ++ closing →
        SpellsPrimary (suc depth) (PlainExpr.Hash number of modulus) ws
    slice : {depth high low : ℕ} → {of : PlainExpr} → {ws : List Word} → (front back : List Word) →
        SpellsPrimary depth of front →
        SpellsBitRange depth high low back →
        ws ≡ front ++ back →
        SpellsPrimary depth (PlainExpr.Slice of high low) ws

-- expr: an expression of the weakest level
abbrev pub SpellsExpr : ℕ → PlainExpr → Grammar
SpellsExpr depth = SpellsLevel depth weakest

abbrev pub most_operators : ℕ
most_operators = 64

-- an expression that a program may have
abbrev pub HasFewOperators : PlainExpr → Type 0
HasFewOperators e = operators_in e ≤ most_operators
