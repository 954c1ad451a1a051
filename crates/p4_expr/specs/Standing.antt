-- What stands next where an expression of a level may end or go on, this project's own.
use Rattle.std.specs.Prelude.{◌≡◌, ℕ, ◌<◌, ◌≤◌, IsTrue, List, codes, drop}
use Rattle.elastic_ast.specs.OperatorSorts.{Operator, ShiftDown, NoOperator}
use Rattle.spelling.specs.Words.{Word}
use Rattle.spelling.specs.Grammar.{Begins, BeginTouching, IsSign, IsNamed, IsReserved, is_number}
use Rattle.spelling.specs.Reading.{Takes}
use Rattle.p4_expr.specs.Operators.{IsOperator, SpellsOperator, level_of, text_of}
use Rattle.p4_expr.specs.GoesOn.{EndsIndex}

-- an operator stands first
abbrev pub Stands : Operator → List Word → Type 0
Stands ShiftDown ws = BeginTouching (IsSign (codes ">")) (IsSign (codes ">")) ws
Stands NoOperator ws = ⊥
Stands operator ws = Begins (IsSign (text_of operator)) ws

-- no operator of a level stands first
abbrev pub NoneStands : ℕ → List Word → Type 0
NoneStands level ws = (operator : Operator) → level_of operator ≡ level → Stands operator ws → ⊥

-- an operator of a level stands between two places, and this is its code
pub record Passes (level code : ℕ) (before after : List Word) : Type 0 where
  pub operator : Operator
  pub is : IsOperator level code operator
  pub takes : Takes (SpellsOperator operator) before after

-- nothing stands first at which a primary expression goes on but the bounds of a slice
pub record EndsBase (ws : List Word) : Type 0 where
  pub index : EndsIndex ws
  pub place : Begins (IsSign (codes ".")) ws → ⊥
  pub call : Begins (IsSign (codes "(")) ws → ⊥

-- nothing stands first at which an expression of a level goes on
pub record EndsLevel (level : ℕ) (ws : List Word) : Type 0 where
  pub operators : (operator : Operator) → 0 < level_of operator → level_of operator ≤ level → Stands operator ws → ⊥
  pub slice : Begins (IsSign (codes "[")) ws → ⊥
  pub place : Begins (IsSign (codes ".")) ws → ⊥
  pub call : Begins (IsSign (codes "(")) ws → ⊥

-- three words on the test of a header follows, `.isValid(`
abbrev pub StandsTest : List Word → Type 0
StandsTest ws = Begins (IsSign (codes ".")) (drop 3 ws) × Begins (IsNamed (codes "isValid")) (drop 4 ws) × Begins (IsSign (codes "(")) (drop 5 ws)

-- a hash begins here, `hash(`
abbrev pub StandsHash : List Word → Type 0
StandsHash ws = Begins (IsNamed (codes "hash")) ws × Begins (IsSign (codes "(")) (drop 1 ws)

-- a cast begins here, `(bit`
abbrev pub StandsCast : List Word → Type 0
StandsCast ws = Begins (IsSign (codes "(")) ws × Begins (IsReserved (codes "bit")) (drop 1 ws)

-- a slice goes on here, `[` and a number
abbrev pub StandsSlice : List Word → Type 0
StandsSlice ws = Begins (IsSign (codes "[")) ws × Begins (λ word. IsTrue (is_number word.kind)) (drop 1 ws)

-- nothing stands first with which an expression of a level goes on: no operator of the level or of a stronger one, and no slice
pub record GoesNoFurther (level : ℕ) (ws : List Word) : Type 0 where
  pub operators : (operator : Operator) → 0 < level_of operator → level_of operator ≤ level → Stands operator ws → ⊥
  pub slice : StandsSlice ws → ⊥
