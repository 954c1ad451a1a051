-- How operators are spelled, in the manner of the grammar of the P4-16 language specification 1.2.3.
use Rattle.std.specs.Prelude.{◌≡◌, ℕ, Some, slice_get, codes}
use Rattle.spelling.specs.Grammar.{Grammar, Nothing, IsSign, Sign, TwoTouching}
use Rattle.elastic_ast.specs.OperatorSorts.{Operator, ShiftDown, NoOperator, operators}
unfoldable pub use Rattle.elastic_ast.specs.OperatorSorts.{operators_in}
pub use Rattle.operator_table.specs.Levels.{level_of, text_of, weakest}

-- the code is that of this operator, which stands at this level
pub record IsOperator (level code : ℕ) (operator : Operator) : Type 0 where
  pub coded : slice_get operators code ≡ Some operator
  pub level_is : level_of operator ≡ level

-- An operator is one sign, but `>>` is two signs `>` that touch, as the two may close two types too.
abbrev pub SpellsOperator : Operator → Grammar
SpellsOperator ShiftDown = TwoTouching (IsSign (codes ">")) (IsSign (codes ">"))
SpellsOperator NoOperator = Nothing
SpellsOperator operator = Sign (text_of operator)
