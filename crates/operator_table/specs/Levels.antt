-- The level and the text of each operator, in the manner of the grammar of the P4-16 language specification 1.2.3; the levels
-- are this project's own.
use Rattle.std.specs.Prelude.{ℕ, List, [], codes}
use Rattle.elastic_ast.specs.OperatorSorts.{Operator, Or, And, Equal, Differ, Less, AtMost, Greater, AtLeast, BitOr, BitXor, BitAnd, ShiftUp, ShiftDown, Plus, Minus, Join, Times, Turn, Negate, NoOperator}

-- Levels are counted from the strongest on: 0 is that of the prefixed operators, and each level above it is that of some
-- binary operators.
abbrev pub level_of : Operator → ℕ
level_of Or = 10
level_of And = 9
level_of Equal = 8
level_of Differ = 8
level_of Less = 7
level_of AtMost = 7
level_of Greater = 7
level_of AtLeast = 7
level_of BitOr = 6
level_of BitXor = 5
level_of BitAnd = 4
level_of ShiftUp = 3
level_of ShiftDown = 3
level_of Plus = 2
level_of Minus = 2
level_of Join = 2
level_of Times = 1
level_of Turn = 0
level_of Negate = 0
level_of NoOperator = 0

abbrev pub weakest : ℕ
weakest = 10

-- what an operator looks like
abbrev pub text_of : Operator → List ℕ
text_of Or = codes "||"
text_of And = codes "&&"
text_of Equal = codes "=="
text_of Differ = codes "!="
text_of Less = codes "<"
text_of AtMost = codes "<="
text_of Greater = codes ">"
text_of AtLeast = codes ">="
text_of BitOr = codes "|"
text_of BitXor = codes "^"
text_of BitAnd = codes "&"
text_of ShiftUp = codes "<<"
text_of ShiftDown = codes ">>"
text_of Plus = codes "+"
text_of Minus = codes "-"
text_of Join = codes "++"
text_of Times = codes "*"
text_of Turn = codes "~"
text_of Negate = codes "!"
text_of NoOperator = []
