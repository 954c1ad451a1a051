use Rattle.std.proofs.Common.{refl}
use Rattle.elastic_ast.specs.OperatorSorts.{Or, And, Equal, Differ, Less, AtMost, Greater, AtLeast, BitOr, BitXor, BitAnd, ShiftUp, ShiftDown, Plus, Minus, Join, Times, Turn, Negate, NoOperator, CodesTell}
use Rattle.elastic_laws.proofs.meaning_examples.operators_are_told_by_codes.Goals as goal

codes_tell : CodesTell
codes_tell Or = refl
codes_tell And = refl
codes_tell Equal = refl
codes_tell Differ = refl
codes_tell Less = refl
codes_tell AtMost = refl
codes_tell Greater = refl
codes_tell AtLeast = refl
codes_tell BitOr = refl
codes_tell BitXor = refl
codes_tell BitAnd = refl
codes_tell ShiftUp = refl
codes_tell ShiftDown = refl
codes_tell Plus = refl
codes_tell Minus = refl
codes_tell Join = refl
codes_tell Times = refl
codes_tell Turn = refl
codes_tell Negate = refl
codes_tell NoOperator = refl

pub returns : goal.returns
returns c = codes_tell
