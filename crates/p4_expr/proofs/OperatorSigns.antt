-- An operator that was passed, by its row in the table of levels.
use Rattle.std.proofs.Common.{◌≡◌, ℕ, List, Some, sym, subst}
use Rattle.std.specs.Prelude.{slice_get}
use Rattle.elastic_ast.specs.OperatorSorts.{operator_of, operators}
use Rattle.spelling.specs.Words.{Word}
use Rattle.spelling.specs.Grammar.{Grammar}
use Rattle.spelling.specs.Reading.{Takes, ahead}
use Rattle.spelling.specs.declared.reader.Reader.{Reader}
use Rattle.p4_expr.specs.Operators.{SpellsOperator, level_of}
use Rattle.p4_expr.specs.Standing.{Passes}

-- the reader stayed where the signs before this one don't stand
pub stayed : {Of : Grammar} {first now : Reader} {after : List Word} → now ≡ first → Takes Of (ahead now) after → Takes Of (ahead first) after
stayed {Of = Of} {after = after} same takes = subst (λ reader. Takes Of (ahead reader) after) same takes

pub passes : {level code : ℕ} {before after : List Word} → level ≡ level_of (operator_of code) → slice_get operators code ≡ Some (operator_of code) → Takes (SpellsOperator (operator_of code)) before after → Passes level code before after
passes {code = code} is coded takes = record { operator = operator_of code; is = record { coded = coded; level_is = sym is }; takes = takes }
