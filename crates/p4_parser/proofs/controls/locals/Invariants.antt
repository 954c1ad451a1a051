use Rattle.std.proofs.Common.{ℕ, List, All, codes, flat_map, length, map}
use Rattle.elastic_ast.specs.Seen.{seen_local}
use Rattle.elastic_ast.specs.Tree.{PlainLocal}
use Rattle.spelling.specs.Words.{Word}
use Rattle.spelling.specs.Grammar.{Begins, Each, IsNamed}
use Rattle.spelling.specs.Reading.{ahead, MayTake}
use Rattle.spelling.proofs.Whole.{Left}
use Rattle.p4_expr.specs.Expressions.{HasFewOperators}
use Rattle.p4_parser.specs.Declarations.{SpellsLocal}
use Rattle.p4_parser.specs.ExpressionsIn.{expressions_of_local}
use Rattle.p4_parser.proofs.controls.locals.Given as goal

abbrev pub invariant-locals : goal.invariant-locals
invariant-locals l = record {
  taken : MayTake (Each (SpellsLocal l.depth) (map seen_local l.locals)) (ahead l.fn.reader) (ahead l.reader);
  few : All HasFewOperators (flat_map expressions_of_local (map seen_local l.locals));
  only : (more : ℕ) (all : List PlainLocal) (rest : List Word) → MayTake (Each (SpellsLocal more) all) (ahead l.fn.reader) rest → Begins (IsNamed (codes "apply")) rest → Left (SpellsLocal more) (map seen_local l.locals) all (ahead l.reader) rest;
}

abbrev pub decreases-locals : goal.decreases-locals
decreases-locals l = length (ahead l.reader)
