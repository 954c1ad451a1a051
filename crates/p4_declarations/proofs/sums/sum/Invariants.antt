use Rattle.std.proofs.Common.{List, length}
use Rattle.elastic_ast.specs.declared.declarations.LinTerm.{LinTerm}
use Rattle.spelling.specs.Words.{Word}
use Rattle.spelling.specs.Reading.{ahead, MayTake, Takes, Ends}
use Rattle.spelling.proofs.Whole.{Left}
use Rattle.p4_declarations.specs.GoesOn.{sum_signs}
use Rattle.p4_declarations.specs.Sums.{SpellsLaterTerm, SpellsSum}
use Rattle.p4_declarations.proofs.sums.sum.Given as goal

abbrev pub invariant-terms : goal.invariant-terms
invariant-terms l = record {
  taken : Takes (SpellsSum l.terms) (ahead l.fn.reader) (ahead l.reader);
  only : (all : List LinTerm) (rest : List Word) → MayTake (SpellsSum all) (ahead l.fn.reader) rest → Ends sum_signs rest → Left SpellsLaterTerm l.terms all (ahead l.reader) rest;
}

abbrev pub decreases-terms : goal.decreases-terms
decreases-terms l = length (ahead l.reader)
