use Rattle.std.proofs.Common.{ℕ, List, length}
use Rattle.elastic_ast.specs.declared.declarations.UtilTerm.{UtilTerm}
use Rattle.spelling.specs.Words.{Word}
use Rattle.spelling.specs.Grammar.{FirstThenEach}
use Rattle.spelling.specs.Reading.{ahead, MayTake, Takes, Ends}
use Rattle.spelling.proofs.Whole.{Left}
use Rattle.p4_declarations.specs.GoesOn.{sum_signs}
use Rattle.p4_declarations.specs.Flat.{SpellsFirstGain, SpellsLaterGain}
use Rattle.p4_declarations.proofs.gains.gains.Given as goal

abbrev pub invariant-gains : goal.invariant-gains
invariant-gains l = record {
  taken : Takes (FirstThenEach (SpellsFirstGain l.depth) (SpellsLaterGain l.depth) l.gains) (ahead l.fn.reader) (ahead l.reader);
  only : (more : ℕ) (all : List UtilTerm) (rest : List Word) → MayTake (FirstThenEach (SpellsFirstGain more) (SpellsLaterGain more) all) (ahead l.fn.reader) rest → Ends sum_signs rest → Left (SpellsLaterGain more) l.gains all (ahead l.reader) rest;
}

abbrev pub decreases-gains : goal.decreases-gains
decreases-gains l = length (ahead l.reader)
