use Rattle.std.proofs.Common.{length}
use Rattle.spelling.specs.Grammar.{Begins}
use Rattle.spelling.specs.Reading.{ahead}
use Rattle.spelling.specs.Readers.{IsEndWord, OneByOne}
use Rattle.spelling.proofs.parts.until.Given as goal

abbrev pub invariant-items : goal.invariant-items
invariant-items g l = goal.F-IsAlwaysCallable g l.fn.part × OneByOne (Begins (IsEndWord l.fn.end)) (goal.F-post g l.fn.part) l.fn.reader l.items l.reader

abbrev pub decreases-items : goal.decreases-items
decreases-items g l = length (ahead l.reader)
