use Rattle.spelling.specs.Readers.{ClosesNext}
use Rattle.std.proofs.Common.{ℕ, List, length}
use Rattle.spelling.specs.Words.{Word}
use Rattle.spelling.specs.Reading.{ahead, MayTake}
use Rattle.spelling.proofs.Whole.{Left}
use Rattle.p4_tables.specs.Seen.{seen_parts}
use Rattle.p4_tables.specs.Tables.{Property, SpellsProperty}
use Rattle.p4_tables.specs.Reading.{SpellsProperties}
use Rattle.p4_tables.proofs.reading.properties.Given as goal

abbrev pub invariant-parts : goal.invariant-parts
invariant-parts l = record {
  taken : MayTake (SpellsProperties l.depth (seen_parts l.parts)) (ahead l.fn.reader) (ahead l.reader);
  only : (more : ℕ) (all : List Property) (rest : List Word) → MayTake (SpellsProperties more all) (ahead l.fn.reader) rest → ClosesNext rest → Left (SpellsProperty more) (seen_parts l.parts) all (ahead l.reader) rest;
}

abbrev pub decreases-parts : goal.decreases-parts
decreases-parts l = length (ahead l.reader)
