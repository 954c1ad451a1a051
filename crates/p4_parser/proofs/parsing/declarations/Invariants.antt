use Rattle.std.proofs.Common.{ℕ, List, [], length}
use Rattle.elastic_ast.specs.Tree.{PlainDecl}
use Rattle.elastic_ast.specs.Seen.{seen_decls}
use Rattle.spelling.specs.Reading.{ahead, MayTake}
use Rattle.spelling.proofs.Whole.{Left}
use Rattle.p4_parser.specs.Declarations.{SpellsDeclaration, SpellsProgram}
use Rattle.p4_parser.specs.Reading.{ProgramHasFew}
use Rattle.p4_parser.proofs.parsing.declarations.Given as goal

abbrev pub invariant-decls : goal.invariant-decls
invariant-decls l = record {
  spelled : MayTake (SpellsProgram l.depth (seen_decls l.decls)) (ahead l.fn.reader) (ahead l.reader);
  few : ProgramHasFew (seen_decls l.decls);
  only : (more : ℕ) (all : List PlainDecl) → SpellsProgram more all (ahead l.fn.reader) → Left (SpellsDeclaration more) (seen_decls l.decls) all (ahead l.reader) [];
}

abbrev pub decreases-decls : goal.decreases-decls
decreases-decls l = length (ahead l.reader)
