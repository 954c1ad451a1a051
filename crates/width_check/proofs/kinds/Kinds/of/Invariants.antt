use Rattle.std.proofs.Common.{take}
use Rattle.elastic_ast.specs.Seen.{seen_decls}
use Rattle.width_check.specs.Kinds.{AreKinds}
use Rattle.width_check.proofs.kinds.Kinds.of.Given as goal

abbrev pub invariant-loop-decl : goal.invariant-loop-decl
invariant-loop-decl l = AreKinds l.kinds (seen_decls (take l.decl-index l.decls))
