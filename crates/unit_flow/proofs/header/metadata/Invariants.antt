use Rattle.std.proofs.Common.{◌≡◌, drop}
use Rattle.elastic_ast.specs.Typing.Scope.{found}
use Rattle.elastic_ast.specs.Typing.LookUps.{meta_in}
use Rattle.elastic_ast.specs.Seen.{seen_decls}
use Rattle.unit_flow.proofs.header.metadata.Given as goal

abbrev pub invariant-loop-decl : goal.invariant-loop-decl
invariant-loop-decl l = found meta_in (seen_decls (drop l.decl-index l.decls)) ≡ found meta_in (seen_decls l.decls)
