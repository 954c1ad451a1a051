use Rattle.std.proofs.Common.{◌≡◌, drop}
use Rattle.elastic_ast.specs.Typing.Scope.{found}
use Rattle.elastic_ast.specs.Packets.MainParts.{main_in}
use Rattle.elastic_ast.specs.Seen.{seen_decls}
use Rattle.unit_flow.proofs.body.main_control.Given as goal

abbrev pub invariant-loop-decl : goal.invariant-loop-decl
invariant-loop-decl l = found main_in (seen_decls (drop l.decl-index l.decls)) ≡ found main_in (seen_decls l.decls)
