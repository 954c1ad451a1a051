use Rattle.std.proofs.Common.{◌≡◌, drop}
use Rattle.elastic_ast.specs.Typing.Scope.{found}
use Rattle.elastic_ast.specs.Typing.LookUps.{members_in}
use Rattle.elastic_ast.specs.Seen.{seen_decls}
use Rattle.unit_flow.proofs.header.members.Given as goal

abbrev pub invariant-loop-decl : goal.invariant-loop-decl
invariant-loop-decl l = found members_in (seen_decls (drop l.decl-index l.decls)) ≡ found members_in (seen_decls l.decls)
