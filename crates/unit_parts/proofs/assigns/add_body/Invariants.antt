use Rattle.std.proofs.Common.{◌≡◌, drop}
use Rattle.elastic_ast.specs.Seen.{seen_stmts}
use Rattle.elastic_ast.specs.Units.Reach.{body_assigns}
use Rattle.unit_parts.specs.Gathered.{with_locations}
use Rattle.unit_parts.proofs.assigns.add_body.Given as goal

abbrev pub invariant-loop-stmt : goal.invariant-loop-stmt
invariant-loop-stmt l = with_locations l.writes (body_assigns (seen_stmts (drop l.stmt-index l.body))) ≡ with_locations l.initial.writes (body_assigns (seen_stmts l.body))
