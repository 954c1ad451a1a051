use Rattle.std.proofs.Common.{drop}
use Rattle.elastic_ast.specs.Seen.{seen_stmts}
use Rattle.elastic_ast.specs.Units.Costs.{body_ops}
use Rattle.unit_parts.specs.Capped.{capped}
use Rattle.unit_parts.proofs.CappedLaws.{Counting}
use Rattle.unit_parts.proofs.operators.body_operators.Given as goal

abbrev pub invariant-loop-stmt : goal.invariant-loop-stmt
invariant-loop-stmt l = Counting l.sum (body_ops (seen_stmts (drop l.stmt-index l.body))) (capped (body_ops (seen_stmts l.body)))
