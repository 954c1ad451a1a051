use Rattle.std.proofs.Common.{drop}
use Rattle.elastic_ast.specs.Seen.{seen_exprs}
use Rattle.elastic_ast.specs.Units.Costs.{exprs_ops}
use Rattle.unit_parts.specs.Capped.{capped}
use Rattle.unit_parts.proofs.CappedLaws.{Counting}
use Rattle.unit_parts.proofs.operators.operators_of_all.Given as goal

abbrev pub invariant-loop-expr : goal.invariant-loop-expr
invariant-loop-expr l = Counting l.sum (exprs_ops (seen_exprs (drop l.expr-index l.exprs))) (capped (exprs_ops (seen_exprs l.exprs)))
