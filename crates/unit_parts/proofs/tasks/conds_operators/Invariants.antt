use Rattle.std.proofs.Common.{drop}
use Rattle.elastic_ast.specs.Units.Costs.{exprs_ops}
use Rattle.unit_parts.specs.SeenPieces.{seen_conds}
use Rattle.unit_parts.specs.Capped.{capped}
use Rattle.unit_parts.proofs.CappedLaws.{Counting}
use Rattle.unit_parts.proofs.tasks.conds_operators.Given as goal

abbrev pub invariant-loop-cond : goal.invariant-loop-cond
invariant-loop-cond l = Counting l.sum (exprs_ops (seen_conds (drop l.cond-index l.conds))) (capped (exprs_ops (seen_conds l.conds)))
