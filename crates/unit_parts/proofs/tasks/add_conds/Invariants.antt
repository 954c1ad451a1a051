use Rattle.std.proofs.Common.{◌≡◌, drop}
use Rattle.elastic_ast.specs.Units.Reach.{exprs_read}
use Rattle.unit_parts.specs.SeenPieces.{seen_conds}
use Rattle.unit_parts.specs.Gathered.{with_locations}
use Rattle.unit_parts.proofs.tasks.add_conds.Given as goal

abbrev pub invariant-loop-cond : goal.invariant-loop-cond
invariant-loop-cond l = with_locations l.reads (exprs_read (seen_conds (drop l.cond-index l.conds))) ≡ with_locations l.initial.reads (exprs_read (seen_conds l.conds))
