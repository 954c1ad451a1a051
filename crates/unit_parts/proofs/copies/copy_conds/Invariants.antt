use Rattle.std.proofs.Common.{◌≡◌, take}
use Rattle.elastic_ast.specs.Seen.{seen_exprs}
use Rattle.unit_parts.specs.SeenPieces.{seen_conds}
use Rattle.unit_parts.proofs.copies.copy_conds.Given as goal

abbrev pub invariant-loop-cond : goal.invariant-loop-cond
invariant-loop-cond l = seen_exprs l.copies ≡ seen_conds (take l.cond-index l.conds)
