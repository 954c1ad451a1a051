use Rattle.std.proofs.Common.{◌≡◌, drop}
use Rattle.elastic_ast.specs.Seen.{seen_stmts}
use Rattle.elastic_laws.specs.Units.PieceCounts.{together, count_all}
use Rattle.unit_parts.specs.Shapes.{seen_shape}
use Rattle.unit_parts.proofs.shape.+shapes.Given as goal

abbrev pub invariant-stmts_shape-loop-stmt : goal.invariant-stmts_shape-loop-stmt
invariant-stmts_shape-loop-stmt l = together (seen_shape l.shape) (count_all (seen_stmts (drop l.stmt-index l.stmts))) ≡ count_all (seen_stmts l.stmts)
