use Rattle.std.proofs.Common.{◌≡◌, drop}
use Rattle.elastic_ast.specs.Seen.{seen_exprs}
use Rattle.elastic_ast.specs.Units.Reach.{exprs_read}
use Rattle.unit_parts.specs.Gathered.{with_locations}
use Rattle.unit_parts.proofs.reads.add_exprs.Given as goal

abbrev pub invariant-loop-expr : goal.invariant-loop-expr
invariant-loop-expr l = with_locations l.reads (exprs_read (seen_exprs (drop l.expr-index l.exprs))) ≡ with_locations l.initial.reads (exprs_read (seen_exprs l.exprs))
