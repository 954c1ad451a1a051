use Rattle.std.proofs.Common.{◌≡◌, drop}
use Rattle.elastic_ast.specs.Units.Reach.{lits_read}
use Rattle.unit_parts.specs.Gathered.{with_locations}
use Rattle.unit_parts.proofs.tasks.add_lits.Given as goal

abbrev pub invariant-loop-lit : goal.invariant-loop-lit
invariant-loop-lit l = with_locations l.reads (lits_read (drop l.lit-index l.lits)) ≡ with_locations l.initial.reads (lits_read l.lits)
