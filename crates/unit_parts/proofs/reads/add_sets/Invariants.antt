use Rattle.std.proofs.Common.{◌≡◌, drop}
use Rattle.std.specs.Prelude.{map}
use Rattle.elastic_ast.specs.Seen.{seen_keyset}
use Rattle.elastic_ast.specs.Units.Reach.{sets_read}
use Rattle.unit_parts.specs.Gathered.{with_locations}
use Rattle.unit_parts.proofs.reads.add_sets.Given as goal

abbrev pub invariant-loop-set : goal.invariant-loop-set
invariant-loop-set l = with_locations l.reads (sets_read (map seen_keyset (drop l.set-index l.sets))) ≡ with_locations l.initial.reads (sets_read (map seen_keyset l.sets))
