use Rattle.std.proofs.Common.{◌≡◌, drop}
use Rattle.elastic_ast.specs.Units.Reach.{keys_read}
use Rattle.unit_parts.specs.Gathered.{with_locations}
use Rattle.unit_parts.proofs.reads.add_keys.Given as goal

abbrev pub invariant-loop-key : goal.invariant-loop-key
invariant-loop-key l = with_locations l.reads (keys_read (drop l.key-index l.keys)) ≡ with_locations l.initial.reads (keys_read l.keys)
