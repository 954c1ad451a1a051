use Rattle.std.proofs.Common.{◌≡◌, ◌≤◌, ◌+◌, ◌*◌, drop}
use Rattle.dep_graph.specs.HeaderBits.{weighed}
use Rattle.place_check.proofs.uses.header_use.Given as goal

abbrev pub invariant-loop-i : goal.invariant-loop-i
invariant-loop-i l = record {
  used : l.used + weighed (drop l.i l.each) (drop l.i l.sizes) ≡ l.initial.used + weighed l.each l.sizes;
  small : l.used ≤ 18446744073709551615 + l.i * (18446744073709551615 * 4294967296);
}
