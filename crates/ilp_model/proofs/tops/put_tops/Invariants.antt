use Rattle.std.proofs.Common.{◌≡◌, ◌++◌}
use Rattle.ilp_model.specs.WrittenTops.{written_tops}
use Rattle.ilp_model.proofs.tops.put_tops.Given as goal

abbrev pub invariant-loop-time : goal.invariant-loop-time
invariant-loop-time l = l.tops ≡ l.initial.tops ++ written_tops l._time l.top
