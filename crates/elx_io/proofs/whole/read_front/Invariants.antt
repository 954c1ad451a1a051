use Rattle.std.proofs.Common.{◌-◌, ◌≤◌, vec_len}
use Rattle.elx_io.proofs.whole.read_front.Given as goal

abbrev pub invariant-loop-piece : goal.invariant-loop-piece
invariant-loop-piece g l = vec_len l.bytes ≤ l.limit

abbrev pub decreases-loop-piece : goal.decreases-loop-piece
decreases-loop-piece g l = l.limit - vec_len l.bytes
