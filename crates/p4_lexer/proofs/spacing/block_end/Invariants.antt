use Rattle.std.proofs.Common.{◌≤◌, ◌<◌, ℕ}
use Rattle.p4_lexer.specs.Gaps.{IsClose}
use Rattle.p4_lexer.proofs.spacing.block_end.Given as goal

abbrev pub invariant-loop-i : goal.invariant-loop-i
invariant-loop-i l = (k : ℕ) → l.from ≤ k → k < l.i → IsClose l.text k → ⊥
