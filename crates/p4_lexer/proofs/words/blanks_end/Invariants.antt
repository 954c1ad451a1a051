use Rattle.std.proofs.Common.{◌≡◌, ◌≤◌, ◌<◌, ℕ, true, get_or}
use Rattle.p4_lexer.specs.Pieces.{is_blank}
use Rattle.p4_lexer.proofs.words.blanks_end.Given as goal

abbrev pub invariant-loop-i : goal.invariant-loop-i
invariant-loop-i l = (k : ℕ) → l.from ≤ k → k < l.i → is_blank (get_or l.text k 0) ≡ true
