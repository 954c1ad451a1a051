use Rattle.std.proofs.Common.{◌≡◌, ℕ, ◌<◌, false, []}
use Rattle.parser_loops.specs.Shown.{states_of}
use Rattle.parser_loops.specs.Searching.{HasFacts, is_new, mark_of}
use Rattle.parser_loops.proofs.search.reaches_itself.Given as goal

abbrev pub invariant-loop-root : goal.invariant-loop-root
invariant-loop-root l = record {
  searched : HasFacts (states_of l.graph) l.search;
  ended : l.search.path.items ≡ [];
  known : (state : ℕ) → state < l.root → is_new (mark_of l.search.marks.items state) ≡ false;
}
