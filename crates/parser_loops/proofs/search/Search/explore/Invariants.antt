use Rattle.std.proofs.Common.{◌≡◌, false}
use Rattle.parser_loops.specs.Shown.{states_of}
use Rattle.parser_loops.specs.Searching.{HasFacts, KeepsMarks, is_new, mark_of, work_left}
use Rattle.parser_loops.proofs.search.Search.explore.Given as goal

abbrev pub invariant-loop-state : goal.invariant-loop-state
invariant-loop-state l = record {
  searched : HasFacts (states_of l.graph) l.self;
  kept : KeepsMarks l.fn.self l.self;
  known : is_new (mark_of l.self.marks.items l.root) ≡ false;
}

abbrev pub decreases-loop-state : goal.decreases-loop-state
decreases-loop-state l = work_left l.self
