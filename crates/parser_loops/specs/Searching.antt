-- How far a search in depth has come with the states of a parser; this project's own.
use Rattle.std.specs.Prelude.{◌≡◌, ℕ, ◌+◌, ◌*◌, ◌<◌, ◌≤◌, Bool, true, false, List, [], ◌∷◌, ◌++◌, length, get_or, replicate, slice_set, count_by, Option, Some, None}
use Rattle.elastic_ast.specs.Tree.{PlainState}
use Rattle.elastic_ast.specs.Typing.ParserLoops.{goes, LeadsToState}
use Rattle.parser_loops.specs.declared.search.Mark.{Mark}
use Rattle.parser_loops.specs.declared.search.Mark.TheVariants.{New, Open, Done}
use Rattle.parser_loops.specs.declared.search.Search.{Search}
use Rattle.parser_loops.specs.declared.search.Edge.{Edge}
use Rattle.parser_loops.specs.Transitions.{IsCase, targets_at}

-- some state can reach itself
abbrev pub ReachesItself : List PlainState → Type 0
ReachesItself states = (state : ℕ) × LeadsToState states state state

-- the mark of a state
abbrev pub mark_of : List Mark → ℕ → Mark
mark_of marks state = get_or marks state New

abbrev pub is_new : Mark → Bool
is_new New = true
is_new Open = false
is_new Done = false

-- what the marks, the cases that were passed and the path say of the states
pub record SearchFacts (states : List PlainState) (marks : List Mark) (passed path : List ℕ) : Type 0 where
  pub marked : length marks ≡ length states
  pub counted : length passed ≡ length states
  pub within : (place : ℕ) → place < length path → get_or path place 0 < length states
  -- the cases that were passed go on to states that are done
  pub past : (state case other : ℕ) → case < get_or passed state 0 → IsCase states state case other → mark_of marks other ≡ Done
  -- so do all cases of a state that is done
  pub closed : (state other : ℕ) → mark_of marks state ≡ Done → goes states state other ≡ true → mark_of marks other ≡ Done
  pub free : (state : ℕ) → mark_of marks state ≡ Done → LeadsToState states state state → ⊥
  -- a state of the path leads to each later one, and what is open stands on the path
  pub onward : (place later : ℕ) → place < later → later < length path → LeadsToState states (get_or path place 0) (get_or path later 0)
  pub on_path : (state : ℕ) → mark_of marks state ≡ Open → (place : ℕ) × (place < length path) × (get_or path place 0 ≡ state)

abbrev pub HasFacts : List PlainState → Search → Type 0
HasFacts states search = SearchFacts states search.marks.items search.passed.items search.path.items

-- the same, with a state at the end of the path that was taken from it
abbrev pub HasFactsWith : List PlainState → Search → ℕ → Type 0
HasFactsWith states search state = SearchFacts states search.marks.items search.passed.items (search.path.items ++ state ∷ [])

-- a new search over so many states
pub record IsFresh (count : ℕ) (search : Search) : Type 0 where
  pub marks : search.marks.items ≡ replicate count New
  pub passed : search.passed.items ≡ replicate count 0
  pub path : search.path.items ≡ []

-- a state has got its place at the end of the path
pub record Entered (old new : Search) (state : ℕ) : Type 0 where
  pub marks : new.marks.items ≡ slice_set old.marks.items state Open
  pub passed : new.passed.items ≡ old.passed.items
  pub path : new.path.items ≡ old.path.items ++ state ∷ []

-- the cases of a state from the one up to the other go on to states that are done
abbrev pub PassedUpTo : List PlainState → List Mark → ℕ → ℕ → ℕ → Type 0
PassedUpTo states marks state from end = (case other : ℕ) → from ≤ case → case < end → IsCase states state case other → mark_of marks other ≡ Done

-- the first case of a state, from one on, that goes on to a state that isn't done
pub record IsNextEdge (states : List PlainState) (marks : List Mark) (state from : ℕ) (edge : Edge) : Type 0 where
  pub goes_on : IsCase states state edge.case edge.target
  pub undone : mark_of marks edge.target ≡ Done → ⊥
  pub passed : PassedUpTo states marks state from edge.case

-- the next edge of a state, or none where all its cases from one on are passed
abbrev pub NextEdge : List PlainState → List Mark → ℕ → ℕ → Option Edge → Type 0
NextEdge states marks state from (Some edge) = IsNextEdge states marks state from edge
NextEdge states marks state from None = PassedUpTo states marks state from (length (targets_at states state))

-- how much is left to do at most: each new state comes on the path once, and each state of the path leaves it
abbrev pub work_left : Search → ℕ
work_left search = 2 * count_by is_new search.marks.items + length search.path.items

-- what a search knows stays known
abbrev pub KeepsMarks : Search → Search → Type 0
KeepsMarks old new = (state : ℕ) → is_new (mark_of old.marks.items state) ≡ false → is_new (mark_of new.marks.items state) ≡ false

pub record Stepped (states : List PlainState) (old new : Search) : Type 0 where
  pub searched : HasFacts states new
  pub kept : KeepsMarks old new
  pub smaller : work_left new ≤ work_left old

-- a step finds that a state can reach itself, or goes on
abbrev pub StepAnswer : List PlainState → Search → Search → Bool → Type 0
StepAnswer states old new true = ReachesItself states
StepAnswer states old new false = Stepped states old new

-- all that a state leads to is done
pub record Finished (states : List PlainState) (old new : Search) (state : ℕ) : Type 0 where
  pub searched : HasFacts states new
  pub kept : KeepsMarks old new
  pub known : is_new (mark_of new.marks.items state) ≡ false
  pub path : new.path.items ≡ []

-- a search from a state finds that a state can reach itself, or ends
abbrev pub RootAnswer : List PlainState → Search → Search → ℕ → Bool → Type 0
RootAnswer states old new state true = ReachesItself states
RootAnswer states old new state false = Finished states old new state
