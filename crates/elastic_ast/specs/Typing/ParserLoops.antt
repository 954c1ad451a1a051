-- When a state of a parser can reach itself, over the transitions of its states; this project's own, narrower than P4-16
-- language specification 1.2.3, its section on parsers.
use Rattle.std.specs.Prelude.{◌≡◌, ℕ, Bool, true, false, List, [], ◌∷◌, map, Option, Some, slice_get, ◌⊎◌, codes}
use Rattle.elastic_ast.specs.Tree.{Name, PlainKeyset, PlainNext, PlainState}
use Rattle.elastic_ast.specs.Typing.Scope.{among}

abbrev pub state_name : PlainState → Name
state_name state = state.name

abbrev pub state_names : List PlainState → List Name
state_names states = map state_name states

abbrev pub case_target : PlainKeyset × Name → Name
case_target option = option.1

-- the names to which a state goes on
abbrev pub targets_of : PlainNext → List Name
targets_of (PlainNext.To name) = name ∷ []
targets_of (PlainNext.Select expression cases) = map case_target cases

abbrev pub goes_on : Option PlainState → Option PlainState → Bool
goes_on (Some one) (Some other) = among (targets_of one.next) other.name
goes_on one other = false

-- a transition goes from the state of the one number to that of the other
abbrev pub goes : List PlainState → ℕ → ℕ → Bool
goes states one other = goes_on (slice_get states one) (slice_get states other)

-- transitions lead from the one state to the other, one or more of them
pub data LeadsToState (states : List PlainState) (one : ℕ) : ℕ → Type 0 where
  direct : (other : ℕ) → goes states one other ≡ true → LeadsToState states one other
  further : (middle other : ℕ) → LeadsToState states one middle → goes states middle other ≡ true → LeadsToState states one other

-- a state can reach itself, or there is no state `start`
abbrev pub Loops : List PlainState → Type 0
Loops states = ((state : ℕ) × LeadsToState states state state) ⊎ (among (state_names states) (codes "start") ≡ false)
