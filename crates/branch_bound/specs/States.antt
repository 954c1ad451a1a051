-- What a search keeps of each row while the box changes; this project's own.
use Rattle.std.specs.Prelude.{◌≡◌, ℕ, ℤ, pos, ◌+ℤ◌, ◌-ℤ◌, ◌*ℤ◌, true, false, List, [], ◌∷◌, length, get_or, slice_set, Some, None}
use Rattle.std.specs.Int.{int_wrap, w128}
use Rattle.int_program.specs.Sums.{sum_at}
use Rattle.int_program.specs.Bounds.{least_of, least_term}
use Rattle.int_program.specs.Accepts.{tight_fault}
use Rattle.int_program.specs.declared.program.Ip.{Ip}
use Rattle.int_program.specs.declared.program.IpBox.{IpBox}
use Rattle.int_program.specs.declared.program.Row.{Row}
use Rattle.branch_bound.specs.declared.columns.Entry.{Entry}
use Rattle.branch_bound.specs.declared.states.RowState.{RowState}

-- the row's least value and its value at the lows, as 128 bits hold them; a row that is settled tightens nothing
pub record IsRowState (n : ℕ) (b : IpBox) (row : Row) (s : RowState) : Type 0 where
  pub least : s.least ≡ int_wrap w128 (least_of row.parts b)
  pub at_lows : s.at_lows ≡ int_wrap w128 (sum_at row.parts b.low)
  pub settled : s.settled ≡ true → (v : ℕ) → tight_fault n b v (Some row) ≡ None → ⊥

-- the states of rows, one for each
abbrev pub AreRowStates : ℕ → IpBox → List Row → List RowState → Type 0
AreRowStates n b [] [] = Unit {0}
AreRowStates n b [] (s ∷ states) = ⊥
AreRowStates n b (row ∷ rows) [] = ⊥
AreRowStates n b (row ∷ rows) (s ∷ states) = IsRowState n b row s × AreRowStates n b rows states

-- the states of a program's rows
abbrev pub AreStates : Ip → IpBox → List RowState → Type 0
AreStates ip b states = AreRowStates (length ip.tops) b ip.rows states

-- the state of a row that names a variable, when the variable's own ends become others
abbrev pub moved_state : ℤ × ℤ → ℤ × ℤ → ℤ → RowState → RowState
moved_state own ends by s = record {
  least = int_wrap w128 (s.least +ℤ (least_term by ends.0 ends.1 -ℤ least_term by own.0 own.1));
  at_lows = int_wrap w128 (s.at_lows +ℤ (by *ℤ ends.0 -ℤ by *ℤ own.0));
  settled = false;
}

-- no state, for a row that doesn't exist
abbrev pub no_state : RowState
no_state = record { least = pos 0; at_lows = pos 0; settled = false }

-- the states after the rows of a column moved
abbrev pub moved_rows : ℤ × ℤ → ℤ × ℤ → List Entry → List RowState → List RowState
moved_rows own ends [] states = states
moved_rows own ends (e ∷ es) states = moved_rows own ends es (slice_set states e.row (moved_state own ends e.by (get_or states e.row no_state)))
