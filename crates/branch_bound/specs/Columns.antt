-- For each variable the rows that name it; this project's own.
use Rattle.std.specs.Prelude.{◌≡◌, ℕ, suc, ◌<◌, List, [], ◌∷◌, ◌++◌, length, get_or, nat_eq, if◌then◌else◌}
use Rattle.int_program.specs.declared.program.Ip.{Ip}
use Rattle.int_program.specs.declared.program.Part.{Part}
use Rattle.int_program.specs.declared.program.Row.{Row}
use Rattle.branch_bound.specs.declared.columns.Entry.{Entry}

abbrev pub entry_of : ℕ → Part → Entry
entry_of row p = record { row = row; by = p.by }

-- the entries of a variable in the parts of a row
abbrev pub entries_of : ℕ → ℕ → List Part → List Entry
entries_of v row [] = []
entries_of v row (p ∷ ps) =
    if nat_eq p.var v
    then entry_of row p ∷ entries_of v row ps
    else entries_of v row ps

-- the entries of a variable in rows, the first of which has this number
abbrev pub column_of : ℕ → ℕ → List Row → List Entry
column_of v first [] = []
column_of v first (row ∷ rows) = entries_of v first row.parts ++ column_of v (suc first) rows

-- the column of each variable, of so many
pub record AreColumnsOf (count : ℕ) (rows : List Row) (columns : List (List Entry)) : Type 0 where
  pub as_many : length columns ≡ count
  pub each : (v : ℕ) → v < count → get_or columns v [] ≡ column_of v 0 rows

-- the columns of a program
abbrev pub AreColumns : Ip → List (List Entry) → Type 0
AreColumns ip columns = AreColumnsOf (length ip.tops) ip.rows columns

-- the columns with the entries of one more row
pub record HaveRow (row : ℕ) (ps : List Part) (before after : List (List Entry)) : Type 0 where
  pub count : length after ≡ length before
  pub each : (v : ℕ) → v < length before → get_or after v [] ≡ get_or before v [] ++ entries_of v row ps

-- so many empty lists
pub record AreEmpty (count : ℕ) (columns : List (List Entry)) : Type 0 where
  pub as_many : length columns ≡ count
  pub none : (v : ℕ) → get_or columns v [] ≡ []
