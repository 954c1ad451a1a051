-- What one more row does to the longest row of a table.
use Rattle.std.proofs.Common.{◌≡◌, ◌∙◌, ◌<◌, ◌≤◌, ◌+◌, ◌-◌, ℕ, List, [], ◌∷◌, ◌++◌, Option, Some, None, length, refl, ap, sym, subst, append_assoc, get_or, take, drop, arith, length-drop, ⊎_elim}
use Rattle.std.specs.Prelude.{All, AllPairs}
use Rattle.std.proofs.lemmas.List.Elements.{All-push, All-nil, All-append, All-cons}
use Rattle.std.proofs.lemmas.List.{take_more, take_all, get_or-drop, get_or_default}
use Rattle.std.proofs.lemmas.Bool.{cases_lt}
use Rattle.case_table.specs.declared.rows.Case.{Case}
use Rattle.case_table.specs.Rows.{StandsInRow, IsLongestRow, IsMunched, IsApart}

-- the length of the best row so far, or 0
abbrev pub best_len : Option (ℕ × ℕ) → ℕ
best_len None = 0
best_len (Some found) = found.1

-- no row that stands is longer than the longest
pub no_longer_row : (table : List Case) (text : List ℕ) (code len : ℕ) → IsLongestRow table text code len
    → All (λ other. StandsInRow text other → length other.word.now ≤ len) table
no_longer_row table text code len best =
    let P : Case → Type 0 = λ other. StandsInRow text other → length other.word.now ≤ len in
    let first : P best.row = λ stood. let e = best.len_is in omega (arith, e) in
    let front : All P best.before = λ k d h stood. let less = best.shorter k d h stood in omega (arith, less) in
    let Q : List Case → Type 0 = λ rows. All P rows in
    subst Q (sym best.place) (All-append P best.before (best.row ∷ best.after) front (All-cons P best.row best.after first best.no_longer))

pub munched_none : (text : List ℕ) → IsMunched [] text None
unfolding IsMunched
munched_none text = All-nil (λ row. ¬ StandsInRow text row)

-- a longer row that stands is the longest then
pub munched_longer : (table : List Case) (text : List ℕ) (best : Option (ℕ × ℕ)) (row : Case)
    → IsMunched table text best → best_len best < length row.word.now → StandsInRow text row
    → IsMunched (table ++ row ∷ []) text (Some (row.code, length row.word.now))
unfolding IsMunched
munched_longer table text None row none longer stands = record {
  before = table;
  row = row;
  after = [];
  place = refl;
  stands = stands;
  code_is = refl;
  len_is = refl;
  shorter = λ k d h stood. absurd (none k d h stood);
  no_longer = All-nil (λ other. StandsInRow text other → length other.word.now ≤ length row.word.now);
}
munched_longer table text (Some found) row best longer stands = record {
  before = table;
  row = row;
  after = [];
  place = refl;
  stands = stands;
  code_is = refl;
  len_is = refl;
  shorter = λ k d h stood. let least = no_longer_row table text found.0 found.1 best k d h stood in omega (arith, least, longer);
  no_longer = All-nil (λ other. StandsInRow text other → length other.word.now ≤ length row.word.now);
}

-- a row that doesn't stand or isn't longer changes nothing
pub munched_kept : (table : List Case) (text : List ℕ) (best : Option (ℕ × ℕ)) (row : Case)
    → IsMunched table text best → (StandsInRow text row → length row.word.now ≤ best_len best)
    → IsMunched (table ++ row ∷ []) text best
unfolding IsMunched
munched_kept table text None row none short =
    All-push (λ other. ¬ StandsInRow text other) table row none (λ stood. let some = stood.some in omega (arith, short stood, some))
munched_kept table text (Some found) row best short = record {
  before = best.before;
  row = best.row;
  after = best.after ++ row ∷ [];
  place = ap (λ rows. rows ++ row ∷ []) best.place ∙ append_assoc best.before (best.row ∷ best.after) (row ∷ []);
  stands = best.stands;
  code_is = best.code_is;
  len_is = best.len_is;
  shorter = best.shorter;
  no_longer = All-push (λ other. StandsInRow text other → length other.word.now ≤ found.1) best.after row best.no_longer short;
}

-- the rest of a list from a place on, as a range of the list gives it
pub rest_of : {X : Type 0} (n : ℕ) (xs : List X) → take (length xs - n) (drop n xs) ≡ drop n xs
rest_of n xs = let whole : length (drop n xs) ≤ length xs - n = omega (arith, length-drop n xs) in take_all (length xs - n) (drop n xs) whole

-- what a walk over the table keeps: the longest row so far, and its length, or 0
pub record IsWalked (rows : List Case) (text : List ℕ) (best : Option (ℕ × ℕ)) (len : ℕ) : Type 0 where
  pub munched : IsMunched rows text best
  pub len_is : len ≡ best_len best

pub walked_none : (text : List ℕ) → IsWalked [] text None 0
walked_none text = record { munched = munched_none text; len_is = refl }

pub walked_longer : (table : List Case) (text : List ℕ) (best : Option (ℕ × ℕ)) (len i : ℕ) (d : Case)
    → i < length table → IsWalked (take i table) text best len
    → (len < length (get_or table i d).word.now) × StandsInRow text (get_or table i d)
    → IsWalked (take (i + 1) table) text (Some ((get_or table i d).code, length (get_or table i d).word.now))
    (length (get_or table i d).word.now)
walked_longer table text best len i d within walked better =
    let Q : List Case → Type 0 = λ rows. IsMunched rows text (Some ((get_or table i d).code, length (get_or table i d).word.now)) in
    let len_is = walked.len_is in
    let longer : len < length (get_or table i d).word.now = better.0 in
    let more : best_len best < length (get_or table i d).word.now = omega arith in
    record {
      munched = subst Q (sym (take_more table i d within)) (munched_longer (take i table) text best (get_or table i d) walked.munched more better.1);
      len_is = refl;
    }

pub walked_kept : (table : List Case) (text : List ℕ) (best : Option (ℕ × ℕ)) (len i : ℕ) (d : Case)
    → i < length table → IsWalked (take i table) text best len
    → ((len < length (get_or table i d).word.now) × StandsInRow text (get_or table i d) → ⊥)
    → IsWalked (take (i + 1) table) text best len
walked_kept table text best len i d within walked worse =
    let Q : List Case → Type 0 = λ rows. IsMunched rows text best in
    let len_is = walked.len_is in
    let short : StandsInRow text (get_or table i d) → length (get_or table i d).word.now ≤ best_len best = λ stood.
    ⊎_elim (λ less. absurd (worse (less, stood))) (λ most. omega (arith, most)) (cases_lt len (length (get_or table i d).word.now)) in
    record {
      munched = subst Q (sym (take_more table i d within)) (munched_kept (take i table) text best (get_or table i d) walked.munched short);
      len_is = walked.len_is;
    }

-- a row differs from each row behind it exactly where it differs from each of the rest of the table
pub apart_in_rest : (table : List Case) (i j : ℕ) (d : Case) → i < j → j < length table
    → All (IsApart (get_or table i d)) (drop (i + 1) table) → IsApart (get_or table i d) (get_or table j d)
apart_in_rest table i j d less within rest =
    let k : ℕ = j - (i + 1) in
    let sum_is : (i + 1) + k ≡ j = omega arith in
    let inside : k < length (drop (i + 1) table) = omega (arith, length-drop (i + 1) table) in
    let P : Case → Type 0 = λ other. IsApart (get_or table i d) other in
    subst P (get_or-drop (i + 1) table k d ∙ ap (λ n. get_or table n d) sum_is) (rest k d inside)

pub rest_is_apart : (table : List Case) (i : ℕ) (d : Case) → i < length table → AllPairs IsApart table
    → All (IsApart (get_or table i d)) (drop (i + 1) table)
rest_is_apart table i d within pairs k e inside =
    let place : (i + 1) + k < length table = omega (arith, length-drop (i + 1) table) in
    let P : Case → Type 0 = λ row. IsApart row (get_or (drop (i + 1) table) k e) in
    let Q : Case → Type 0 = λ other. IsApart (get_or table i e) other in
    let behind : i < (i + 1) + k = omega arith in
    subst P (get_or_default table i e d within) (subst Q (sym (get_or-drop (i + 1) table k e)) (pairs i ((i + 1) + k) e behind place))

-- the row that a place past the end of a table would give
abbrev pub no_row : Case
no_row = record { word = record { ref_ptr = (0, 0); now = [] }; code = 0 }

pub apart_at_any : (table : List Case) (i : ℕ) → i < length table
    → All (IsApart (get_or table i no_row)) (take (length table - (i + 1)) (drop (i + 1) table))
    → (d : Case) → All (IsApart (get_or table i d)) (drop (i + 1) table)
apart_at_any table i within apart d =
    let P : Case → Type 0 = λ row. All (IsApart row) (drop (i + 1) table) in
    let Q : List Case → Type 0 = λ rows. All (IsApart (get_or table i no_row)) rows in
    subst P (get_or_default table i no_row d within) (subst Q (rest_of (i + 1) table) apart)

pub range_is_apart : (table : List Case) (i : ℕ) → i < length table → AllPairs IsApart table
    → All (IsApart (get_or table i no_row)) (take (length table - (i + 1)) (drop (i + 1) table))
range_is_apart table i within apart =
    let Q : List Case → Type 0 = λ rows. All (IsApart (get_or table i no_row)) rows in
    subst Q (sym (rest_of (i + 1) table)) (rest_is_apart table i no_row within apart)

-- at the end of the walk, with the text as a range of a longer one gives it
pub walked_all : (table : List Case) (text : List ℕ) (at : ℕ) (best : Option (ℕ × ℕ)) (len i : ℕ) → length table ≤ i
    → IsWalked (take i table) (take (length text - at) (drop at text)) best len → IsMunched table (drop at text) best
walked_all table text at best len i past walked =
    let P : List Case → Type 0 = λ rows. IsMunched rows (take (length text - at) (drop at text)) best in
    let Q : List ℕ → Type 0 = λ rest. IsMunched table rest best in
    subst Q (rest_of at text) (subst P (take_all i table past) walked.munched)
