-- What a look-up in a table says of the table's rows.
use Rattle.std.proofs.Common.{◌≡◌, ◌∙◌, ◌<◌, ◌≤◌, ◌+◌, ℕ, Bool, true, false, cond, List, [], ◌∷◌, ◌++◌, Some, None, map, add-one, length, length-take, refl, ap, sym, subst, take, arith}
use Rattle.std.specs.Prelude.{All, find}
use Rattle.std.specs.Option.{option_map}
use Rattle.std.specs.List.{list_all}
use Rattle.std.specs.Bool.{Decides}
use Rattle.std.proofs.lemmas.List.{length-take-le}
use Rattle.std.proofs.lemmas.List.Elements.{All-tail}
use Rattle.std.proofs.lemmas.List.Sums.{AllPass-from_list_all}
use Rattle.std.proofs.lemmas.Bool.{false≢true}
use Rattle.std.specs.Str.{bytes_eq}
use Rattle.std.proofs.lemmas.Slice.Eq.{bytes_eq-Decides}
use Rattle.case_table.specs.declared.rows.Case.{Case}
use Rattle.case_table.specs.Rows.{code_in, HasRow, StandsInRow, IsLongestRow, IsMunched, IsWordAt, ListsWords, coded_from}
use Rattle.case_table.proofs.RowLemmas.{no_longer_row}

row_at_head : (row : Case) (rows : List Case) (word : List ℕ) (code : ℕ) → row.word.now ≡ word → row.code ≡ code → HasRow (row ∷ rows) word code
row_at_head row rows word code word_is code_is = record { before = []; row = row; after = rows; place = refl; word_is = word_is; code_is = code_is }

row_behind : (row : Case) (rows : List Case) (word : List ℕ) (code : ℕ) → HasRow rows word code → HasRow (row ∷ rows) word code
row_behind row rows word code has = record {
  before = row ∷ has.before;
  row = has.row;
  after = has.after;
  place = ap (λ more. row ∷ more) has.place;
  word_is = has.word_is;
  code_is = has.code_is;
}

found_step : (row : Case) (rows : List Case) (word : List ℕ) (code : ℕ) (same : Bool) → Decides same (row.word.now ≡ word)
    → (code_in rows word ≡ Some code → HasRow rows word code)
    → option_map (λ each. each.code) (cond same (Some row) (find (λ each. bytes_eq each.word.now word) rows)) ≡ Some code
    → HasRow (row ∷ rows) word code
unfolding code_in
found_step row rows word code true is rest found = row_at_head row rows word code (is.0 refl) (cc found)
found_step row rows word code false is rest found = row_behind row rows word code (rest found)

-- a code that is found stands in a row with the word
pub code_of_some : (table : List Case) (word : List ℕ) (code : ℕ) → code_in table word ≡ Some code → HasRow table word code
unfolding code_in
code_of_some [] word code found = absurd (cc found)
code_of_some (row ∷ rows) word code found =
    found_step row rows word code (bytes_eq row.word.now word) (bytes_eq-Decides row.word.now word) (code_of_some rows word code) found

lost_step : (row : Case) (rows : List Case) (word : List ℕ) (same : Bool) → Decides same (row.word.now ≡ word)
    → option_map (λ each. each.code) (cond same (Some row) (find (λ each. bytes_eq each.word.now word) rows)) ≡ None
    → (row.word.now ≡ word → ⊥) × (code_in rows word ≡ None)
unfolding code_in
lost_step row rows word true is none = absurd (cc none)
lost_step row rows word false is none = (λ same. false≢true (is.1 same), none)

lost_at : (before : List Case) (row : Case) (after : List Case) (word : List ℕ) → code_in (before ++ row ∷ after) word ≡ None → row.word.now ≡ word → ⊥
unfolding code_in
lost_at [] row after word none = (lost_step row after word (bytes_eq row.word.now word) (bytes_eq-Decides row.word.now word) none).0
lost_at (first ∷ before) row after word none =
    lost_at before row after word (lost_step first (before ++ row ∷ after) word (bytes_eq first.word.now word) (bytes_eq-Decides first.word.now word) none).1

-- where no code is found, no row has the word
pub code_of_none : (table : List Case) (word : List ℕ) (code : ℕ) → code_in table word ≡ None → HasRow table word code → ⊥
code_of_none table word code none has =
    let P : List Case → Type 0 = λ rows. code_in rows word ≡ None in
    lost_at has.before has.row has.after word (subst P has.place none) has.word_is

-- the longest row is a row of the table, whose word the text begins with
pub longest_has_row : (table : List Case) (text : List ℕ) (code len : ℕ) → IsLongestRow table text code len → HasRow table (take len text) code
longest_has_row table text code len best = record {
  before = best.before;
  row = best.row;
  after = best.after;
  place = best.place;
  word_is = sym (ap (λ n. take n text) best.len_is ∙ best.stands.front);
  code_is = sym best.code_is;
}

pub longest_some : (table : List Case) (text : List ℕ) (code len : ℕ) → IsLongestRow table text code len → 0 < len
longest_some table text code len best = let e = best.len_is in let some = best.stands.some in omega arith

pub longest_within : (table : List Case) (text : List ℕ) (code len : ℕ) → IsLongestRow table text code len → len ≤ length text
longest_within table text code len best = let e = best.len_is in let l = ap length best.stands.front in omega (arith, length-take (length best.row.word.now) text, l)

-- what holds of each row holds of one
of_row : (P : Case → Type 0) (before : List Case) (row : Case) (after : List Case) → All P (before ++ row ∷ after) → P row
of_row P [] row after all = all 0 row (omega arith)
of_row P (first ∷ before) row after all = of_row P before row after (All-tail P first (before ++ row ∷ after) all)

stands_here : (text : List ℕ) (n : ℕ) (row : Case) → 0 < n → n ≤ length text → row.word.now ≡ take n text → StandsInRow text row × (length row.word.now ≡ n)
stands_here text n row some within is =
    let len : length row.word.now ≡ n = ap length is ∙ length-take-le n text within in
    (record { some = omega arith; front = ap (λ m. take m text) len ∙ sym is }, len)

-- no row whose word stands at the head of a text is longer than the longest
pub longest_bounds : (table : List Case) (text : List ℕ) (code len : ℕ) → IsLongestRow table text code len
    → (n other : ℕ) → 0 < n → n ≤ length text → HasRow table (take n text) other → n ≤ len
longest_bounds table text code len best n other some within has =
    let P : Case → Type 0 = λ row. StandsInRow text row → length row.word.now ≤ len in
    let Q : List Case → Type 0 = λ rows. All P rows in
    let here = stands_here text n has.row some within has.word_is in
    let most : length has.row.word.now ≤ len = of_row P has.before has.row has.after (subst Q has.place (no_longer_row table text code len best)) here.0 in
    let is : length has.row.word.now ≡ n = here.1 in
    omega arith

-- where no row stands, no word of the table stands at the head of the text
pub none_stands : (table : List Case) (text : List ℕ) → IsMunched table text None
    → (n other : ℕ) → 0 < n → n ≤ length text → HasRow table (take n text) other → ⊥
unfolding IsMunched
none_stands table text none n other some within has =
    let P : Case → Type 0 = λ row. ¬ StandsInRow text row in
    let Q : List Case → Type 0 = λ rows. All P rows in
    of_row P has.before has.row has.after (subst Q has.place none) (stands_here text n has.row some within has.word_is).0

length-cons : {X : Type 0} (x : X) (xs : List X) → length (x ∷ xs) ≡ length xs + 1
length-cons x xs = sym (add-one (length xs))

abbrev SamePair : Case → List ℕ → ℕ → Type 0
SamePair row word code = let pair : List ℕ × ℕ = (row.word.now, row.code) in pair ≡ (word, code)

record Cut (words : List (List ℕ)) (first : ℕ) (row : Case) : Type 0 where
  before : List (List ℕ)
  after : List (List ℕ)
  place : words ≡ before ++ row.word.now ∷ after
  code_is : row.code ≡ first + length before

cut_at : (first : ℕ) (before : List Case) (row : Case) (after : List Case) (words : List (List ℕ))
    → map (λ each. (each.word.now, each.code)) (before ++ row ∷ after) ≡ coded_from first words → Cut words first row
cut_at first [] row after [] same = absurd (cc same)
cut_at first [] row after (word ∷ words) same =
    let pair : SamePair row word first = cc same in
    let head : row.word.now ≡ word = ap (λ each. each.0) pair in
    let code : row.code ≡ first = ap (λ each. each.1) pair in
    record { before = []; after = words; place = ap (λ each. each ∷ words) (sym head); code_is = omega (arith, code) }
cut_at first (row' ∷ before) row after [] same = absurd (cc same)
cut_at first (row' ∷ before) row after (word ∷ words) same =
    let rest : map (λ each. (each.word.now, each.code)) (before ++ row ∷ after) ≡ coded_from (first + 1) words = cc same in
    let cut = cut_at (first + 1) before row after words rest in
    let code = cut.code_is in
    record {
      before = word ∷ cut.before;
      after = cut.after;
      place = ap (λ more. word ∷ more) cut.place;
      code_is = omega (arith, code, length-cons word cut.before);
    }

-- a row's word stands in the list at the row's code
pub word_of_row : (table : List Case) (words : List (List ℕ)) (word : List ℕ) (code : ℕ) → ListsWords table words
    → HasRow table word code → IsWordAt words code word
word_of_row table words word code lists has =
    let P : List Case → Type 0 = λ rows. map (λ each. (each.word.now, each.code)) rows ≡ coded_from 0 words in
    let cut = cut_at 0 has.before has.row has.after words (subst P has.place lists) in
    let code_of_row = cut.code_is in
    let same = has.code_is in
    record {
      before = cut.before;
      after = cut.after;
      place = cut.place ∙ ap (λ each. cut.before ++ each ∷ cut.after) has.word_is;
      code_is = omega (arith, code_of_row, same);
    }

row_at : (first : ℕ) (table : List Case) (before : List (List ℕ)) (word : List ℕ) (after : List (List ℕ)) (code : ℕ)
    → map (λ each. (each.word.now, each.code)) table ≡ coded_from first (before ++ word ∷ after) → code ≡ first + length before
    → HasRow table word code
row_at first [] [] word after code same is = absurd (cc same)
row_at first [] (other ∷ before) word after code same is = absurd (cc same)
row_at first (row ∷ table) [] word after code same is =
    let pair : SamePair row word first = cc same in
    let code_of_row : row.code ≡ first = ap (λ each. each.1) pair in
    row_at_head row table word code (ap (λ each. each.0) pair) (omega (arith, code_of_row, is))
row_at first (row ∷ table) (other ∷ before) word after code same is =
    row_behind row table word code
    (row_at (first + 1) table before word after code (cc same) (omega (arith, is, length-cons other before)))

-- a word of the list stands in a row with its place as its code
pub row_of_word : (table : List Case) (words : List (List ℕ)) (word : List ℕ) (code : ℕ) → ListsWords table words
    → IsWordAt words code word → HasRow table word code
row_of_word table words word code lists at =
    let P : List (List ℕ) → Type 0 = λ list. map (λ each. (each.word.now, each.code)) table ≡ coded_from 0 list in
    let is = at.code_is in
    row_at 0 table at.before word at.after code (subst P at.place lists) (omega (arith, is))

word_in : (test : List ℕ → Bool) (before : List (List ℕ)) (word : List ℕ) (after : List (List ℕ)) → All (λ each. test each ≡ true) (before ++ word ∷ after) → test word ≡ true
word_in test [] word after all = all 0 word (omega arith)
word_in test (first ∷ before) word after all = word_in test before word after (All-tail (λ each. test each ≡ true) first (before ++ word ∷ after) all)

-- a test that each word of a list passes is passed by a word that stands there
pub tested_word : (test : List ℕ → Bool) (words : List (List ℕ)) (word : List ℕ) (code : ℕ) → list_all test words ≡ true
    → IsWordAt words code word → test word ≡ true
tested_word test words word code all at =
    let P : List (List ℕ) → Type 0 = λ list. list_all test list ≡ true in
    word_in test at.before word at.after (AllPass-from_list_all test (at.before ++ word ∷ at.after) (subst P at.place all))
