-- Which row of a table of words a word, a code or the front of a text selects. This project's own.
use Rattle.std.specs.Prelude.{◌≡◌, ◌≢◌, ◌<◌, ◌≤◌, ◌+◌, ◌==◌, [], ◌∷◌, ◌++◌, ℕ, List, Option, Some, None, map, length, take, find, All, AllPairs}
use Rattle.std.specs.Option.{option_map}
use Rattle.std.specs.Str.{bytes_eq}
use Rattle.case_table.specs.declared.rows.Case.{Case}

-- the code of the first row with this word, if there is one
unfoldable pub code_in : List Case → List ℕ → Option ℕ
code_in table word = option_map (λ row. row.code) (find (λ row. bytes_eq row.word.now word) table)

-- the word of the first row with this code, if there is one
abbrev pub word_with : List Case → ℕ → Option (List ℕ)
word_with table code = option_map (λ row. row.word.now) (find (λ row. row.code == code) table)

-- a row of the table has this word and this code
pub record HasRow (table : List Case) (word : List ℕ) (code : ℕ) : Type 0 where
  pub before : List Case
  pub row : Case
  pub after : List Case
  pub place : table ≡ before ++ row ∷ after
  pub word_is : row.word.now ≡ word
  pub code_is : row.code ≡ code

-- the word of the row isn't empty, and the text begins with it
pub record StandsInRow (text : List ℕ) (row : Case) : Type 0 where
  pub some : 0 < length row.word.now
  pub front : take (length row.word.now) text ≡ row.word.now

-- a row with this code and a word of this length stands at the head of the text; of the rows that stand there, those
-- before it are shorter, and those after it are no longer
pub record IsLongestRow (table : List Case) (text : List ℕ) (code len : ℕ) : Type 0 where
  pub before : List Case
  pub row : Case
  pub after : List Case
  pub place : table ≡ before ++ row ∷ after
  pub stands : StandsInRow text row
  pub code_is : code ≡ row.code
  pub len_is : len ≡ length row.word.now
  pub shorter : All (λ other. StandsInRow text other → length other.word.now < len) before
  pub no_longer : All (λ other. StandsInRow text other → length other.word.now ≤ len) after

-- the code and the length of the first of the longest rows that stand at the head of the text, or None where none does
unfoldable pub IsMunched : List Case → List ℕ → Option (ℕ × ℕ) → Type 0
IsMunched table text None = All (λ row. ¬ StandsInRow text row) table
IsMunched table text (Some found) = IsLongestRow table text found.0 found.1

-- two rows differ in their words and in their codes
abbrev pub IsApart : Case → Case → Type 0
IsApart row other = (row.word.now ≢ other.word.now) × (row.code ≢ other.code)

-- any two rows of the table differ in their words and in their codes
abbrev pub IsDistinctTable : List Case → Type 0
IsDistinctTable table = AllPairs IsApart table

-- a word of a list, with the number of words before it as its code
pub record IsWordAt (words : List (List ℕ)) (code : ℕ) (word : List ℕ) : Type 0 where
  pub before : List (List ℕ)
  pub after : List (List ℕ)
  pub place : words ≡ before ++ word ∷ after
  pub code_is : code ≡ length before

-- words with the numbers from `first` on
abbrev pub coded_from : ℕ → List (List ℕ) → List (List ℕ × ℕ)
coded_from first [] = []
coded_from first (word ∷ words) = (word, first) ∷ coded_from (first + 1) words

-- the rows of the table are these words, and the code of each is its place
abbrev pub ListsWords : List Case → List (List ℕ) → Type 0
ListsWords table words = map (λ row. (row.word.now, row.code)) table ≡ coded_from 0 words
