-- What a search in a text answers: what it looks for, or nothing where that isn't there; this project's own.
use Rattle.std.specs.Prelude.{◌≡◌, ℕ, ◌^◌, ◌<◌, ◌≤◌, true, List, length, slice_index, slice_range, Option, MatchOption}
use Rattle.std.specs.Char.{is_ascii_digit}
use Rattle.case_table.specs.Rows.{IsWordAt}
use Rattle.p4_lexer.specs.declared.token.Kind.{Kind}
use Rattle.p4_lexer.specs.Numbers.{IsNumberText, IsNoNumber, IsInBase}
use Rattle.p4_lexer.specs.Pieces.{signs, IsPiece}
use Rattle.p4_lexer.specs.Tokens.{IsLongestSign}

-- a number for which it holds, or none where it holds for no number
abbrev pub IsFound : (ℕ → Type 0) → Option ℕ → Type 0
IsFound IsThis result = MatchOption result ((n : ℕ) → IsThis n → ⊥) IsThis

-- it holds at each place from one up to another
abbrev pub AllBetween : ℕ → ℕ → (ℕ → Type 0) → Type 0
AllBetween from end IsThis = (k : ℕ) → from ≤ k → k < end → IsThis k

-- a number doesn't fit 128 bits
abbrev pub IsTooGreat : ℕ → Type 0
IsTooGreat value = 2 ^ 128 ≤ value

-- the width, if there is one, and the value of the number that a text is
abbrev pub IsNumberRead : List ℕ → Option (Option ℕ × ℕ) → Type 0
IsNumberRead text result = MatchOption result (IsNoNumber text) (λ found. IsNumberText found.0 found.1 text)

-- the value of digits in a base, or none where it doesn't fit 128 bits or they aren't digits of the base
abbrev pub IsSmallInBase : ℕ → List ℕ → Option ℕ → Type 0
IsSmallInBase base digits result = MatchOption result ((value : ℕ) → value < 2 ^ 128 → IsInBase base value digits → ⊥) (λ value. IsInBase base value digits)

-- the kind of a word, or none where it begins with a digit and is no number
abbrev pub IsPieceRead : List ℕ → Option Kind → Type 0
IsPieceRead word result = MatchOption result ((is_ascii_digit (slice_index word 0) ≡ true) × IsNoNumber word) (λ kind. IsPiece kind word)

-- the longest sign at a place, or none where no sign stands there
abbrev pub IsSignRead : List ℕ → ℕ → Option (ℕ × ℕ) → Type 0
IsSignRead text at result =
    MatchOption result ((code end : ℕ) → at < end → end ≤ length text → IsWordAt signs code (slice_range text at end) → ⊥)
    (λ found. IsLongestSign text at found.0 found.1)
