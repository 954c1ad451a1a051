-- The tokens of a text: at each place where no space and no comment stands, the longest piece there. This project's own.
use Rattle.std.specs.Prelude.{◌≡◌, ◌<◌, ◌≤◌, ◌+◌, [], ◌∷◌, ℕ, false, List, length, slice_index, slice_range}
use Rattle.case_table.specs.Rows.{IsWordAt}
use Rattle.p4_lexer.specs.declared.token.Kind.{Kind}
use Rattle.p4_lexer.specs.declared.token.Token.{Token}
use Rattle.p4_lexer.specs.Gaps.{IsGap}
use Rattle.p4_lexer.specs.Pieces.{is_word_byte, signs, IsPiece, IsNumberKind}

-- the longest piece of any kind that begins at `at` ends at `end`, and is of this kind; behind a number stands no
-- letter, digit or `_`
pub record IsLongest (text : List ℕ) (at end : ℕ) (kind : Kind) : Type 0 where
  pub some : at < end
  pub within : end ≤ length text
  pub piece : IsPiece kind (slice_range text at end)
  pub longest : (other : Kind) (n : ℕ) → at < n → n ≤ length text → IsPiece other (slice_range text at n) → n ≤ end
  pub alone : IsNumberKind kind → end < length text → is_word_byte (slice_index text end) ≡ false

-- from `from` to `to`, the text is these tokens, with nothing but spaces and comments before, between and behind them
unfoldable pub TokensBetween : List ℕ → ℕ → List Token → ℕ → Type 0
TokensBetween text from [] to = IsGap text from to
TokensBetween text from (token ∷ tokens) to =
    IsGap text from token.at × IsLongest text token.at token.end token.kind × TokensBetween text token.end tokens to

-- the text is these tokens, with nothing but spaces and comments before, between and behind them
abbrev pub TokensOf : List ℕ → List Token → Type 0
TokensOf text tokens = TokensBetween text 0 tokens (length text)

-- the token begins at `at` and is the longest piece there
pub record IsTokenAt (text : List ℕ) (at : ℕ) (token : Token) : Type 0 where
  pub at_is : token.at ≡ at
  pub longest : IsLongest text token.at token.end token.kind

-- the token isn't empty, and lies within a text of this length
pub record LiesWithin (len : ℕ) (token : Token) : Type 0 where
  pub some : token.at < token.end
  pub within : token.end ≤ len

-- a sign stands at `at` that has this code and length, and no longer sign stands there
pub record IsLongestSign (text : List ℕ) (at : ℕ) (code len : ℕ) : Type 0 where
  pub some : 0 < len
  pub within : at + len ≤ length text
  pub sign : IsWordAt signs code (slice_range text at (at + len))
  pub longest : (other n : ℕ) → at < n → n ≤ length text → IsWordAt signs other (slice_range text at n) → n ≤ at + len
