-- Where a text can't be read on as tokens, and what an error says of that place. This project's own.
use Rattle.std.specs.Prelude.{◌≡◌, ◌<◌, ◌+◌, ℕ, true, false, List, length, slice_index}
use Rattle.std.specs.Char.{is_ascii_digit}
use Rattle.p4_lexer.specs.declared.token.Kind.{Kind}
use Rattle.p4_lexer.specs.declared.token.Token.{Token}
use Rattle.p4_lexer.specs.declared.token.LexError.{LexError}
use Rattle.p4_lexer.specs.declared.token.LexError.TheVariants.{BadByte, BadNumber, OpenComment, Memory}
use Rattle.p4_lexer.specs.Gaps.{IsSpacing}
use Rattle.p4_lexer.specs.Tokens.{IsLongest, TokensBetween}

-- `/*` stands at this place
abbrev pub IsOpening : List ℕ → ℕ → Type 0
IsOpening text at = (at + 1 < length text) × (slice_index text at ≡ 47) × (slice_index text (at + 1) ≡ 42)

-- no space and no comment begins at this place
abbrev pub HasNoSpacing : List ℕ → ℕ → Type 0
HasNoSpacing text at = (end : ℕ) → IsSpacing text at end → ⊥

-- no token begins at this place
abbrev pub HasNoToken : List ℕ → ℕ → Type 0
HasNoToken text at = (end : ℕ) (kind : Kind) → IsLongest text at end kind → ⊥

-- the text up to this place is tokens, spaces and comments, and none of these begins there
pub record IsBadPlace (text : List ℕ) (at : ℕ) : Type 0 where
  pub tokens : List Token
  pub reached : TokensBetween text 0 tokens at
  pub within : at < length text
  pub no_spacing : HasNoSpacing text at
  pub no_token : HasNoToken text at

-- what the error says of the text: the bad place, and what stands there: a digit, `/*`, or neither
abbrev pub IsBad : List ℕ → LexError → Type 0
IsBad text (BadByte at) = IsBadPlace text at × (is_ascii_digit (slice_index text at) ≡ false) × (IsOpening text at → ⊥)
IsBad text (BadNumber at) = IsBadPlace text at × (is_ascii_digit (slice_index text at) ≡ true)
IsBad text (OpenComment at) = IsBadPlace text at × IsOpening text at
IsBad text Memory = Unit {0}
