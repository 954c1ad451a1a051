-- What may stand between two tokens: spaces and whole comments. This project's own.
use Rattle.std.specs.Prelude.{◌≡◌, ◌≢◌, ◌+◌, ◌<◌, ◌≤◌, ◌==◌, ◌||◌, ◌⊎◌, [], ◌∷◌, ℕ, Bool, true, List, length, slice_index}

-- a space, a tab, a carriage return or a line feed
abbrev pub is_space : ℕ → Bool
is_space byte = byte == 32 || byte == 9 || byte == 13 || byte == 10

-- `*/` stands at this place
abbrev pub IsClose : List ℕ → ℕ → Type 0
IsClose text at = (at + 1 < length text) × (slice_index text at ≡ 42) × (slice_index text (at + 1) ≡ 47)

-- one space
pub record IsSpaceAt (text : List ℕ) (at end : ℕ) : Type 0 where
  pub within : at < length text
  pub end_is : end ≡ at + 1
  pub space : is_space (slice_index text at) ≡ true

-- `//` and all up to the next line feed, which isn't of it, or to the end of the text
pub record IsLineComment (text : List ℕ) (at end : ℕ) : Type 0 where
  pub long : at + 2 ≤ end
  pub within : end ≤ length text
  pub first : slice_index text at ≡ 47
  pub second : slice_index text (at + 1) ≡ 47
  pub one_line : (k : ℕ) → at + 2 ≤ k → k < end → slice_index text k ≢ 10
  pub stop : end < length text → slice_index text end ≡ 10

-- `/*` and all up to the next `*/` that begins behind it, this one included
pub record IsBlockComment (text : List ℕ) (at end : ℕ) : Type 0 where
  pub long : at + 4 ≤ end
  pub within : end ≤ length text
  pub first : slice_index text at ≡ 47
  pub second : slice_index text (at + 1) ≡ 42
  pub open_before : (k : ℕ) → at + 2 ≤ k → k + 2 < end → IsClose text k → ⊥
  pub closed : (k : ℕ) → k + 2 ≡ end → IsClose text k

-- one space or one comment stands in the text from `at` to `end`
abbrev pub IsSpacing : List ℕ → ℕ → ℕ → Type 0
IsSpacing text at end = IsSpaceAt text at end ⊎ IsLineComment text at end ⊎ IsBlockComment text at end

-- the text from `from` to `to` is one space or comment behind another, which end at the places listed
unfoldable pub SpacingBy : List ℕ → ℕ → List ℕ → ℕ → Type 0
SpacingBy text from [] to = from ≡ to
SpacingBy text from (end ∷ ends) to = IsSpacing text from end × SpacingBy text end ends to

-- the text from `from` to `to` is nothing but spaces and comments
pub record IsGap (text : List ℕ) (from to : ℕ) : Type 0 where
  pub ends : List ℕ
  pub spacing : SpacingBy text from ends to
