-- Lines of words, each but the first of its line after one space. This project's own.
use Rattle.std.specs.Prelude.{ℕ, ℤ, ◌-◌, ◌==◌, Bool, true, if◌then◌else◌, List, [], ◌∷◌, ◌++◌, length, slice_get}
use Rattle.std.specs.Option.{option_map_or}
use Rattle.std.specs.Fmt.{signed_decimal}

-- the last line of a text is empty: the text has no byte, or ends in LF
abbrev pub is_line_start : List ℕ → Bool
is_line_start text = option_map_or (λ b. b == 10) (slice_get text (length text - 1)) true

-- a text with one more word in its last line
abbrev pub with_word : List ℕ → List ℕ → List ℕ
with_word text word = (if is_line_start text then text else text ++ 32 ∷ []) ++ word

-- a text with one more number in its last line, in decimal digits after a minus sign where it is below 0
abbrev pub with_number : List ℕ → ℤ → List ℕ
with_number text value = with_word text (signed_decimal value)

-- a text whose last line is ended
abbrev pub with_end : List ℕ → List ℕ
with_end text = text ++ 10 ∷ []
