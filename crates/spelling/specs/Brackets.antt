-- How many brackets are open at the words of a list, this project's own. An opening sign counts at itself, and a closing
-- sign at itself still; angle brackets don't count.
use Rattle.std.specs.Prelude.{ℕ, ◌+◌, ◌-◌, max, Bool, ◌&&◌, ◌||◌, if◌then◌else◌, List, [], ◌∷◌, codes}
use Rattle.std.specs.Str.{bytes_eq}
use Rattle.spelling.specs.Words.{Word}
use Rattle.spelling.specs.Grammar.{is_sign}

abbrev pub is_opening : List ℕ → Bool
is_opening text = bytes_eq text (codes "(") || bytes_eq text (codes "[") || bytes_eq text (codes "{")

abbrev pub is_closing : List ℕ → Bool
is_closing text = bytes_eq text (codes ")") || bytes_eq text (codes "]") || bytes_eq text (codes "}")

abbrev pub opens : Word → Bool
opens word = is_sign word.kind && is_opening word.piece

abbrev pub closes : Word → Bool
closes word = is_sign word.kind && is_closing word.piece

-- how many are open at a word, and behind it, where so many are open before it
abbrev pub open_at : ℕ → Word → ℕ
open_at before word = if opens word then before + 1 else before

abbrev pub open_after : ℕ → Word → ℕ
open_after before word = if opens word then before + 1 else if closes word then before - 1 else before

-- how many are open behind the last word
abbrev pub open_behind : ℕ → List Word → ℕ
open_behind before [] = before
open_behind before (word ∷ ws) = open_behind (open_after before word) ws

-- the greatest number that is open at a word
abbrev pub most_open_from : ℕ → List Word → ℕ
most_open_from before [] = 0
most_open_from before (word ∷ ws) = max (open_at before word) (most_open_from (open_after before word) ws)

abbrev pub most_open : List Word → ℕ
most_open = most_open_from 0
