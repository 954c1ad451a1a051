-- The commands, by the words that name them, and the files that each reads; this project's own.
use Rattle.std.specs.Prelude.{ℕ, List, [], ◌∷◌, map, Option, Some, None, codes, bytes_eq, if◌then◌else◌}
use denote.Bor.{Bor}
use Rattle.elx_io.specs.Files.{Files, bytes_at}

-- `size SRC TARGET`, with the names of the two files
pub data Command : Type 0 where
  Size : List ℕ → List ℕ → Command

abbrev word_text : Bor (List ℕ) → List ℕ
word_text word = word.now

-- the command `size` with the words after it: there are two
abbrev pub size_given : List (List ℕ) → Option Command
size_given (source ∷ target ∷ []) = Some (Size source target)
size_given _ = None

-- the command that words name, if they name one
abbrev pub command_of : List (List ℕ) → Option Command
command_of [] = None
command_of (word ∷ words) = if bytes_eq word (codes "size") then size_given words else None

-- the words of a run as texts
abbrev pub texts_of : List (Bor (List ℕ)) → List (List ℕ)
texts_of words = map word_text words

abbrev pub command_in : List (Bor (List ℕ)) → Option Command
command_in words = command_of (texts_of words)

abbrev pub size_in : List (Bor (List ℕ)) → Option Command
size_in words = size_given (texts_of words)

-- the names of the files that a command reads, in order
abbrev pub files_read : Command → List (List ℕ)
files_read (Size source target) = source ∷ target ∷ []

-- what these files hold, by what a shelf holds
abbrev pub contents_of : Command → Files → List (List ℕ)
contents_of command files = map (bytes_at files) (files_read command)
