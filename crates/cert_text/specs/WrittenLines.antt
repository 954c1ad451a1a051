-- The text that is written of lines of pieces: numbers in decimal digits without leading zeros; this project's own.
use Rattle.std.specs.Prelude.{ℕ, ◌^◌, ◌<◌, List, [], ◌∷◌, ◌++◌, IsTrue}
use Rattle.std.specs.List.{AllByRecursion}
use Rattle.std.specs.Fmt.{decimal, signed_decimal}
use Rattle.elx_io.specs.Lines.{with_word, with_end}
use Rattle.int_program.specs.Stopping.{fits}
use Rattle.cert_text.specs.Pieces.{Piece}

-- the word of a piece
abbrev pub piece_text : Piece → List ℕ
piece_text (Piece.Fixed bytes) = bytes
piece_text (Piece.Named name) = name
piece_text (Piece.Number value) = signed_decimal value
piece_text (Piece.Weighted row by) = decimal row ++ 58 ∷ signed_decimal by

-- a text with the words of pieces in its last line
abbrev pub with_pieces : List ℕ → List Piece → List ℕ
with_pieces text [] = text
with_pieces text (piece ∷ pieces) = with_pieces (with_word text (piece_text piece)) pieces

-- a text with one more line, and with more lines
abbrev pub with_line : List ℕ → List Piece → List ℕ
with_line text pieces = with_end (with_pieces text pieces)

abbrev pub with_lines : List ℕ → List (List Piece) → List ℕ
with_lines text [] = text
with_lines text (pieces ∷ more) = with_lines (with_line text pieces) more

-- numbers are of 128 bits, and numbers of rows of 32
abbrev pub FitsPiece : Piece → Type 0
FitsPiece (Piece.Fixed bytes) = Unit {0}
FitsPiece (Piece.Named name) = Unit {0}
FitsPiece (Piece.Number value) = IsTrue (fits value)
FitsPiece (Piece.Weighted row by) = (row < 2 ^ 32) × IsTrue (fits by)

abbrev pub FitPieces : List Piece → Type 0
FitPieces pieces = AllByRecursion FitsPiece pieces

abbrev pub FitLines : List (List Piece) → Type 0
FitLines lines = AllByRecursion FitPieces lines
