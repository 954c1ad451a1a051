-- Lines of words, one space between them and a line feed at the end, and what their words spell: fixed words, names, and decimal
-- numbers of 128 bits with leading zeros or without; this project's own.
use Rattle.std.specs.Prelude.{◌≡◌, ◌⊎◌, ℕ, ℤ, pos, neg_ℤ, List, [], ◌∷◌, ◌++◌, IsTrue}
use Rattle.std.specs.Str.Parse.{IsNumeral, digits_value}
use Rattle.elastic_ast.specs.Tree.{Name}
use Rattle.p4_lexer.specs.Pieces.{IsNamePiece}
use Rattle.int_program.specs.Stopping.{fits}

-- what a word of a line spells: fixed bytes, a name, a number, or a row's number and its weight
pub data Piece : Type 0 where
  Fixed : List ℕ → Piece
  Named : Name → Piece
  Number : ℤ → Piece
  Weighted : ℕ → ℤ → Piece

-- digits
pub record IsPlain (word : List ℕ) (value : ℤ) : Type 0 where
  pub digits : IsNumeral 10 word
  pub is : value ≡ pos (digits_value 10 word)

-- a minus sign and digits
pub record IsMinus (word : List ℕ) (value : ℤ) : Type 0 where
  pub rest : List ℕ
  pub begun : word ≡ 45 ∷ rest
  pub digits : IsNumeral 10 rest
  pub is : value ≡ neg_ℤ (pos (digits_value 10 rest))

-- a number of 128 bits
pub record IsNumber (word : List ℕ) (value : ℤ) : Type 0 where
  pub small : IsTrue (fits value)
  pub spelled : IsPlain word value ⊎ IsMinus word value

-- two numbers with a colon between them
pub record IsWeighted (word : List ℕ) (row by : ℤ) : Type 0 where
  pub first : List ℕ
  pub second : List ℕ
  pub row_is : IsNumber first row
  pub by_is : IsNumber second by
  pub joined : word ≡ first ++ 58 ∷ second

abbrev pub SpellsPiece : Piece → List ℕ → Type 0
SpellsPiece (Piece.Fixed bytes) word = word ≡ bytes
SpellsPiece (Piece.Named name) word = IsNamePiece name × (word ≡ name)
SpellsPiece (Piece.Number value) word = IsNumber word value
SpellsPiece (Piece.Weighted row by) word = IsWeighted word (pos row) by

-- each word spells its piece
abbrev pub SpellsPieces : List Piece → List (List ℕ) → Type 0
SpellsPieces [] [] = Unit {0}
SpellsPieces [] (word ∷ words) = ⊥
SpellsPieces (piece ∷ pieces) [] = ⊥
SpellsPieces (piece ∷ pieces) (word ∷ words) = SpellsPiece piece word × SpellsPieces pieces words

-- words, each behind a space
abbrev pub behind_spaces : List (List ℕ) → List ℕ
behind_spaces [] = []
behind_spaces (word ∷ words) = 32 ∷ (word ++ behind_spaces words)

-- words with one space between them
abbrev pub spaced : List (List ℕ) → List ℕ
spaced [] = []
spaced (word ∷ words) = word ++ behind_spaces words

pub record IsLine (pieces : List Piece) (line : List ℕ) : Type 0 where
  pub words : List (List ℕ)
  pub spelled : SpellsPieces pieces words
  pub is : line ≡ spaced words

-- the text has these lines, each ended by a line feed, and nothing more
abbrev pub IsText : List (List Piece) → List ℕ → Type 0
IsText [] text = text ≡ []
IsText (pieces ∷ more) text = (line : List ℕ) × (rest : List ℕ) × IsLine pieces line × (text ≡ line ++ 10 ∷ rest) × IsText more rest
