-- Which bytes are a token of each kind, whatever stands around them. This project's own.
use Rattle.std.specs.Prelude.{◌≡◌, ◌<◌, ◌==◌, ◌||◌, ◌⊎◌, [], ◌∷◌, ◌++◌, ℕ, Bool, false, List, length, codes, slice_index}
use Rattle.std.specs.Char.{is_ascii_alphanumeric, is_ascii_digit}
use Rattle.std.specs.List.{AllPass}
use Rattle.case_table.specs.Rows.{IsWordAt}
use Rattle.p4_lexer.specs.declared.token.Kind.{Kind}
use Rattle.p4_lexer.specs.declared.token.Kind.TheVariants.{Reserved, Sign, Name, Number, Include}
use Rattle.p4_lexer.specs.Numbers.{IsNumberText}

-- the reserved words; the code of each is the number of those before it
unfoldable pub reserved_words : List (List ℕ)
reserved_words =
    codes "action" ∷ codes "bit" ∷ codes "const" ∷ codes "control" ∷ codes "default" ∷ codes "else" ∷
    codes "false" ∷ codes "for" ∷ codes "header" ∷ codes "if" ∷ codes "in" ∷ codes "inout" ∷
    codes "int" ∷ codes "out" ∷ codes "parser" ∷ codes "select" ∷ codes "state" ∷ codes "struct" ∷
    codes "symbolic" ∷ codes "table" ∷ codes "transition" ∷ codes "true" ∷ codes "_" ∷ []

-- the signs; the code of each is the number of those before it
unfoldable pub signs : List (List ℕ)
signs =
    codes "{" ∷ codes "}" ∷ codes "(" ∷ codes ")" ∷ codes "[" ∷ codes "]" ∷ codes "<" ∷ codes ">" ∷
    codes ";" ∷ codes ":" ∷ codes "," ∷ codes "." ∷ codes "=" ∷ codes "+" ∷ codes "-" ∷ codes "*" ∷
    codes "&" ∷ codes "|" ∷ codes "^" ∷ codes "~" ∷ codes "!" ∷ codes "++" ∷ codes "==" ∷
    codes "!=" ∷ codes "<=" ∷ codes ">=" ∷ codes "&&" ∷ codes "||" ∷ codes "<<" ∷ codes "&&&" ∷
    codes "@" ∷ []

-- a letter of ASCII, a digit or `_`
abbrev pub is_word_byte : ℕ → Bool
is_word_byte byte = is_ascii_alphanumeric byte || byte == 95

-- a space or a tab
abbrev pub is_blank : ℕ → Bool
is_blank byte = byte == 32 || byte == 9

-- a letter or `_`, then letters, digits and `_`, and no reserved word
pub record IsNamePiece (piece : List ℕ) : Type 0 where
  pub some : 0 < length piece
  pub bytes : AllPass is_word_byte piece
  pub first : is_ascii_digit (slice_index piece 0) ≡ false
  pub free : (code : ℕ) → IsWordAt reserved_words code piece → ⊥

-- the files that a program may include, by their numbers
abbrev pub IsFile : ℕ → List ℕ → Type 0
IsFile code file = ((code ≡ 0) × (file ≡ codes "<core.p4>")) ⊎ ((code ≡ 1) × (file ≡ codes "<pisa.p4>"))

-- `#include`, one or more spaces or tabs, and the file
pub record IsInclude (code : ℕ) (piece : List ℕ) : Type 0 where
  pub blanks : List ℕ
  pub file : List ℕ
  pub split : piece ≡ codes "#include" ++ blanks ++ file
  pub some : 0 < length blanks
  pub blank : AllPass is_blank blanks
  pub file_is : IsFile code file

-- the bytes are a piece of this kind
abbrev pub IsPiece : Kind → List ℕ → Type 0
IsPiece (Reserved code) piece = IsWordAt reserved_words code piece
IsPiece (Sign code) piece = IsWordAt signs code piece
IsPiece Name piece = IsNamePiece piece
IsPiece (Number width value) piece = IsNumberText width value piece
IsPiece (Include code) piece = IsInclude code piece

-- the kind is that of a number
abbrev pub IsNumberKind : Kind → Type 0
IsNumberKind (Reserved code) = ⊥
IsNumberKind (Sign code) = ⊥
IsNumberKind Name = ⊥
IsNumberKind (Number width value) = Unit {0}
IsNumberKind (Include code) = ⊥
