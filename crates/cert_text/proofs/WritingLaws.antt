-- That what is written of lines has those lines.
use Rattle.std.proofs.Common.{◌≡◌, ℕ, suc, ◌-◌, ◌^◌, ◌<◌, List, [], ◌∷◌, ◌++◌, length, map, Bool, true, false, refl, sym, ap, ◌∙◌, subst, eqb-true, append-nil, append_assoc, arith, inl, inr, ℤ, pos, negsuc}
use Rattle.std.specs.Prelude.{◌==◌, ◌⊎◌, slice_get, IsTrue, All, neg_ℤ, if◌then◌else◌}
use Rattle.std.specs.List.{AllByRecursion}
use Rattle.std.specs.Option.{option_map_or}
use Rattle.std.specs.Char.{digit_value}
use Rattle.std.specs.Fmt.{decimal, signed_decimal}
use Rattle.std.specs.Str.Parse.{IsNumeral, AllDigits}
use Rattle.std.proofs.lemmas.Int.{ints}
use Rattle.std.proofs.lemmas.Bool.{and_from, and_parts}
use Rattle.std.specs.Prelude.{int_le, int_lt}
use Rattle.std.proofs.lemmas.Fmt.{decimal_is_IsNumeral_wide}
use Rattle.elx_io.specs.Lines.{is_line_start, with_word, with_end}
use Rattle.int_program.specs.Stopping.{fits}
use Rattle.p4_lexer.specs.Pieces.{IsNamePiece, is_word_byte}
use Rattle.cert_text.specs.Pieces.{Piece, IsPlain, IsMinus, IsNumber, SpellsPiece, SpellsPieces, behind_spaces, spaced, IsText}
use Rattle.cert_text.specs.WrittenLines.{piece_text, with_pieces, with_line, with_lines, FitsPiece, FitPieces, FitLines}

-- a text that isn't at the start of a line
abbrev IsOpen : List ℕ → Type 0
IsOpen text = is_line_start text ≡ false

-- the first of two bytes or more says nothing of the last line
later : (b c : ℕ) (rest : List ℕ) → is_line_start (b ∷ c ∷ rest) ≡ is_line_start (c ∷ rest)
later b c rest = ap (λ k. option_map_or (λ x. x == 10) (slice_get (b ∷ c ∷ rest) k) true) at
  where
    at : length (b ∷ c ∷ rest) - 1 ≡ suc (length (c ∷ rest) - 1)
    at = omega arith

-- bytes of a property that a line feed hasn't
open_all : (P : ℕ → Type 0) → (P 10 → ⊥) → (word : List ℕ) → 0 < length word → AllByRecursion P word → IsOpen word
open_all P apart [] some all = absurd (omega (arith, some))
open_all P apart (b ∷ []) some all = by (b == 10) refl
  where
    by : (v : Bool) → (b == 10) ≡ v → v ≡ false
    by false e = refl
    by true e = absurd (apart (subst P (eqb-true b 10 e) all.0))
open_all P apart (b ∷ c ∷ word) some all = later b c word ∙ open_all P apart (c ∷ word) (omega arith) all.1

open_digits : (word : List ℕ) → IsNumeral 10 word → IsOpen word
open_digits word is = open_all (λ c. digit_value c < 10) (λ h. omega (arith, h)) word is.0 (each word is.1)
  where
    each : (word : List ℕ) → AllDigits 10 word → AllByRecursion (λ c. digit_value c < 10) word
    each [] all = tt
    each (c ∷ word) all = (all.0, each word all.1)

open_name : (name : List ℕ) → IsNamePiece name → IsOpen name
open_name name is = open_all (λ b. is_word_byte b ≡ true) (λ h. cc) name is.some (each name is.bytes)
  where
    each : (name : List ℕ) → All (λ b. is_word_byte b ≡ true) name → AllByRecursion (λ b. is_word_byte b ≡ true) name
    each [] all = tt
    each (b ∷ name) all = (all 0 b (omega arith), each name (λ k d l. all (suc k) d (omega arith)))

-- behind a word that isn't at the start of a line no text is
still_open : (text word : List ℕ) → IsOpen word → IsOpen (text ++ word)
still_open [] word o = o
still_open (b ∷ text) word o = more (text ++ word) (still_open text word o)
  where
    more : (rest : List ℕ) → IsOpen rest → IsOpen (b ∷ rest)
    more [] o = cc
    more (c ∷ rest) o = later b c rest ∙ o

-- what a piece's text spells
record IsGood (piece : Piece) : Type 0 where
  spelled : SpellsPiece piece (piece_text piece)
  ends : IsOpen (piece_text piece)

-- what is in 128 bits has at most 64 digits
abbrev IsShort : ℤ → Type 0
IsShort (pos n) = n < 10 ^ 64
IsShort (negsuc n) = suc n < 10 ^ 64

fit_small : (value : ℤ) → IsTrue (fits value) → IsShort value
fit_small value fit = by value (and_parts (int_le (neg_ℤ (pos (2 ^ 127))) value) (int_lt value (pos (2 ^ 127))) fit)
  where
    by : (value : ℤ) → (int_le (neg_ℤ (pos (2 ^ 127))) value ≡ true) × (int_lt value (pos (2 ^ 127)) ≡ true) → IsShort value
    by (pos n) t = omega (arith, ints)
    by (negsuc n) t = omega (arith, ints)

number_spelled : (value : ℤ) → IsTrue (fits value) → IsNumber (signed_decimal value) value
number_spelled (pos n) fit = record { small = fit; spelled = inl (record { digits = (decimal_is_IsNumeral_wide n small).0; is = ap pos (sym (decimal_is_IsNumeral_wide n small).1) }) }
  where
    small : n < 10 ^ 64
    small = fit_small (pos n) fit
number_spelled (negsuc n) fit = record {
  small = fit;
  spelled = inr (record { rest = decimal (suc n); begun = refl; digits = (decimal_is_IsNumeral_wide (suc n) small).0; is = ap (λ m. neg_ℤ (pos m)) (sym (decimal_is_IsNumeral_wide (suc n) small).1) });
}
  where
    small : suc n < 10 ^ 64
    small = fit_small (negsuc n) fit

number_open : (value : ℤ) → IsNumber (signed_decimal value) value → IsOpen (signed_decimal value)
number_open (pos n) is = by is.spelled
  where
    by : IsPlain (decimal n) (pos n) ⊎ IsMinus (decimal n) (pos n) → IsOpen (decimal n)
    by (inl plain) = open_digits (decimal n) plain.digits
    by (inr minus) = subst IsOpen (sym minus.begun) (still_open (45 ∷ []) minus.rest (open_digits minus.rest minus.digits))
number_open (negsuc n) is = by is.spelled
  where
    by : IsPlain (signed_decimal (negsuc n)) (negsuc n) ⊎ IsMinus (signed_decimal (negsuc n)) (negsuc n) → IsOpen (signed_decimal (negsuc n))
    by (inl plain) = open_digits (signed_decimal (negsuc n)) plain.digits
    by (inr minus) = subst IsOpen (sym minus.begun) (still_open (45 ∷ []) minus.rest (open_digits minus.rest minus.digits))

-- fixed words end in no line feed, and names are names
abbrev pub IsSaid : Piece → Type 0
IsSaid (Piece.Fixed bytes) = IsOpen bytes
IsSaid (Piece.Named name) = IsNamePiece name
IsSaid (Piece.Number value) = Unit {0}
IsSaid (Piece.Weighted row by) = Unit {0}

piece_good : (piece : Piece) → IsSaid piece → FitsPiece piece → IsGood piece
piece_good (Piece.Fixed bytes) said fit = record { spelled = refl; ends = said }
piece_good (Piece.Named name) said fit = record { spelled = (said, refl); ends = open_name name said }
piece_good (Piece.Number value) said fit = record { spelled = number_spelled value fit; ends = number_open value (number_spelled value fit) }
piece_good (Piece.Weighted row by) said fit = record {
  spelled = record { first = decimal row; second = signed_decimal by; row_is = number_spelled (pos row) (narrow row fit.0); by_is = number_spelled by fit.1; joined = refl };
  ends = still_open (decimal row) (58 ∷ signed_decimal by) (still_open (58 ∷ []) (signed_decimal by) (number_open by (number_spelled by fit.1)));
}
  where
    narrow : (row : ℕ) → row < 2 ^ 32 → IsTrue (fits (pos row))
    narrow row small = and_from (int_le (neg_ℤ (pos (2 ^ 127))) (pos row)) (int_lt (pos row) (pos (2 ^ 127))) (grind (arith, ints)) (grind (arith, ints))

-- the pieces of a line
abbrev pub AreSaid : List Piece → Type 0
AreSaid pieces = AllByRecursion IsSaid pieces

pieces_good : (pieces : List Piece) → AreSaid pieces → FitPieces pieces → AllByRecursion IsGood pieces
pieces_good [] said fit = tt
pieces_good (p ∷ pieces) said fit = (piece_good p said.0 fit.0, pieces_good pieces said.1 fit.1)

words_spelled : (pieces : List Piece) → AllByRecursion IsGood pieces → SpellsPieces pieces (map piece_text pieces)
words_spelled [] good = tt
words_spelled (p ∷ pieces) good = (good.0.spelled, words_spelled pieces good.1)

-- words behind a line that is begun, and the words of a line
behind : (text : List ℕ) (pieces : List Piece) → IsOpen text → AllByRecursion IsGood pieces → with_pieces text pieces ≡ text ++ behind_spaces (map piece_text pieces)
behind text [] o good = sym (append-nil text)
behind text (p ∷ pieces) o good = ap (λ t. with_pieces t pieces) word ∙ behind (text ++ 32 ∷ piece_text p) pieces (still_open text (32 ∷ piece_text p) (still_open (32 ∷ []) (piece_text p) good.0.ends)) good.1
    ∙ append_assoc text (32 ∷ piece_text p) (behind_spaces (map piece_text pieces))
  where
    word : with_word text (piece_text p) ≡ text ++ 32 ∷ piece_text p
    word = ap (λ (v : Bool). (if v then text else text ++ 32 ∷ []) ++ piece_text p) o ∙ append_assoc text (32 ∷ []) (piece_text p)

line : (text : List ℕ) (pieces : List Piece) → is_line_start text ≡ true → AllByRecursion IsGood pieces → with_pieces text pieces ≡ text ++ spaced (map piece_text pieces)
line text [] start good = sym (append-nil text)
line text (p ∷ pieces) start good = ap (λ t. with_pieces t pieces) word ∙ behind (text ++ piece_text p) pieces (still_open text (piece_text p) good.0.ends) good.1
    ∙ append_assoc text (piece_text p) (behind_spaces (map piece_text pieces))
  where
    word : with_word text (piece_text p) ≡ text ++ piece_text p
    word = ap (λ (v : Bool). (if v then text else text ++ 32 ∷ []) ++ piece_text p) start

ended : (text : List ℕ) → is_line_start (with_end text) ≡ true
ended [] = refl
ended (b ∷ []) = refl
ended (b ∷ c ∷ text) = later b c (text ++ 10 ∷ []) ∙ ended (c ∷ text)

-- what is written of lines behind a text
record IsWritten (text : List ℕ) (lines : List (List Piece)) : Type 0 where
  rest : List ℕ
  is : with_lines text lines ≡ text ++ rest
  lines_are : IsText lines rest

lines_behind : (text : List ℕ) (lines : List (List Piece)) → is_line_start text ≡ true → AllByRecursion AreSaid lines → FitLines lines → IsWritten text lines
lines_behind text [] start said fit = record { rest = []; is = sym (append-nil text); lines_are = refl }
lines_behind text (pieces ∷ more) start said fit = one_more (lines_behind (with_line text pieces) more (ended (with_pieces text pieces)) said.1 fit.1)
  where
    words : List (List ℕ)
    words = map piece_text pieces

    good : AllByRecursion IsGood pieces
    good = pieces_good pieces said.0 fit.0

    first : with_line text pieces ≡ (text ++ spaced words) ++ 10 ∷ []
    first = ap (λ t. with_end t) (line text pieces start good)

    joined : (rest : List ℕ) → ((text ++ spaced words) ++ 10 ∷ []) ++ rest ≡ text ++ (spaced words ++ 10 ∷ rest)
    joined rest = append_assoc (text ++ spaced words) (10 ∷ []) rest ∙ append_assoc text (spaced words) (10 ∷ rest)

    one_more : IsWritten (with_line text pieces) more → IsWritten text (pieces ∷ more)
    one_more next = record {
      rest = spaced words ++ 10 ∷ next.rest;
      is = next.is ∙ ap (λ t. t ++ next.rest) first ∙ joined next.rest;
      lines_are = (spaced words, next.rest, record { words = words; spelled = words_spelled pieces good; is = refl }, refl, next.lines_are);
    }

pub lines_written : (lines : List (List Piece)) → AllByRecursion AreSaid lines → FitLines lines → IsText lines (with_lines [] lines)
lines_written lines said fit = subst (λ (t : List ℕ). IsText lines t) (sym all.is) all.lines_are
  where
    all : IsWritten [] lines
    all = lines_behind [] lines refl said fit
