-- Which bytes a piece of each kind begins with, and which a range of a text has.
use Rattle.std.proofs.Common.{◌≡◌, ◌≢◌, ◌∙◌, ◌<◌, ◌≤◌, ◌+◌, ◌-◌, ◌++◌, ℕ, List, Bool, true, false, length, drop, take, get_or, sym, subst, ap, refl, arith, length-drop}
use Rattle.std.specs.Prelude.{slice_range, ◌==◌, ◌||◌, not}
use Rattle.std.specs.Char.{is_ascii_digit}
use Rattle.std.specs.List.{list_all, AllPass}
use Rattle.std.proofs.lemmas.List.{drop-drop, get_or-take, get_or-drop, length-take-le}
use Rattle.std.proofs.Math.Seq.{take-add}
use Rattle.std.proofs.lemmas.List.Sums.{AllPass-from_list_all}
use Rattle.std.proofs.lemmas.Bool.{false≢true}
use Rattle.std.proofs.lemmas.Bool.Decides.{nat_tests}
use Rattle.case_table.specs.Rows.{IsWordAt}
use Rattle.case_table.proofs.RowLemmas.{rest_of}
use Rattle.case_table.proofs.Found.{tested_word}
use Rattle.p4_lexer.specs.declared.token.Kind.{Kind}
use Rattle.p4_lexer.specs.declared.token.Kind.TheVariants.{Reserved, Sign, Name, Number, Include}
use Rattle.p4_lexer.specs.Gaps.{is_space}
use Rattle.p4_lexer.specs.Pieces.{reserved_words, signs, is_word_byte, IsInclude, IsPiece, IsNumberKind}
use Rattle.p4_lexer.proofs.NumberBytes.{number_is_words}

-- ---- pieces by their first bytes

pub reserved_is_words : (code : ℕ) (piece : List ℕ) → IsWordAt reserved_words code piece → AllPass is_word_byte piece
unfolding reserved_words
reserved_is_words code piece at =
    AllPass-from_list_all is_word_byte piece (tested_word (λ word. list_all is_word_byte word) reserved_words piece code refl at)

pub not_true : (b : Bool) → not b ≡ true → b ≡ false
not_true true is = absurd (false≢true is)
not_true false is = refl

pub sign_first : (code : ℕ) (piece : List ℕ) → IsWordAt signs code piece → is_word_byte (get_or piece 0 0) ≡ false
unfolding signs
sign_first code piece at = not_true (is_word_byte (get_or piece 0 0)) (tested_word (λ word. not (is_word_byte (get_or word 0 0))) signs piece code refl at)

pub sign_is_no_hash : (code : ℕ) (piece : List ℕ) → IsWordAt signs code piece → get_or piece 0 0 ≡ 35 → ⊥
unfolding signs
sign_is_no_hash code piece at hash =
    let other : (get_or piece 0 0 == 35) ≡ false =
    not_true (get_or piece 0 0 == 35) (tested_word (λ word. not (get_or word 0 0 == 35)) signs piece code refl at) in
    let P : ℕ → Type 0 = λ byte. (byte == 35) ≡ false in
    false≢true (sym (subst P hash other))

pub include_first : (code : ℕ) (piece : List ℕ) → IsInclude code piece → get_or piece 0 0 ≡ 35
include_first code piece include = ap (λ list. get_or list 0 0) include.split

pub hash_is_no_word : (byte : ℕ) → byte ≡ 35 → is_word_byte byte ≡ true → ⊥
hash_is_no_word byte hash word = let P : ℕ → Type 0 = λ each. is_word_byte each ≡ true in false≢true (subst P hash word)

pub apart : (b : Bool) → b ≡ false → b ≡ true → ⊥
apart b off on = false≢true (sym off ∙ on)

-- a piece that begins with a letter, a digit or `_` is nothing but these
pub word_piece : (kind : Kind) (piece : List ℕ) → IsPiece kind piece → is_word_byte (get_or piece 0 0) ≡ true → AllPass is_word_byte piece
word_piece (Reserved code) piece is first = reserved_is_words code piece is
word_piece (Sign code) piece is first = absurd (apart (is_word_byte (get_or piece 0 0)) (sign_first code piece is) first)
word_piece Name piece is first = is.bytes
word_piece (Number width value) piece is first = number_is_words width value piece is
word_piece (Include code) piece is first = absurd (hash_is_no_word (get_or piece 0 0) (include_first code piece is) first)

-- a piece that begins otherwise, and not with `#`, is a sign
pub sign_piece : (kind : Kind) (piece : List ℕ) → 0 < length piece → IsPiece kind piece → is_word_byte (get_or piece 0 0) ≡ false
    → get_or piece 0 0 ≢ 35 → (code : ℕ) × IsWordAt signs code piece
sign_piece (Reserved code) piece some is first other = absurd (apart (is_word_byte (get_or piece 0 0)) first (reserved_is_words code piece is 0 0 some))
sign_piece (Sign code) piece some is first other = (code, is)
sign_piece Name piece some is first other = absurd (apart (is_word_byte (get_or piece 0 0)) first (is.bytes 0 0 some))
sign_piece (Number width value) piece some is first other =
    absurd (apart (is_word_byte (get_or piece 0 0)) first (number_is_words width value piece is 0 0 some))
sign_piece (Include code) piece some is first other = absurd (other (include_first code piece is))

-- a piece that begins with `#` is an include
pub include_piece : (kind : Kind) (piece : List ℕ) → 0 < length piece → IsPiece kind piece → get_or piece 0 0 ≡ 35 → (code : ℕ) × IsInclude code piece
include_piece (Reserved code) piece some is hash = absurd (hash_is_no_word (get_or piece 0 0) hash (reserved_is_words code piece is 0 0 some))
include_piece (Sign code) piece some is hash = absurd (sign_is_no_hash code piece is hash)
include_piece Name piece some is hash = absurd (hash_is_no_word (get_or piece 0 0) hash (is.bytes 0 0 some))
include_piece (Number width value) piece some is hash =
    absurd (hash_is_no_word (get_or piece 0 0) hash (number_is_words width value piece is 0 0 some))
include_piece (Include code) piece some is hash = (code, is)

sign_is_no_spacing : (code : ℕ) (piece : List ℕ) → IsWordAt signs code piece → (is_space (get_or piece 0 0) || get_or piece 0 0 == 47) ≡ false
unfolding signs
sign_is_no_spacing code piece at =
    not_true (is_space (get_or piece 0 0) || get_or piece 0 0 == 47)
    (tested_word (λ word. not (is_space (get_or word 0 0) || get_or word 0 0 == 47)) signs piece code refl at)

digit_is_word : (byte : ℕ) → is_ascii_digit byte ≡ true → is_word_byte byte ≡ true
digit_is_word byte is = grind (arith, nat_tests)

pub reserved_no_digit : (code : ℕ) (piece : List ℕ) → IsWordAt reserved_words code piece → is_ascii_digit (get_or piece 0 0) ≡ false
unfolding reserved_words
reserved_no_digit code piece at =
    not_true (is_ascii_digit (get_or piece 0 0)) (tested_word (λ word. not (is_ascii_digit (get_or word 0 0))) reserved_words piece code refl at)

-- a piece that begins with a digit is a number
pub digit_piece : (kind : Kind) (piece : List ℕ) → 0 < length piece → IsPiece kind piece → is_ascii_digit (get_or piece 0 0) ≡ true → IsNumberKind kind
digit_piece (Reserved code) piece some is digit = absurd (apart (is_ascii_digit (get_or piece 0 0)) (reserved_no_digit code piece is) digit)
digit_piece (Sign code) piece some is digit =
    absurd (apart (is_word_byte (get_or piece 0 0)) (sign_first code piece is) (digit_is_word (get_or piece 0 0) digit))
digit_piece Name piece some is digit = absurd (apart (is_ascii_digit (get_or piece 0 0)) is.first digit)
digit_piece (Number width value) piece some is digit = tt
digit_piece (Include code) piece some is digit =
    absurd (hash_is_no_word (get_or piece 0 0) (include_first code piece is) (digit_is_word (get_or piece 0 0) digit))

word_is_no_spacing : (byte : ℕ) → is_word_byte byte ≡ true → (is_space byte || byte == 47) ≡ false
word_is_no_spacing byte is = grind (arith, nat_tests)

hash_is_no_spacing : (byte : ℕ) → byte ≡ 35 → (is_space byte || byte == 47) ≡ false
hash_is_no_spacing byte is = grind (arith, nat_tests)

-- no piece begins with a space or with `/`
pub piece_first : (kind : Kind) (piece : List ℕ) → 0 < length piece → IsPiece kind piece → (is_space (get_or piece 0 0) || get_or piece 0 0 == 47) ≡ false
piece_first (Reserved code) piece some is = word_is_no_spacing (get_or piece 0 0) (reserved_is_words code piece is 0 0 some)
piece_first (Sign code) piece some is = sign_is_no_spacing code piece is
piece_first Name piece some is = word_is_no_spacing (get_or piece 0 0) (is.bytes 0 0 some)
piece_first (Number width value) piece some is = word_is_no_spacing (get_or piece 0 0) (number_is_words width value piece is 0 0 some)
piece_first (Include code) piece some is = hash_is_no_spacing (get_or piece 0 0) (include_first code piece is)

-- ---- the bytes of a range

pub range_len : (text : List ℕ) (at n : ℕ) → n ≤ length text → length (slice_range text at n) ≡ n - at
range_len text at n within = length-take-le (n - at) (drop at text) (omega (arith, length-drop at text))

pub range_byte : (text : List ℕ) (at n k : ℕ) → at + k < n → get_or (slice_range text at n) k 0 ≡ get_or text (at + k) 0
range_byte text at n k inside = get_or-take (n - at) (drop at text) k 0 (omega arith) ∙ get_or-drop at text k 0

pub range_first : (text : List ℕ) (at n : ℕ) → at < n → get_or (slice_range text at n) 0 0 ≡ get_or text at 0
range_first text at n some =
    let inside : at + 0 < n = omega arith in
    let here : at + 0 ≡ at = omega arith in
    range_byte text at n 0 inside ∙ ap (λ k. get_or text k 0) here

pub range_some : (text : List ℕ) (at n : ℕ) → at < n → n ≤ length text → 0 < length (slice_range text at n)
range_some text at n some within = omega (arith, range_len text at n within)

pub range_split : (text : List ℕ) (i j k : ℕ) → i ≤ j → j ≤ k → slice_range text i k ≡ slice_range text i j ++ slice_range text j k
range_split text i j k low high =
    let parts : k - i ≡ (j - i) + (k - j) = omega arith in
    let middle : i + (j - i) ≡ j = omega arith in
    ap (λ n. take n (drop i text)) parts ∙ take-add (j - i) (k - j) (drop i text)
    ∙ ap (λ list. take (j - i) (drop i text) ++ take (k - j) list) (drop-drop (j - i) i text ∙ ap (λ n. drop n text) middle)

-- the rest of a text, cut where a range of it ends
pub front_of_rest : (text : List ℕ) (at n : ℕ) → take n (take (length text - at) (drop at text)) ≡ slice_range text at (at + n)
front_of_rest text at n =
    let cut : n ≡ (at + n) - at = omega arith in
    ap (λ list. take n list) (rest_of at text) ∙ ap (λ len. take len (drop at text)) cut
