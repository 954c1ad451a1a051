-- Which bytes a number is made of, and which it begins with.
use Rattle.std.proofs.Common.{◌≡◌, ◌≢◌, ◌∙◌, ◌<◌, ◌≤◌, ◌++◌, ◌⊎◌, ◌∷◌, [], ℕ, List, Bool, true, false, cond, refl, ap, sym, subst, get_or, arith, Some, None, Option, inl, inr, lit≤, lit<}
use Rattle.std.specs.Prelude.{◌==◌, not, ◌||◌, ◌&&◌, if◌then◌else◌}
use Rattle.std.specs.Char.{digit_value, is_ascii_digit}
use Rattle.std.specs.List.{list_all, AllPass}
use Rattle.std.specs.Str.Parse.{AllDigits}
use Rattle.std.proofs.lemmas.List.Folds.{list_all-append}
use Rattle.std.proofs.lemmas.List.Sums.{AllPass-from_list_all}
use Rattle.std.proofs.lemmas.Bool.{and_from}
use Rattle.std.proofs.lemmas.Bool.Decides.{nat_tests}
use Rattle.p4_lexer.specs.Numbers.{plain, base_of, IsInBase, IsBased, IsNatural, IsWidth, IsNumberText}
use Rattle.p4_lexer.specs.Pieces.{is_word_byte}

-- ---- the letters of the bases

base_cases : (x o b : Bool) (base : ℕ) → (if x then Some 16 else (if o then Some 8 else (if b then Some 2 else None))) ≡ Some base
    → (base ≤ 16) × ((x || (o || b)) ≡ true)
base_cases true o b base is = (let e : 16 ≡ base = cc is in omega arith, refl)
base_cases false true b base is = (let e : 8 ≡ base = cc is in omega arith, refl)
base_cases false false true base is = (let e : 2 ≡ base = cc is in omega arith, refl)
base_cases false false false base is = absurd (cc is)

base_small : (letter base : ℕ) → base_of letter ≡ Some base → base ≤ 16
base_small letter base is =
    (base_cases (letter == 120 || letter == 88) (letter == 111 || letter == 79) (letter == 98 || letter == 66) base is).0

-- the letter of a base is a letter, but no decimal digit, no `_` and no `w`
record IsLetter (letter : ℕ) : Type 0 where
  word : is_word_byte letter ≡ true
  great : 10 ≤ digit_value letter
  no_line : letter ≢ 95
  no_w : (letter == 119) ≡ false

base_letter : (letter base : ℕ) → base_of letter ≡ Some base → IsLetter letter
base_letter letter base is =
    let one = (base_cases (letter == 120 || letter == 88) (letter == 111 || letter == 79) (letter == 98 || letter == 66) base is).1 in
    record {
      word = grind (arith, nat_tests);
      great = grind (arith, nat_tests);
      no_line = λ e. absurd (grind (arith, nat_tests));
      no_w = grind (arith, nat_tests);
    }

-- ---- tests that each byte of a number without a width passes

-- the digits below 16, `_` and the letters of the bases pass the test
record IsNumberTest (test : ℕ → Bool) : Type 0 where
  digit : (c : ℕ) → digit_value c < 16 → test c ≡ true
  line : (c : ℕ) → c ≡ 95 → test c ≡ true
  letter : (letter base : ℕ) → base_of letter ≡ Some base → test letter ≡ true

same_from_test : (c : ℕ) → (c == 95) ≡ true → c ≡ 95
same_from_test c is = grind (arith, nat_tests)

digits_pass : (test : ℕ → Bool) → IsNumberTest test → (base : ℕ) (bytes : List ℕ) → base ≤ 16 → AllDigits base bytes → list_all test bytes ≡ true
digits_pass test good base [] small all = refl
digits_pass test good base (c ∷ bytes) small all =
    and_from (test c) (list_all test bytes) (good.digit c (let low = all.0 in omega arith)) (digits_pass test good base bytes small all.1)

plain_step : (test : ℕ → Bool) → IsNumberTest test → (base c : ℕ) (bytes : List ℕ) (line : Bool) → base ≤ 16 → (c == 95) ≡ line
    → AllDigits base (cond (not line) (c ∷ plain bytes) (plain bytes)) → (test c ≡ true) × AllDigits base (plain bytes)
plain_step test good base c bytes true small is all = (good.line c (same_from_test c is), all)
plain_step test good base c bytes false small is all = (good.digit c (let low = all.0 in omega arith), all.1)

plain_pass : (test : ℕ → Bool) → IsNumberTest test → (base : ℕ) (bytes : List ℕ) → base ≤ 16 → AllDigits base (plain bytes)
    → list_all test bytes ≡ true
plain_pass test good base [] small all = refl
plain_pass test good base (c ∷ bytes) small all =
    let step = plain_step test good base c bytes (c == 95) small refl all in
    and_from (test c) (list_all test bytes) step.0 (plain_pass test good base bytes small step.1)

form_passes : (test : ℕ → Bool) → IsNumberTest test → (value : ℕ) (bytes : List ℕ) → IsInBase 10 value bytes ⊎ IsBased value bytes
    → list_all test bytes ≡ true
form_passes test good value bytes (inl decimal) = plain_pass test good 10 bytes (lit≤ tt) decimal.digits
form_passes test good value bytes (inr based) =
    let P : List ℕ → Type 0 = λ list. list_all test list ≡ true in
    subst P (sym based.split)
    (and_from (test 48) (test based.letter && list_all test based.digits) (good.digit 48 (lit< tt))
    (and_from (test based.letter) (list_all test based.digits) (good.letter based.letter based.base based.base_is)
    (plain_pass test good based.base based.digits (base_small based.letter based.base based.base_is) based.digits_are.digits)))

natural_passes : (test : ℕ → Bool) → IsNumberTest test → (value : ℕ) (bytes : List ℕ) → IsNatural value bytes → list_all test bytes ≡ true
natural_passes test good value bytes natural = form_passes test good value bytes natural.form

-- ---- a number is nothing but letters, digits and `_`

digit_is_word : (c : ℕ) → digit_value c < 16 → is_word_byte c ≡ true
digit_is_word c low = grind (arith, nat_tests)

line_is_word : (c : ℕ) → c ≡ 95 → is_word_byte c ≡ true
line_is_word c same = grind (arith, nat_tests)

word_test : IsNumberTest is_word_byte
word_test = record { digit = digit_is_word; line = line_is_word; letter = λ letter base is. (base_letter letter base is).word }

pub number_is_words : (width : Option ℕ) (value : ℕ) (bytes : List ℕ) → IsNumberText width value bytes → AllPass is_word_byte bytes
number_is_words None value bytes natural = AllPass-from_list_all is_word_byte bytes (natural_passes is_word_byte word_test value bytes natural)
number_is_words (Some width) value bytes widened = AllPass-from_list_all is_word_byte bytes
    (let P : List ℕ → Type 0 = λ list. list_all is_word_byte list ≡ true in
    subst P (sym widened.split) (list_all-append is_word_byte widened.prefix (119 ∷ widened.rest)
    ∙ and_from (list_all is_word_byte widened.prefix) (list_all is_word_byte (119 ∷ widened.rest))
    (digits_pass is_word_byte word_test 10 widened.prefix (lit≤ tt) widened.width_is.digits)
    (natural_passes is_word_byte word_test value widened.rest widened.natural)))

-- ---- a number without a width has no `w`, nor has a width

abbrev pub is_no_w : ℕ → Bool
is_no_w byte = not (byte == 119)

digit_is_no_w : (c : ℕ) → digit_value c < 16 → is_no_w c ≡ true
digit_is_no_w c low = grind (arith, nat_tests)

line_is_no_w : (c : ℕ) → c ≡ 95 → is_no_w c ≡ true
line_is_no_w c same = grind (arith, nat_tests)

no_w_test : IsNumberTest is_no_w
no_w_test = record {
  digit = digit_is_no_w;
  line = line_is_no_w;
  letter = λ letter base is. ap (λ b. not b) (base_letter letter base is).no_w;
}

pub natural_no_w : (value : ℕ) (bytes : List ℕ) → IsNatural value bytes → list_all is_no_w bytes ≡ true
natural_no_w value bytes natural = natural_passes is_no_w no_w_test value bytes natural

pub width_no_w : (width : ℕ) (bytes : List ℕ) → IsWidth width bytes → list_all is_no_w bytes ≡ true
width_no_w width bytes is = digits_pass is_no_w no_w_test 10 bytes (lit≤ tt) is.digits

-- ---- decimal digits have no letter of a base behind a leading 0

plain_cons : (c : ℕ) (bytes : List ℕ) (line : Bool) → (c == 95) ≡ line → c ≢ 95 → cond (not line) (c ∷ plain bytes) (plain bytes) ≡ c ∷ plain bytes
plain_cons c bytes true is other = absurd (other (same_from_test c is))
plain_cons c bytes false is other = refl

pub decimal_is_not_based : (value letter base : ℕ) (digits : List ℕ) → base_of letter ≡ Some base → IsInBase 10 value (48 ∷ letter ∷ digits) → ⊥
decimal_is_not_based value letter base digits is decimal =
    let here = base_letter letter base is in
    let P : List ℕ → Type 0 = λ list. AllDigits 10 (48 ∷ list) in
    let all = subst P (plain_cons letter digits (letter == 95) refl here.no_line) decimal.digits in
    let low : digit_value letter < 10 = all.1.0 in
    let great = here.great in
    omega arith

-- ---- a number begins with a digit

low_is_digit : (c : ℕ) → digit_value c < 10 → is_ascii_digit c ≡ true
low_is_digit c low = grind (arith, nat_tests)

in_base_first : (value : ℕ) (bytes : List ℕ) → IsInBase 10 value bytes → is_ascii_digit (get_or bytes 0 0) ≡ true
in_base_first value [] is = let some = is.some in absurd (omega arith)
in_base_first value (c ∷ bytes) is =
    let P : List ℕ → Type 0 = λ list. AllDigits 10 list in
    low_is_digit c (subst P (plain_cons c bytes (c == 95) refl is.first) is.digits).0

form_first : (value : ℕ) (bytes : List ℕ) → IsInBase 10 value bytes ⊎ IsBased value bytes → is_ascii_digit (get_or bytes 0 0) ≡ true
form_first value bytes (inl decimal) = in_base_first value bytes decimal
form_first value bytes (inr based) = ap (λ list. is_ascii_digit (get_or list 0 0)) based.split

width_first : (width : ℕ) (bytes rest : List ℕ) → IsWidth width bytes → is_ascii_digit (get_or (bytes ++ rest) 0 0) ≡ true
width_first width [] rest is = let low = is.low in let none = is.value_is in absurd (omega arith)
width_first width (c ∷ bytes) rest is = low_is_digit c is.digits.0

pub number_first : (width : Option ℕ) (value : ℕ) (bytes : List ℕ) → IsNumberText width value bytes → is_ascii_digit (get_or bytes 0 0) ≡ true
number_first None value bytes natural = form_first value bytes natural.form
number_first (Some width) value bytes widened =
    let P : List ℕ → Type 0 = λ list. is_ascii_digit (get_or list 0 0) ≡ true in
    subst P (sym widened.split) (width_first width widened.prefix (119 ∷ widened.rest) widened.width_is)
