-- The bytes of a number tell its width and its value, and where they are looked for.
use Rattle.std.proofs.Common.{◌≡◌, ◌∙◌, ◌<◌, ◌≤◌, ◌+◌, ◌-◌, ◌^◌, ◌++◌, ◌⊎◌, ◌∷◌, [], ℕ, List, Bool, true, false, cond, length, refl, ap, sym, subst, get_or, take, drop, arith, Some, None, Option, inl, inr}
use Rattle.std.specs.Prelude.{◌==◌, not, MatchOption, IfSome, nat_lt, position}
use Rattle.std.specs.List.{list_all, prefix_len}
use Rattle.std.proofs.lemmas.Bool.{false≢true, and_parts}
use Rattle.std.proofs.lemmas.Bool.Decides.{nat_tests}
use Rattle.std.proofs.lemmas.List.{get_or-take, get_or_default, length-take}
use Rattle.std.proofs.lemmas.List.Quantifiers.{position-Some}
use Rattle.std.proofs.lemmas.List.Sums.{list_all-from_AllPass, prefix_len_passes}
use Rattle.case_table.proofs.RowLemmas.{rest_of}
use Rattle.p4_lexer.specs.Numbers.{base_of, IsInBase, IsBased, IsNatural, IsWidth, IsWidened, IsNumberText, IsNoNumber}
use Rattle.p4_lexer.proofs.DigitFronts.{split_at}
use Rattle.p4_lexer.proofs.NumberBytes.{is_no_w, natural_no_w, width_no_w, decimal_is_not_based}

-- ---- a number without a width has one value

one_in_base : (base value other : ℕ) (bytes : List ℕ) → IsInBase base value bytes → IsInBase base other bytes → value ≡ other
one_in_base base value other bytes is second = is.value_is ∙ sym second.value_is

both_forms : (value other : ℕ) (bytes : List ℕ) → IsInBase 10 value bytes → IsBased other bytes → ⊥
both_forms value other bytes decimal based =
    let P : List ℕ → Type 0 = λ list. IsInBase 10 value list in
    decimal_is_not_based value based.letter based.base based.digits based.base_is (subst P based.split decimal)

-- the base and the digits of a number with the letter of its base
based_at : (value letter base : ℕ) (digits : List ℕ) → base_of letter ≡ Some base → IsBased value (48 ∷ letter ∷ digits) → IsInBase base value digits
based_at value letter base digits is based =
    let same : letter ∷ digits ≡ based.letter ∷ based.digits = cc based.split in
    let letter_same : letter ≡ based.letter = cc same in
    let digits_same : digits ≡ based.digits = cc same in
    let some : Some base ≡ Some based.base = sym is ∙ ap (λ each. base_of each) letter_same ∙ based.base_is in
    let base_same : base ≡ based.base = cc some in
    let P : ℕ → Type 0 = λ each. IsInBase each value digits in
    let Q : List ℕ → Type 0 = λ list. IsInBase based.base value list in
    subst P (sym base_same) (subst Q (sym digits_same) based.digits_are)

one_form : (value other : ℕ) (bytes : List ℕ) → IsInBase 10 value bytes ⊎ IsBased value bytes → IsInBase 10 other bytes ⊎ IsBased other bytes → value ≡ other
one_form value other bytes (inl decimal) (inl second) = one_in_base 10 value other bytes decimal second
one_form value other bytes (inl decimal) (inr second) = absurd (both_forms value other bytes decimal second)
one_form value other bytes (inr based) (inl second) = absurd (both_forms other value bytes second based)
one_form value other bytes (inr based) (inr second) =
    let P : List ℕ → Type 0 = λ list. IsBased value list in
    one_in_base second.base value other second.digits
    (based_at value second.letter second.base second.digits second.base_is (subst P second.split based)) second.digits_are

one_natural : (value other : ℕ) (bytes : List ℕ) → IsNatural value bytes → IsNatural other bytes → value ≡ other
one_natural value other bytes natural second = one_form value other bytes natural.form second.form

-- ---- the first `w` parts the width from the rest

w_is_w : (byte : ℕ) → byte ≡ 119 → is_no_w byte ≡ true → ⊥
w_is_w byte same no_w = let P : ℕ → Type 0 = λ each. is_no_w each ≡ true in false≢true (subst P same no_w)

one_split : (front other rest behind : List ℕ) → list_all is_no_w front ≡ true → list_all is_no_w other ≡ true
    → front ++ 119 ∷ rest ≡ other ++ 119 ∷ behind → (front ≡ other) × (rest ≡ behind)
one_split [] [] rest behind first second same = (refl, cc same)
one_split [] (c ∷ other) rest behind first second same =
    let here : 119 ≡ c = cc same in absurd (w_is_w c (sym here) (and_parts (is_no_w c) (list_all is_no_w other) second).0)
one_split (c ∷ front) [] rest behind first second same =
    let here : c ≡ 119 = cc same in absurd (w_is_w c here (and_parts (is_no_w c) (list_all is_no_w front) first).0)
one_split (c ∷ front) (d ∷ other) rest behind first second same =
    let here : c ≡ d = cc same in
    let behind_here : front ++ 119 ∷ rest ≡ other ++ 119 ∷ behind = cc same in
    let parts = one_split front other rest behind (and_parts (is_no_w c) (list_all is_no_w front) first).1
    (and_parts (is_no_w d) (list_all is_no_w other) second).1 behind_here in
    let fronts : front ≡ other = parts.0 in
    (cc (here, fronts), parts.1)

has_w : (front rest : List ℕ) → list_all is_no_w (front ++ 119 ∷ rest) ≡ true → ⊥
has_w [] rest all = false≢true all
has_w (c ∷ front) rest all = has_w front rest (and_parts (is_no_w c) (list_all is_no_w (front ++ 119 ∷ rest)) all).1

widened_has_w : (width value : ℕ) (bytes : List ℕ) → IsWidened width value bytes → list_all is_no_w bytes ≡ true → ⊥
widened_has_w width value bytes widened all =
    let P : List ℕ → Type 0 = λ list. list_all is_no_w list ≡ true in
    has_w widened.prefix widened.rest (subst P widened.split all)

-- what stands before the first `w` is the width, and what stands behind it the number
pub widened_parts : (width value : ℕ) (front rest : List ℕ) → list_all is_no_w front ≡ true → IsWidened width value (front ++ 119 ∷ rest)
    → IsWidth width front × IsNatural value rest
widened_parts width value front rest none widened =
    let same = one_split front widened.prefix rest widened.rest none (width_no_w width widened.prefix widened.width_is) widened.split in
    let P : List ℕ → Type 0 = λ list. IsWidth width list in
    let Q : List ℕ → Type 0 = λ list. IsNatural value list in
    (subst P (sym same.0) widened.width_is, subst Q (sym same.1) widened.natural)

one_widened : (width value other more : ℕ) (bytes : List ℕ) → IsWidened width value bytes → IsWidened other more bytes → (width ≡ other) × (value ≡ more)
one_widened width value other more bytes widened second =
    let P : List ℕ → Type 0 = λ list. IsWidened width value list in
    let parts = widened_parts width value second.prefix second.rest (width_no_w other second.prefix second.width_is) (subst P second.split widened) in
    (parts.0.value_is ∙ sym second.width_is.value_is, one_natural value more second.rest parts.1 second.natural)

-- a number has one width, or none, and one value
pub one_number : (width : Option ℕ) (value : ℕ) (other : Option ℕ) (more : ℕ) (bytes : List ℕ) → IsNumberText width value bytes → IsNumberText other more bytes
    → (width ≡ other) × (value ≡ more)
one_number None value None more bytes natural second = (refl, one_natural value more bytes natural second)
one_number None value (Some other) more bytes natural second = absurd (widened_has_w other more bytes second (natural_no_w value bytes natural))
one_number (Some width) value None more bytes widened second = absurd (widened_has_w width value bytes widened (natural_no_w more bytes second))
one_number (Some width) value (Some other) more bytes widened second =
    let same = one_widened width value other more bytes widened second in (ap (λ n. Some n) same.0, same.1)

-- ---- where a `w` is looked for

abbrev is_w : ℕ → Bool
is_w byte = byte == 119

same_w : (byte : ℕ) → is_w byte ≡ true → byte ≡ 119
same_w byte is = grind (arith, nat_tests)

not_some : (b : Bool) (n : ℕ) → cond b (Some n) None ≡ None → b ≡ false
not_some true n is = absurd (cc is)
not_some false n is = refl

no_less : (a b : ℕ) → nat_lt a b ≡ false → b ≤ a
no_less a b is = grind (arith, nat_tests)

no_w_stands : (text : List ℕ) → position is_w text ≡ None → list_all is_no_w text ≡ true
no_w_stands text none =
    let past = no_less (prefix_len is_no_w text) (length text)
    (not_some (nat_lt (prefix_len is_no_w text) (length text)) (prefix_len is_no_w text) none) in
    list_all-from_AllPass is_no_w text (λ k d inside. prefix_len_passes is_no_w text k d (omega arith))

-- a text is what stands before its first `w`, the `w` and what stands behind it
record IsParted (text : List ℕ) (place : ℕ) : Type 0 where
  no_w : list_all is_no_w (take place text) ≡ true
  split : text ≡ take place text ++ 119 ∷ drop (place + 1) text

first_w : (text : List ℕ) (place : ℕ) → position is_w text ≡ Some place → IsParted text place
first_w text place found =
    let here = position-Some is_w text place 0 found in
    record {
      no_w = list_all-from_AllPass is_no_w (take place text) (λ k d inside.
          let before : k < place = omega (arith, length-take place text) in
          let each : get_or (take place text) k d ≡ get_or text k 0 = get_or_default (take place text) k d 0 inside ∙ get_or-take place text k 0 before in
          ap (λ byte. is_no_w byte) each ∙ ap (λ b. not b) (here.2 k before));
      split = split_at text place here.0 ∙ ap (λ byte. take place text ++ byte ∷ drop (place + 1) text) (same_w (get_or text place 0) here.1);
    }

-- with no `w`, a number has no width
pub without_w : (text : List ℕ) → position is_w text ≡ None → ((value : ℕ) → IsNatural value text → ⊥)
    → IsNoNumber text
without_w text none refused None value natural = refused value natural
without_w text none refused (Some width) value widened = widened_has_w width value text widened (no_w_stands text none)

parts_refused : (text : List ℕ) (place : ℕ) → position is_w text ≡ Some place
    → ((width value : ℕ) → IsWidth width (take place text) → IsNatural value (drop (place + 1) text) → ⊥)
    → IsNoNumber text
parts_refused text place found refused None value natural =
    let parts = first_w text place found in
    let P : List ℕ → Type 0 = λ list. list_all is_no_w list ≡ true in
    has_w (take place text) (drop (place + 1) text) (subst P parts.split (natural_no_w value text natural))
parts_refused text place found refused (Some width) value widened =
    let parts = first_w text place found in
    let P : List ℕ → Type 0 = λ list. IsWidened width value list in
    let both = widened_parts width value (take place text) (drop (place + 1) text) parts.no_w (subst P parts.split widened) in
    refused width value both.0 both.1

-- where no width stands before the first `w`
pub no_width_before : (text : List ℕ) (place : ℕ) → position is_w text ≡ Some place → ((width : ℕ) → IsWidth width (take place text) → ⊥)
    → IsNoNumber text
no_width_before text place found refused = parts_refused text place found (λ width value is rest. refused width is)

-- where no number stands behind it
pub no_number_behind : (text : List ℕ) (place : ℕ) → position is_w text ≡ Some place
    → ((value : ℕ) → IsNatural value (take (length text - (place + 1)) (drop (place + 1) text)) → ⊥)
    → IsNoNumber text
no_number_behind text place found refused =
    let P : List ℕ → Type 0 = λ list. (value : ℕ) → IsNatural value list → ⊥ in
    let rest_refused = subst P (rest_of (place + 1) text) refused in
    parts_refused text place found (λ width value is rest. rest_refused value rest)

-- and where both do
pub width_and_number : (text : List ℕ) (place width value : ℕ) → position is_w text ≡ Some place → IsWidth width (take place text)
    → IsNatural value (take (length text - (place + 1)) (drop (place + 1) text)) → IsWidened width value text
width_and_number text place width value found is natural = record {
  prefix = take place text;
  rest = drop (place + 1) text;
  split = (first_w text place found).split;
  width_is = is;
  natural = (let P : List ℕ → Type 0 = λ list. IsNatural value list in subst P (rest_of (place + 1) text) natural);
}

-- ---- where the letter of a base is looked for

split_two : (text : List ℕ) → 2 ≤ length text → text ≡ get_or text 0 0 ∷ get_or text 1 0 ∷ drop 2 text
split_two [] long = absurd (omega arith)
split_two (first ∷ []) long = absurd (omega arith)
split_two (first ∷ second ∷ rest) long = refl

zero_split : (text : List ℕ) → 2 ≤ length text → get_or text 0 0 ≡ 48 → text ≡ 48 ∷ get_or text 1 0 ∷ drop 2 text
zero_split text long zero_first = split_two text long ∙ ap (λ byte. byte ∷ get_or text 1 0 ∷ drop 2 text) zero_first

based_form : (value letter base : ℕ) (digits : List ℕ) → base_of letter ≡ Some base
    → IsInBase 10 value (48 ∷ letter ∷ digits) ⊎ IsBased value (48 ∷ letter ∷ digits) → (IsInBase base value digits → ⊥) → ⊥
based_form value letter base digits is (inl decimal) none = decimal_is_not_based value letter base digits is decimal
based_form value letter base digits is (inr based) none = none (based_at value letter base digits is based)

-- behind a leading 0 and the letter of a base stand its digits
pub based_natural : (text : List ℕ) (base : ℕ) (found : Option ℕ) → 2 ≤ length text → get_or text 0 0 ≡ 48
    → base_of (get_or text 1 0) ≡ Some base → IfSome found (λ value. value < 2 ^ 128)
    → MatchOption found ((value : ℕ) → value < 2 ^ 128 → IsInBase base value (take (length text - 2) (drop 2 text)) → ⊥)
    (λ value. IsInBase base value (take (length text - 2) (drop 2 text)))
    → MatchOption found ((value : ℕ) → IsNatural value text → ⊥) (λ value. IsNatural value text)
based_natural text base None long zero_first letter small answer = λ value natural.
    let Q : List ℕ → Type 0 = λ list. IsInBase base value list in
    let R : List ℕ → Type 0 = λ list. IsInBase 10 value list ⊎ IsBased value list in
    based_form value (get_or text 1 0) base (drop 2 text) letter (subst R (zero_split text long zero_first) natural.form)
    (λ is. answer value natural.small (subst Q (sym (rest_of 2 text)) is))
based_natural text base (Some value) long zero_first letter small answer =
    let Q : List ℕ → Type 0 = λ list. IsInBase base value list in
    record {
      form = inr (record {
        base = base;
        letter = get_or text 1 0;
        digits = drop 2 text;
        split = zero_split text long zero_first;
        base_is = letter;
        digits_are = subst Q (rest_of 2 text) answer;
      });
      small = small;
    }
