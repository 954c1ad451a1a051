-- Where a word or a sign is the longest piece of a text, and where none begins.
use Rattle.std.proofs.Common.{◌≡◌, ◌≢◌, ◌∙◌, ◌<◌, ◌≤◌, ◌+◌, ◌-◌, ℕ, List, true, false, length, get_or, sym, subst, ap, refl, arith, ⊎_elim}
use Rattle.std.specs.Prelude.{slice_range}
use Rattle.std.specs.Char.{is_ascii_digit}
use Rattle.std.specs.List.{AllPass}
use Rattle.std.proofs.lemmas.List.{get_or_default}
use Rattle.std.proofs.lemmas.Bool.{cases_lt}
use Rattle.case_table.specs.Rows.{IsWordAt}
use Rattle.p4_lexer.specs.declared.token.Kind.{Kind}
use Rattle.p4_lexer.specs.declared.token.Kind.TheVariants.{Reserved, Sign, Name, Number, Include}
use Rattle.p4_lexer.specs.Numbers.{IsNoNumber}
use Rattle.p4_lexer.specs.Pieces.{signs, is_word_byte, IsPiece, IsNumberKind}
use Rattle.p4_lexer.specs.Tokens.{IsLongest, IsTokenAt, IsLongestSign}
use Rattle.p4_lexer.specs.BadPlaces.{HasNoToken}
use Rattle.p4_lexer.proofs.PieceBytes.{apart, word_piece, sign_piece, digit_piece, range_len, range_byte, range_first, range_some}

-- ---- words

pub run_bytes : (text : List ℕ) (at end : ℕ) → end ≤ length text
    → ((k : ℕ) → at ≤ k → k < end → is_word_byte (get_or text k 0) ≡ true) → AllPass is_word_byte (slice_range text at end)
run_bytes text at end within run k d inside =
    let len = range_len text at end within in
    let before : at + k < end = omega (arith, len) in
    let from : at ≤ at + k = omega arith in
    let P : ℕ → Type 0 = λ byte. is_word_byte byte ≡ true in
    subst P (sym (get_or_default (slice_range text at end) k d 0 inside ∙ range_byte text at end k before)) (run (at + k) from before)

run_bounds : (text : List ℕ) (at end n : ℕ) → at ≤ end → n ≤ length text → (end < length text → is_word_byte (get_or text end 0) ≡ false)
    → AllPass is_word_byte (slice_range text at n) → n ≤ end
run_bounds text at end n from within stop bytes = ⊎_elim
    (λ (less : end < n).
    let len = range_len text at n within in
    let k : ℕ = end - at in
    let here : at + k ≡ end = omega arith in
    let inside : at + k < n = omega arith in
    let short : k < length (slice_range text at n) = omega (arith, len) in
    let yes : is_word_byte (get_or text end 0) ≡ true =
    (let P : ℕ → Type 0 = λ byte. is_word_byte byte ≡ true in
    subst P (range_byte text at n k inside ∙ ap (λ i. get_or text i 0) here) (bytes k 0 short)) in
    absurd (apart (is_word_byte (get_or text end 0)) (stop (omega arith)) yes))
    (λ (most : n ≤ end). most)
    (cases_lt end n)

pub word_some : (text : List ℕ) (at end : ℕ) → at ≤ end → at < length text → is_word_byte (get_or text at 0) ≡ true
    → (end < length text → is_word_byte (get_or text end 0) ≡ false) → at < end
word_some text at end from within first stop = ⊎_elim
    (λ (less : at < end). less)
    (λ (most : end ≤ at).
    let same : at ≡ end = omega arith in
    let inside : end < length text = omega arith in
    let P : ℕ → Type 0 = λ k. is_word_byte (get_or text k 0) ≡ true in
    absurd (apart (is_word_byte (get_or text end 0)) (stop inside) (subst P same first)))
    (cases_lt at end)

-- a word that ends where no letter, digit or `_` stands is the longest piece at its place
pub word_longest : (text : List ℕ) (at end : ℕ) (kind : Kind) → at < end → end ≤ length text → is_word_byte (get_or text at 0) ≡ true
    → (end < length text → is_word_byte (get_or text end 0) ≡ false) → IsPiece kind (slice_range text at end) → IsLongest text at end kind
word_longest text at end kind some within first stop piece = record {
  some = some;
  within = within;
  piece = piece;
  longest = λ other n after inside is.
      let P : ℕ → Type 0 = λ byte. is_word_byte byte ≡ true in
      let from : at ≤ end = omega arith in
      run_bounds text at end n from inside stop
      (word_piece other (slice_range text at n) is (subst P (sym (range_first text at n after)) first));
  alone = λ number. stop;
}

pub word_token : (text : List ℕ) (at end : ℕ) (kind : Kind) → at ≤ end → at < length text → end ≤ length text
    → is_word_byte (get_or text at 0) ≡ true → (end < length text → is_word_byte (get_or text end 0) ≡ false)
    → IsPiece kind (slice_range text at end) → IsTokenAt text at (record { kind = kind; at = at; end = end })
word_token text at end kind from inside within first stop piece = record {
  at_is = refl;
  longest = word_longest text at end kind (word_some text at end from inside first stop) within first stop piece;
}

number_refused : (kind : Kind) (piece : List ℕ) → IsNumberKind kind → IsPiece kind piece
    → IsNoNumber piece → ⊥
number_refused (Number width value) piece number is none = none width value is
number_refused other piece number is none = absurd number

number_ends : (text : List ℕ) (at n end : ℕ) (kind : Kind) → end ≤ length text
    → ((k : ℕ) → at ≤ k → k < end → is_word_byte (get_or text k 0) ≡ true) → IsNumberKind kind → IsLongest text at n kind → end ≤ n
number_ends text at n end kind within run number longest = ⊎_elim
    (λ (less : n < end).
    let some = longest.some in
    absurd (apart (is_word_byte (get_or text n 0)) (longest.alone number (omega arith)) (run n (omega arith) less)))
    (λ (most : end ≤ n). most)
    (cases_lt n end)

-- a word that begins with a digit and is no number is no token, nor is a front of it
pub no_word_token : (text : List ℕ) (at end : ℕ) → at ≤ end → at < length text → end ≤ length text → is_word_byte (get_or text at 0) ≡ true
    → ((k : ℕ) → at ≤ k → k < end → is_word_byte (get_or text k 0) ≡ true)
    → (end < length text → is_word_byte (get_or text end 0) ≡ false)
    → (is_ascii_digit (get_or (slice_range text at end) 0 0) ≡ true) × IsNoNumber (slice_range text at end)
    → HasNoToken text at
no_word_token text at end from inside within first run stop refused n kind longest =
    let some : at < end = word_some text at end from inside first stop in
    let here = longest.some in
    let D : ℕ → Type 0 = λ byte. is_ascii_digit byte ≡ true in
    let W : ℕ → Type 0 = λ byte. is_word_byte byte ≡ true in
    let digit = subst D (range_first text at end some ∙ sym (range_first text at n here)) refused.0 in
    let number = digit_piece kind (slice_range text at n) (range_some text at n here longest.within) longest.piece digit in
    let low : end ≤ n = number_ends text at n end kind within run number longest in
    let high : n ≤ end =
    run_bounds text at end n from longest.within stop
    (word_piece kind (slice_range text at n) longest.piece (subst W (sym (range_first text at n here)) first)) in
    let same : n ≡ end = omega arith in
    let P : ℕ → Type 0 = λ place. IsPiece kind (slice_range text at place) in
    number_refused kind (slice_range text at end) number (subst P same longest.piece) refused.1

-- ---- signs

pub sign_longest : (text : List ℕ) (at code len : ℕ) → is_word_byte (get_or text at 0) ≡ false → get_or text at 0 ≢ 35
    → IsLongestSign text at code len → IsLongest text at (at + len) (Sign code)
sign_longest text at code len first other sign = record {
  some = (let some = sign.some in omega arith);
  within = sign.within;
  piece = sign.sign;
  longest = λ kind n after inside is.
      let head = range_first text at n after in
      let P : ℕ → Type 0 = λ byte. is_word_byte byte ≡ false in
      let found = sign_piece kind (slice_range text at n) (range_some text at n after inside) is (subst P (sym head) first) (λ hash. other (sym head ∙ hash)) in
      sign.longest found.0 n after inside found.1;
  alone = λ number. absurd number;
}

pub sign_token : (text : List ℕ) (at code len : ℕ) → is_word_byte (get_or text at 0) ≡ false → get_or text at 0 ≢ 35
    → IsLongestSign text at code len → IsTokenAt text at (record { kind = Sign code; at = at; end = at + len })
sign_token text at code len first other sign = record { at_is = refl; longest = sign_longest text at code len first other sign }

-- where no letter, digit, `_` or `#` and no sign stands, no token does
pub no_sign_token : (text : List ℕ) (at : ℕ) → is_word_byte (get_or text at 0) ≡ false → get_or text at 0 ≢ 35
    → ((code end : ℕ) → at < end → end ≤ length text → IsWordAt signs code (slice_range text at end) → ⊥) → HasNoToken text at
no_sign_token text at first other none n kind longest =
    let head = range_first text at n longest.some in
    let P : ℕ → Type 0 = λ byte. is_word_byte byte ≡ false in
    let found = sign_piece kind (slice_range text at n) (range_some text at n longest.some longest.within) longest.piece
    (subst P (sym head) first) (λ hash. other (sym head ∙ hash)) in
    none found.0 n longest.some longest.within found.1
