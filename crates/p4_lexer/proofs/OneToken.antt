-- At one place of a text begins one token at most.
use Rattle.std.proofs.Common.{◌≡◌, ◌∙◌, ◌<◌, ◌≤◌, ℕ, List, true, length, get_or, refl, ap, subst, arith, Option}
use Rattle.std.specs.Prelude.{slice_range}
use Rattle.std.specs.Char.{is_ascii_digit}
use Rattle.case_table.specs.Rows.{IsWordAt}
use Rattle.p4_lexer.specs.declared.token.Kind.{Kind}
use Rattle.p4_lexer.specs.declared.token.Kind.TheVariants.{Reserved, Sign, Name, Number, Include}
use Rattle.p4_lexer.specs.Numbers.{IsNumberText}
use Rattle.p4_lexer.specs.Pieces.{reserved_words, signs, is_word_byte, IsPiece}
use Rattle.p4_lexer.specs.Tokens.{IsLongest}
use Rattle.p4_lexer.proofs.PieceBytes.{apart, reserved_is_words, sign_first, sign_is_no_hash, include_first, hash_is_no_word, reserved_no_digit, range_some}
use Rattle.p4_lexer.proofs.NumberBytes.{number_is_words, number_first}
use Rattle.p4_lexer.proofs.OneNumber.{one_number}
use Rattle.p4_lexer.proofs.IncludeTokens.{one_include}
use Rattle.p4_lexer.proofs.OnePlace.{are_distinct, one_code}

one_reserved : (code other : ℕ) (piece : List ℕ) → IsWordAt reserved_words code piece → IsWordAt reserved_words other piece → code ≡ other
unfolding reserved_words are_distinct
one_reserved code other piece at second = one_code reserved_words code other piece refl at second

one_sign : (code other : ℕ) (piece : List ℕ) → IsWordAt signs code piece → IsWordAt signs other piece → code ≡ other
unfolding signs are_distinct
one_sign code other piece at second = one_code signs code other piece refl at second

-- a sign is nothing that begins with a letter, a digit or `_`
sign_or_word : (code : ℕ) (piece : List ℕ) → IsWordAt signs code piece → is_word_byte (get_or piece 0 0) ≡ true → ⊥
sign_or_word code piece sign word = apart (is_word_byte (get_or piece 0 0)) (sign_first code piece sign) word

reserved_or_number : (code : ℕ) (width : Option ℕ) (value : ℕ) (piece : List ℕ) → IsWordAt reserved_words code piece → IsNumberText width value piece → ⊥
reserved_or_number code width value piece reserved number =
    apart (is_ascii_digit (get_or piece 0 0)) (reserved_no_digit code piece reserved) (number_first width value piece number)

name_or_number : (width : Option ℕ) (value : ℕ) (piece : List ℕ) → IsPiece Name piece → IsNumberText width value piece → ⊥
name_or_number width value piece name number = apart (is_ascii_digit (get_or piece 0 0)) name.first (number_first width value piece number)

-- the bytes of a piece tell its kind
one_kind : (kind other : Kind) (piece : List ℕ) → 0 < length piece → IsPiece kind piece → IsPiece other piece → kind ≡ other
one_kind (Reserved code) (Reserved other) piece some is second = ap (λ n. Reserved n) (one_reserved code other piece is second)
one_kind (Reserved code) (Sign other) piece some is second = absurd (sign_or_word other piece second (reserved_is_words code piece is 0 0 some))
one_kind (Reserved code) Name piece some is second = absurd (second.free code is)
one_kind (Reserved code) (Number width value) piece some is second = absurd (reserved_or_number code width value piece is second)
one_kind (Reserved code) (Include other) piece some is second =
    absurd (hash_is_no_word (get_or piece 0 0) (include_first other piece second) (reserved_is_words code piece is 0 0 some))
one_kind (Sign code) (Reserved other) piece some is second = absurd (sign_or_word code piece is (reserved_is_words other piece second 0 0 some))
one_kind (Sign code) (Sign other) piece some is second = ap (λ n. Sign n) (one_sign code other piece is second)
one_kind (Sign code) Name piece some is second = absurd (sign_or_word code piece is (second.bytes 0 0 some))
one_kind (Sign code) (Number width value) piece some is second =
    absurd (sign_or_word code piece is (number_is_words width value piece second 0 0 some))
one_kind (Sign code) (Include other) piece some is second = absurd (sign_is_no_hash code piece is (include_first other piece second))
one_kind Name (Reserved other) piece some is second = absurd (is.free other second)
one_kind Name (Sign other) piece some is second = absurd (sign_or_word other piece second (is.bytes 0 0 some))
one_kind Name Name piece some is second = refl
one_kind Name (Number width value) piece some is second = absurd (name_or_number width value piece is second)
one_kind Name (Include other) piece some is second =
    absurd (hash_is_no_word (get_or piece 0 0) (include_first other piece second) (is.bytes 0 0 some))
one_kind (Number width value) (Reserved other) piece some is second = absurd (reserved_or_number other width value piece second is)
one_kind (Number width value) (Sign other) piece some is second =
    absurd (sign_or_word other piece second (number_is_words width value piece is 0 0 some))
one_kind (Number width value) Name piece some is second = absurd (name_or_number width value piece second is)
one_kind (Number width value) (Number other more) piece some is second =
    let same = one_number width value other more piece is second in
    ap (λ w. Number w value) same.0 ∙ ap (λ v. Number other v) same.1
one_kind (Number width value) (Include other) piece some is second =
    absurd (hash_is_no_word (get_or piece 0 0) (include_first other piece second) (number_is_words width value piece is 0 0 some))
one_kind (Include code) (Reserved other) piece some is second =
    absurd (hash_is_no_word (get_or piece 0 0) (include_first code piece is) (reserved_is_words other piece second 0 0 some))
one_kind (Include code) (Sign other) piece some is second = absurd (sign_is_no_hash other piece second (include_first code piece is))
one_kind (Include code) Name piece some is second =
    absurd (hash_is_no_word (get_or piece 0 0) (include_first code piece is) (second.bytes 0 0 some))
one_kind (Include code) (Number width value) piece some is second =
    absurd (hash_is_no_word (get_or piece 0 0) (include_first code piece is) (number_is_words width value piece second 0 0 some))
one_kind (Include code) (Include other) piece some is second = ap (λ n. Include n) (one_include code other piece is second)

-- two longest pieces at one place end there together, and are of one kind
pub one_longest : (text : List ℕ) (at end other : ℕ) (kind second : Kind) → IsLongest text at end kind → IsLongest text at other second
    → (end ≡ other) × (kind ≡ second)
one_longest text at end other kind second first next =
    let low : other ≤ end = first.longest second other next.some next.within next.piece in
    let high : end ≤ other = next.longest kind end first.some first.within first.piece in
    let same : end ≡ other = omega arith in
    let P : ℕ → Type 0 = λ place. IsPiece kind (slice_range text at place) in
    (same, one_kind kind second (slice_range text at other) (range_some text at other next.some next.within) (subst P same first.piece) next.piece)
