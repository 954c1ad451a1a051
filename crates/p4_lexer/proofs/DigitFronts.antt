-- What the digits of a number say of those in front: none is too great for the base, and their value isn't more.
use Rattle.std.proofs.Common.{◌≡◌, ◌≢◌, ◌∙◌, ◌<◌, ◌≤◌, ◌+◌, ◌*◌, ◌^◌, ◌++◌, ◌∷◌, [], ℕ, List, length, ap, sym, subst, get_or, take, drop, arith, add-one, append_assoc}
use Rattle.std.specs.Char.{digit_value}
use Rattle.std.specs.Str.Parse.{digits_value, AllDigits}
use Rattle.std.proofs.lemmas.List.{take-append-drop}
use Rattle.std.proofs.Math.Seq.{take-append_seam, drop-cons}
use Rattle.std.proofs.lemmas.Str.Parse.{digits_value-take-le}
use Rattle.std.proofs.lemmas.Int.Digits.{digits_value_push}
use Rattle.p4_lexer.specs.Numbers.{plain, IsInBase, IsWidth}
use Rattle.p4_lexer.proofs.PlainDigits.{AreRead, IsWidthSoFar, plain-append, plain_digit}

digit_inside : (base : ℕ) (xs : List ℕ) (c : ℕ) (ys : List ℕ) → AllDigits base (xs ++ c ∷ ys) → digit_value c < base
digit_inside base [] c ys all = all.0
digit_inside base (x ∷ xs) c ys all = digit_inside base xs c ys all.1

value_front : (base : ℕ) (xs : List ℕ) (c : ℕ) (ys : List ℕ) → 1 ≤ base
    → digits_value base xs * base + digit_value c ≤ digits_value base (xs ++ c ∷ ys)
value_front base xs c ys some =
    let front : List ℕ = xs ++ c ∷ [] in
    let P : List ℕ → Type 0 = λ list. digits_value base list ≤ digits_value base (front ++ ys) in
    let Q : List ℕ → Type 0 = λ list. digits_value base front ≤ digits_value base list in
    let R : ℕ → Type 0 = λ n. n ≤ digits_value base (xs ++ c ∷ ys) in
    subst R (digits_value_push base xs c)
    (subst Q (append_assoc xs (c ∷ []) ys) (subst P (take-append_seam front ys) (digits_value-take-le base (front ++ ys) (length front) some)))

-- a list is what stands before a place, the element there, and what stands behind it
pub split_at : (bytes : List ℕ) (i : ℕ) → i < length bytes → bytes ≡ take i bytes ++ get_or bytes i 0 ∷ drop (i + 1) bytes
split_at bytes i within =
    sym (take-append-drop i bytes)
    ∙ ap (λ list. take i bytes ++ list) (drop-cons bytes i 0 within ∙ ap (λ n. get_or bytes i 0 ∷ drop n bytes) (sym (add-one i)))

plain_split : (bytes : List ℕ) (i : ℕ) → i < length bytes → get_or bytes i 0 ≢ 95
    → plain bytes ≡ plain (take i bytes) ++ get_or bytes i 0 ∷ plain (drop (i + 1) bytes)
plain_split bytes i within other =
    ap (λ list. plain list) (split_at bytes i within)
    ∙ plain-append (take i bytes) (get_or bytes i 0 ∷ drop (i + 1) bytes)
    ∙ ap (λ list. plain (take i bytes) ++ list)
    (plain-append (get_or bytes i 0 ∷ []) (drop (i + 1) bytes) ∙ ap (λ list. list ++ plain (drop (i + 1) bytes)) (plain_digit (get_or bytes i 0) other))

-- where a byte is no digit of the base, or the value with it is too great, no number stands
pub no_value : (base : ℕ) (bytes : List ℕ) (i value : ℕ) → 2 ≤ base → i < length bytes → AreRead base (take i bytes) value
    → get_or bytes i 0 ≢ 95
    → (digit_value (get_or bytes i 0) < base → 2 ^ 128 ≤ value * base + digit_value (get_or bytes i 0))
    → (whole : ℕ) → whole < 2 ^ 128 → IsInBase base whole bytes → ⊥
no_value base bytes i value low within read other none whole small number =
    let byte : ℕ = get_or bytes i 0 in
    let rest : List ℕ = plain (drop (i + 1) bytes) in
    let split = plain_split bytes i within other in
    let P : List ℕ → Type 0 = λ list. AllDigits base list in
    let digit : digit_value byte < base = digit_inside base (plain (take i bytes)) byte rest (subst P split number.digits) in
    let most = value_front base (plain (take i bytes)) byte rest (omega arith) in
    let whole_is : whole ≡ digits_value base (plain (take i bytes) ++ byte ∷ rest) = number.value_is ∙ ap (λ list. digits_value base list) split in
    let value_is : value * base + digit_value byte ≡ digits_value base (plain (take i bytes)) * base + digit_value byte =
    ap (λ n. n * base + digit_value byte) read.value_is in
    let great : 2 ^ 128 ≤ value * base + digit_value byte = none digit in
    omega arith

-- where a byte is no decimal digit, or the value with it is too great, no width stands
pub no_digit : (bytes : List ℕ) (i : ℕ) → i < length bytes → 10 ≤ digit_value (get_or bytes i 0)
    → (width : ℕ) → IsWidth width bytes → ⊥
no_digit bytes i within great width is =
    let P : List ℕ → Type 0 = λ list. AllDigits 10 list in
    let low : digit_value (get_or bytes i 0) < 10 =
    digit_inside 10 (take i bytes) (get_or bytes i 0) (drop (i + 1) bytes) (subst P (split_at bytes i within) is.digits) in
    omega arith

pub too_wide : (bytes : List ℕ) (i so_far digit : ℕ) → i < length bytes → IsWidthSoFar (take i bytes) so_far
    → digit ≡ digit_value (get_or bytes i 0) → 128 < so_far * 10 + digit → (width : ℕ) → IsWidth width bytes → ⊥
too_wide bytes i so_far digit within read digit_is wide width is =
    let byte : ℕ = get_or bytes i 0 in
    let front : ℕ = digits_value 10 (take i bytes) in
    let most : front * 10 + digit_value byte ≤ digits_value 10 (take i bytes ++ byte ∷ drop (i + 1) bytes) =
    value_front 10 (take i bytes) byte (drop (i + 1) bytes) (omega arith) in
    let width_is : width ≡ digits_value 10 (take i bytes ++ byte ∷ drop (i + 1) bytes) =
    is.value_is ∙ ap (λ list. digits_value 10 list) (split_at bytes i within) in
    let front_is : so_far ≡ front = read.value_is in
    let high = is.high in
    omega arith
