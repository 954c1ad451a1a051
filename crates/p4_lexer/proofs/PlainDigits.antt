-- The digits of a number and of a width that are read so far.
use Rattle.std.proofs.Common.{◌≡◌, ◌≢◌, ◌∙◌, ◌<◌, ◌≤◌, ◌+◌, ◌*◌, ◌++◌, ◌∷◌, [], ℕ, List, length, refl, ap, sym, subst, get_or, take, arith, append-nil, lit≤}
use Rattle.std.specs.Prelude.{◌==◌, not}
use Rattle.std.specs.Char.{digit_value}
use Rattle.std.specs.Str.Parse.{digits_value, AllDigits}
use Rattle.std.proofs.lemmas.List.{take_more}
use Rattle.std.proofs.lemmas.List.Elements.{filter-append}
use Rattle.std.proofs.lemmas.Int.Digits.{digits_value_push, digits_push, digits_value_more, digits_more}
use Rattle.std.proofs.lemmas.Bool.Decides.{nat_tests}
use Rattle.p4_lexer.specs.Numbers.{plain}

-- the value of the plain digits
pub record AreRead (base : ℕ) (bytes : List ℕ) (value : ℕ) : Type 0 where
  pub digits : AllDigits base (plain bytes)
  pub value_is : value ≡ digits_value base (plain bytes)

pub plain-append : (xs ys : List ℕ) → plain (xs ++ ys) ≡ plain xs ++ plain ys
plain-append xs ys = filter-append (λ byte. not (byte == 95)) xs ys

pub plain_digit : (byte : ℕ) → byte ≢ 95 → plain (byte ∷ []) ≡ byte ∷ []
plain_digit byte other = grind (arith, nat_tests)

plain_line : (byte : ℕ) → byte ≡ 95 → plain (byte ∷ []) ≡ []
plain_line byte same = grind (arith, nat_tests)

-- one more digit
pub read_digit : (base : ℕ) (bytes : List ℕ) (i value more : ℕ) → i < length bytes → AreRead base (take i bytes) value
    → get_or bytes i 0 ≢ 95 → digit_value (get_or bytes i 0) < base → more ≡ value * base + digit_value (get_or bytes i 0)
    → AreRead base (take (i + 1) bytes) more
read_digit base bytes i value more within read other low more_is =
    let byte : ℕ = get_or bytes i 0 in
    let all : plain (take (i + 1) bytes) ≡ plain (take i bytes) ++ byte ∷ [] =
    ap (λ list. plain list) (take_more bytes i 0 within) ∙ plain-append (take i bytes) (byte ∷ []) ∙ ap (λ list. plain (take i bytes) ++ list) (plain_digit byte other) in
    let P : List ℕ → Type 0 = λ list. AllDigits base list in
    record {
      digits = subst P (sym all) (digits_push base (plain (take i bytes)) byte read.digits low);
      value_is = more_is ∙ ap (λ n. n * base + digit_value byte) read.value_is ∙ sym (digits_value_push base (plain (take i bytes)) byte) ∙ ap (λ list. digits_value base list) (sym all);
    }

-- one more `_`
pub read_line : (base : ℕ) (bytes : List ℕ) (i value more : ℕ) → i < length bytes → AreRead base (take i bytes) value
    → get_or bytes i 0 ≡ 95 → more ≡ value → AreRead base (take (i + 1) bytes) more
read_line base bytes i value more within read same more_is =
    let byte : ℕ = get_or bytes i 0 in
    let all : plain (take (i + 1) bytes) ≡ plain (take i bytes) =
    ap (λ list. plain list) (take_more bytes i 0 within) ∙ plain-append (take i bytes) (byte ∷ [])
    ∙ ap (λ list. plain (take i bytes) ++ list) (plain_line byte same) ∙ append-nil (plain (take i bytes)) in
    let P : List ℕ → Type 0 = λ list. AllDigits base list in
    record {
      digits = subst P (sym all) read.digits;
      value_is = more_is ∙ read.value_is ∙ ap (λ list. digits_value base list) (sym all);
    }

-- one more digit of a width
pub record IsWidthSoFar (bytes : List ℕ) (width : ℕ) : Type 0 where
  pub digits : AllDigits 10 bytes
  pub value_is : width ≡ digits_value 10 bytes
  pub high : width ≤ 128

pub width_none : IsWidthSoFar [] 0
width_none = record { digits = tt; value_is = refl; high = lit≤ tt }

pub width_more : (bytes : List ℕ) (i width digit : ℕ) → i < length bytes → IsWidthSoFar (take i bytes) width
    → digit_value (get_or bytes i 0) < 10 → digit ≡ digit_value (get_or bytes i 0) → width * 10 + digit ≤ 128
    → IsWidthSoFar (take (i + 1) bytes) (width * 10 + digit)
width_more bytes i width digit within so_far low digit_is high =
    let byte : ℕ = get_or bytes i 0 in
    record {
      digits = digits_more 10 bytes i within so_far.digits low;
      value_is = ap (λ n. n * 10 + digit) so_far.value_is ∙ ap (λ n. digits_value 10 (take i bytes) * 10 + n) digit_is ∙ sym (digits_value_more 10 bytes i within);
      high = high;
    }
