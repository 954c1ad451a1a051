-- Which bytes spell a number, and its width and value. This project's own.
use Rattle.std.specs.Prelude.{◌≡◌, ◌≢◌, ◌^◌, ◌<◌, ◌≤◌, ◌==◌, ◌⊎◌, ◌∷◌, ◌++◌, ℕ, not, List, Option, Some, None, length, filter, slice_index, if◌then◌else◌, ◌||◌}
use Rattle.std.specs.Str.Parse.{digits_value, AllDigits}

-- the bytes of a number but for each `_`, which only parts digits
abbrev pub plain : List ℕ → List ℕ
plain bytes = filter (λ byte. not (byte == 95)) bytes

-- digits of the base, of which the first stands in front and any `_` behind it, have this value
pub record IsInBase (base value : ℕ) (bytes : List ℕ) : Type 0 where
  pub some : 0 < length bytes
  pub first : slice_index bytes 0 ≢ 95
  pub digits : AllDigits base (plain bytes)
  pub value_is : value ≡ digits_value base (plain bytes)

-- the base that the letter after a leading 0 stands for: `x`, `o` or `b`, in either case
abbrev pub base_of : ℕ → Option ℕ
base_of letter =
    if letter == 120 || letter == 88 then Some 16
    else (if letter == 111 || letter == 79 then Some 8
    else (if letter == 98 || letter == 66 then Some 2 else None))

-- a 0, the letter of a base, and digits of the base
pub record IsBased (value : ℕ) (bytes : List ℕ) : Type 0 where
  pub base : ℕ
  pub letter : ℕ
  pub digits : List ℕ
  pub split : bytes ≡ 48 ∷ letter ∷ digits
  pub base_is : base_of letter ≡ Some base
  pub digits_are : IsInBase base value digits

-- a number without a width: decimal, or with the letter of its base, and below 2 to the 128
pub record IsNatural (value : ℕ) (bytes : List ℕ) : Type 0 where
  pub form : IsInBase 10 value bytes ⊎ IsBased value bytes
  pub small : value < 2 ^ 128

-- decimal digits alone, for a number from 1 to 128
pub record IsWidth (width : ℕ) (bytes : List ℕ) : Type 0 where
  pub digits : AllDigits 10 bytes
  pub value_is : width ≡ digits_value 10 bytes
  pub low : 1 ≤ width
  pub high : width ≤ 128

-- a width, a `w`, and a number without a width
pub record IsWidened (width value : ℕ) (bytes : List ℕ) : Type 0 where
  pub prefix : List ℕ
  pub rest : List ℕ
  pub split : bytes ≡ prefix ++ 119 ∷ rest
  pub width_is : IsWidth width prefix
  pub natural : IsNatural value rest

-- the bytes spell a number that has this width, or none, and this value
abbrev pub IsNumberText : Option ℕ → ℕ → List ℕ → Type 0
IsNumberText None value bytes = IsNatural value bytes
IsNumberText (Some width) value bytes = IsWidened width value bytes

-- the bytes spell no number
abbrev pub IsNoNumber : List ℕ → Type 0
IsNoNumber bytes = (width : Option ℕ) (value : ℕ) → IsNumberText width value bytes → ⊥
