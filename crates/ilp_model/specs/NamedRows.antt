-- Rows and sums over variables by name; this project's own.
use Rattle.std.specs.Prelude.{ℕ, ℤ, pos, neg_ℤ, ◌+ℤ◌, ◌*ℤ◌, ◌≤ℤ◌, List, [], ◌∷◌, map}
use Rattle.ilp_model.specs.Variables.{Variable}

-- a variable times a whole number
pub record NamedPart : Type 0 where
  pub variable : Variable
  pub by : ℤ

-- the sum of the parts is at most a number
pub record NamedRow : Type 0 where
  pub parts : List NamedPart
  pub most : ℤ

abbrev pub part : ℤ → Variable → NamedPart
part by variable = record { variable = variable; by = by }

abbrev pub row : List NamedPart → ℤ → NamedRow
row parts most = record { parts = parts; most = most }

-- for each of a list a variable, times a number or times its negative
abbrev pub plus : {A : Type 0} → (A → ℕ) → (A → Variable) → List A → List NamedPart
plus factor name ones = map (λ one. part (pos (factor one)) (name one)) ones

abbrev pub minus : {A : Type 0} → (A → ℕ) → (A → Variable) → List A → List NamedPart
minus factor name ones = map (λ one. part (neg_ℤ (pos (factor one))) (name one)) ones

abbrev pub once : {A : Type 0} → A → ℕ
once one = 1

-- what the parts add up to, where each variable has a value
abbrev pub sum_of : List NamedPart → (Variable → ℕ) → ℤ
sum_of [] value = pos 0
sum_of (first ∷ rest) value = first.by *ℤ pos (value first.variable) +ℤ sum_of rest value

-- the row holds
abbrev pub Holds : (Variable → ℕ) → NamedRow → Type 0
Holds value row = sum_of row.parts value ≤ℤ row.most
