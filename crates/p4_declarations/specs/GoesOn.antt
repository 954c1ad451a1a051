-- The signs at which the spelling of a part of a program goes on, this project's own: where none of them follows, the
-- part is read whole.
use Rattle.std.specs.Prelude.{ℕ, List, [], ◌∷◌, codes}
use Rattle.spelling.specs.Grammar.{Grammar}
use Rattle.spelling.specs.Reading.{Ends}

-- after a number a sign may follow with what it is times
abbrev pub product_signs : List (List ℕ)
product_signs = codes "*" ∷ []

-- after a product, or with a sign one more
abbrev pub sum_signs : List (List ℕ)
sum_signs = codes "*" ∷ codes "+" ∷ codes "-" ∷ []

-- after the sum that ends a comparison, or with a sign one more comparison
abbrev pub comparison_signs : List (List ℕ)
comparison_signs = codes "*" ∷ codes "+" ∷ codes "-" ∷ codes "&&" ∷ []

abbrev pub EndsProduct : Grammar
EndsProduct = Ends product_signs

abbrev pub EndsSum : Grammar
EndsSum = Ends sum_signs

abbrev pub EndsComparison : Grammar
EndsComparison = Ends comparison_signs
