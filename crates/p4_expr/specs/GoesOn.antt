-- The signs at which an expression or a part of one goes on, this project's own: where none of them follows, it is read whole.
use Rattle.std.specs.Prelude.{ℕ, IsTrue, List, [], ◌∷◌, drop, codes}
use Rattle.spelling.specs.Words.{Word}
use Rattle.spelling.specs.Grammar.{Begins, IsSign, is_number}

-- after an expression a binary sign, a slice, the rest of a place or the brackets of a call may follow
abbrev pub expression_signs : List (List ℕ)
expression_signs =
    codes "||" ∷ codes "&&" ∷ codes "==" ∷ codes "!=" ∷ codes "<" ∷ codes "<=" ∷ codes ">" ∷ codes ">=" ∷ codes "|" ∷ codes "^" ∷ codes "&" ∷
    codes "<<" ∷ codes "+" ∷ codes "-" ∷ codes "++" ∷ codes "*" ∷ codes "[" ∷ codes "." ∷ codes "(" ∷ []

-- a number stands first
abbrev pub BeginsNumber : List Word → Type 0
BeginsNumber ws = Begins (λ word. IsTrue (is_number word.kind)) ws

-- after a name that has no index yet an opening bracket begins an index, unless a number follows, with which a slice begins
abbrev pub EndsIndex : List Word → Type 0
EndsIndex ws = Begins (IsSign (codes "[")) ws → BeginsNumber (drop 1 ws)
