-- The signs at which the spelling of a part of a table goes on, this project's own: where none of them follows, the part is
-- read whole.
use Rattle.std.specs.Prelude.{ℕ, List, [], ◌∷◌, codes}
use Rattle.spelling.specs.Grammar.{Grammar}
use Rattle.spelling.specs.Reading.{Ends}

-- after a value a mask may follow
abbrev pub set_signs : List (List ℕ)
set_signs = codes "&&&" ∷ []

-- after a set of a list one more
abbrev pub set_list_signs : List (List ℕ)
set_list_signs = codes "&&&" ∷ codes "," ∷ []

-- a set is read whole, alone and in a list
abbrev pub EndsSet : Grammar
EndsSet = Ends set_signs

abbrev pub EndsSetList : Grammar
EndsSetList = Ends set_list_signs
