-- A location and an index as one list of numbers, which tells both; the coding is this project's own.
use Rattle.std.specs.Prelude.{◌≡◌, ℕ, ◌+◌, Bool, true, false, List, [], ◌∷◌, ◌++◌, length, is_some, Option, Some, None}
use Rattle.elastic_ast.specs.declared.flat.Location.{Location}
use Rattle.elastic_ast.specs.declared.flat.Location.TheVariants as location
use Rattle.elastic_ast.specs.declared.statements.Lval.{Lval}
use Rattle.elastic_ast.specs.declared.statements.Lval.TheVariants as lval

-- no index is 0, and an index is one more than its number
abbrev pub index_code : Option ℕ → ℕ
index_code None = 0
index_code (Some index) = index + 1

abbrev pub flag_code : Bool → ℕ
flag_code false = 0
flag_code true = 1

-- the place of a location at an index: a number that tells the kind, the code of the index, and the parts of the
-- location. Of two names the length of the first stands before both.
abbrev pub place : Location → Option ℕ → List ℕ
place (location.Header header field) index = 0 ∷ index_code index ∷ length header ∷ (header ++ field)
place (location.Valid header) index = 1 ∷ index_code index ∷ header
place (location.Meta name own) index = 2 ∷ index_code index ∷ flag_code own ∷ name
place (location.Std name) index = 3 ∷ index_code index ∷ name
place (location.Pred number own) index = 4 ∷ index_code index ∷ flag_code own ∷ number ∷ []
place (location.Reg name own) index = 5 ∷ index_code index ∷ flag_code own ∷ name

-- only what is own, an element of an array for one, has the index around it
abbrev pub index_at : Bool → Option ℕ → Option ℕ
index_at true index = index
index_at false index = None

-- the place of what a statement names
abbrev pub place_of_lval : Lval → Option ℕ → List ℕ
place_of_lval (lval.Header header field) index = place (location.Header header field) None
place_of_lval (lval.Meta name at) index = place (location.Meta name (is_some at)) (index_at (is_some at) index)
place_of_lval (lval.Std name) index = place (location.Std name) None

-- the place of a header's validity bit
abbrev pub valid_place : List ℕ → List ℕ
valid_place header = place (location.Valid header) None

-- no two locations, and no location at two indices, have one place
abbrev pub PlacesTell : Type 0
PlacesTell = (a b : Location) (i j : Option ℕ) → place a i ≡ place b j → (a ≡ b) × (i ≡ j)
