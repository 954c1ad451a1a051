-- A vector is a finite map from the place of a location and an index to a word; this project's own.
use Rattle.std.specs.Prelude.{◌≡◌, ◌≢◌, ℕ, Bool, List, slice_index, unwrap_or, IfSome, if◌then◌else◌}
use Rattle.std.specs.Ordering.{nat_cmp}
use Rattle.std.specs.Cmp.Lexicographic.{slice_cmp}
use Rattle.std.specs.FinMap as map
use Rattle.elx_bits.specs.Words.{BitWord}
use Rattle.elastic_ast.specs.declared.flat.Location.{Location}
use Rattle.elastic_ast.specs.declared.flat.Location.TheVariants as location

-- by the places in the order of their numbers, so that maps with the same values are equal
abbrev pub Vectored : Type 0
Vectored = map.FinMap (slice_cmp nat_cmp) BitWord

-- the word at a place; a place that the map lacks gives a word of no width
abbrev pub value_at : Vectored → List ℕ → BitWord
value_at vector place = unwrap_or (map.get vector place) (0, 0)

-- the vector with a word at a place, where the test says that it is written
abbrev pub put_if : Bool → Vectored → List ℕ → BitWord → Vectored
put_if written vector place word = if written then map.insert vector place word else vector

-- both have the same places
abbrev pub SamePlaces : Vectored → Vectored → Type 0
SamePlaces a b = (place : List ℕ) → map.contains_key a place ≡ map.contains_key b place

-- a value of this width may stand at this location: a validity bit has the width 1
abbrev pub MayStand : Location → ℕ → Type 0
MayStand (location.Valid header) width = width ≡ 1
MayStand (location.Header header field) width = Unit {0}
MayStand (location.Meta name own) width = Unit {0}
MayStand (location.Std name) width = Unit {0}
MayStand (location.Pred number own) width = Unit {0}
MayStand (location.Reg name own) width = Unit {0}

-- each validity bit of a vector has the width 1; 1 is the first number of its place
abbrev pub BitsOfValidity : Vectored → Type 0
BitsOfValidity vector = (place : List ℕ) → slice_index place 0 ≡ 1 → IfSome (map.get vector place) (λ word. word.0 ≡ 1)

-- two writes to different places may change order
abbrev pub WritesCommute : Type 0
WritesCommute =
    (vector : Vectored) (p q : List ℕ) (v w : BitWord) → p ≢ q
    → map.insert (map.insert vector p v) q w ≡ map.insert (map.insert vector q w) p v

-- after a write the place has what was written
abbrev pub WritesAreRead : Type 0
WritesAreRead = (vector : Vectored) (p : List ℕ) (w : BitWord) → value_at (map.insert vector p w) p ≡ w

-- and each other place has what it had
abbrev pub WritesStay : Type 0
WritesStay =
    (vector : Vectored) (p q : List ℕ) (w : BitWord) → p ≢ q → value_at (map.insert vector p w) q ≡ value_at vector q
