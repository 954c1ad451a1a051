-- Which locations the vector of a program has at sizes, each with its width: the fields and the validity bit of each
-- header, the metadata, the elements of its arrays, and the fields of `std`. This project's own.
use Rattle.std.specs.Prelude.{ℕ, zero, suc, true, false, List, [], ◌∷◌, ◌++◌, map, flat_map, find, option_map, unwrap_or, Option, Some, None}
use Rattle.elastic_ast.specs.declared.flat.Location.TheVariants as location
use Rattle.elastic_ast.specs.declared.declarations.Field.{Field}
use Rattle.elastic_ast.specs.Tree.{Name, PlainDecl}
use Rattle.elastic_ast.specs.Typing.Scope.{same}
use Rattle.elastic_ast.specs.Sizes.SizeSums.{symbols_of, size_of}
use Rattle.elastic_ast.specs.Containers.LocationPlaces.{place, valid_place}
use Rattle.elastic_ast.specs.Typing.LookUps.{members_of, fields_of_type, meta_fields, std_fields}
use Rattle.elastic_ast.specs.Meaning.Memory.{Words}

-- a place and the width of what stands there
abbrev pub PlaceWidth : Type 0
PlaceWidth = List ℕ × ℕ

abbrev pub field_locations : Name → List Field → List PlaceWidth
field_locations header fields = map (λ field. (place (location.Header header field.name) None, field.width)) fields

abbrev pub member_locations : List PlainDecl → Name × Name → List PlaceWidth
member_locations decls member = (valid_place member.1, 1) ∷ field_locations member.1 (fields_of_type decls member.0)

-- one for each number below the count
abbrev pub each_below : {A : Type 0} → ℕ → (ℕ → A) → List A
each_below zero make = []
each_below (suc count) make = each_below count make ++ make count ∷ []

-- a field of the metadata; an array has as many elements as the size of its symbol
abbrev pub meta_locations : List PlainDecl → List ℕ → Field → List PlaceWidth
meta_locations decls sizes field = of field.size
  where
    of : Option Name → List PlaceWidth
    of None = (place (location.Meta field.name false) None, field.width) ∷ []
    of (Some symbol) =
        each_below (size_of (symbols_of decls) sizes symbol) (λ index. (place (location.Meta field.name true) (Some index), field.width))

abbrev pub std_locations : List PlaceWidth
std_locations = map (λ field. (place (location.Std field.0) None, field.1)) std_fields

abbrev pub locations : List PlainDecl → List ℕ → List PlaceWidth
locations decls sizes = flat_map (member_locations decls) (members_of decls) ++ (flat_map (meta_locations decls sizes) (meta_fields decls) ++ std_locations)

-- the width of what stands at a place, where it is one of these
abbrev pub width_found : List PlaceWidth → List ℕ → Option ℕ
width_found places at = option_map (λ known. known.1) (find (λ known. same at known.0) places)

-- and 0 where it is none of them
abbrev pub width_at_place : List PlaceWidth → List ℕ → ℕ
width_at_place places at = unwrap_or (width_found places at) 0

-- all are 0, each in its width; a place that is none of them has a word of no width
abbrev pub zero_words : List PlainDecl → List ℕ → Words
zero_words decls sizes = λ at. (width_at_place (locations decls sizes) at, 0)
