-- Locations that are gathered one after the other, each where it comes first; this project's own.
use Rattle.std.specs.Prelude.{◌≡◌, ℕ, List, [], ◌∷◌, ◌++◌, map, None, if◌then◌else◌}
use Rattle.elastic_ast.specs.declared.flat.Location.{Location}
use Rattle.elastic_ast.specs.Containers.LocationPlaces.{place}
use Rattle.elastic_ast.specs.Containers.Slots.{place_hash}
use Rattle.elastic_ast.specs.Tree.{PlainEntry}
use Rattle.elastic_ast.specs.Units.Reach.{is_among, sets_read, exprs_read}

-- the locations with one more, if it isn't among them
abbrev pub with_location : List Location → Location → List Location
with_location known at = if is_among known at then known else known ++ at ∷ []

-- the locations with some more, each if it isn't among those before it
abbrev pub with_locations : List Location → List Location → List Location
with_locations known [] = known
with_locations known (at ∷ rest) = with_locations (with_location known at) rest

abbrev pub location_hash : Location → ℕ
location_hash at = place_hash (place at None)

-- to the locations others were added, each if it wasn't among them
abbrev pub Adds : List Location → List Location → List Location → Type 0
Adds old new more = new ≡ with_locations old more

-- these are the hashes of locations, in the same order
abbrev pub HasHashes : List ℕ → List Location → Type 0
HasHashes hashes locations = hashes ≡ map location_hash locations

-- what an entry of a table reads
abbrev pub entry_reads : PlainEntry → List Location
entry_reads entry = sets_read entry.keys ++ exprs_read entry.args
