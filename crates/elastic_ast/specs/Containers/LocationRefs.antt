-- The location that borrowed parts name; this project's own.
use Rattle.std.specs.Prelude.{ℕ, List, Option}
use Rattle.elastic_ast.specs.Containers.LocationPlaces.{place}
use Rattle.elastic_ast.specs.declared.flat.Location.{Location}
use Rattle.elastic_ast.specs.declared.flat.Location.TheVariants as location
use Rattle.elastic_ast.specs.declared.location_ref.LocationRef.{LocationRef}
use Rattle.elastic_ast.specs.declared.location_ref.LocationRef.TheVariants as part

abbrev pub seen_ref : LocationRef → Location
seen_ref (part.Header header field) = location.Header header.now field.now
seen_ref (part.Valid header) = location.Valid header.now
seen_ref (part.Meta name own) = location.Meta name.now own
seen_ref (part.Std name) = location.Std name.now
seen_ref (part.Pred number own) = location.Pred number own
seen_ref (part.Reg name own) = location.Reg name.now own

abbrev pub ref_place : LocationRef → Option ℕ → List ℕ
ref_place spot index = place (seen_ref spot) index
