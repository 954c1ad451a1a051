-- The bytes that a packet leaves with: those of the emitted valid headers in order, and then the unparsed ones (P4-16
-- language specification 1.2.3, its section on deparsing).
use Rattle.std.specs.Prelude.{ℕ, ◌+◌, ◌*◌, ◌/◌, ◌^◌, ◌==◌, List, [], ◌++◌, fold, flat_map, None, if◌then◌else◌}
use Rattle.elastic_ast.specs.declared.flat.Location.TheVariants as location
use Rattle.elastic_ast.specs.declared.declarations.Field.{Field}
use Rattle.elastic_ast.specs.Tree.{Name, PlainDecl}
use Rattle.elastic_ast.specs.Containers.LocationPlaces.{place, valid_place}
use Rattle.elastic_ast.specs.Typing.LookUps.{header_fields, bits_of_fields}
use Rattle.elastic_ast.specs.Meaning.Memory.{Words}
use Rattle.elastic_ast.specs.Packets.MainParts.{emits_of}
use Rattle.elastic_ast.specs.Packets.PacketBits.{bytes_of}

-- the bits of the fields as one number, the first field highest
abbrev pub fields_number : Words → Name → List Field → ℕ
fields_number words header fields =
    fold (λ number field. number * 2 ^ field.width + (words (place (location.Header header field.name) None)).1) 0 fields

-- the bytes of a header, where it is valid
abbrev pub emitted : List PlainDecl → Words → Name → List ℕ
emitted decls words header =
    let fields = header_fields decls header in
    if (words (valid_place header)).1 == 1 then bytes_of (bits_of_fields fields / 8) (fields_number words header fields) else []

abbrev pub given : List PlainDecl → Words → List ℕ → List ℕ
given decls words rest = flat_map (emitted decls words) (emits_of decls) ++ rest
