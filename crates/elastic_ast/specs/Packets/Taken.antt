-- What the parser takes from a packet: the words of the vector and the unparsed bytes, or a refusal (P4-16 language
-- specification 1.2.3, its section on packet parsing; what a port is and where fields start are this project's own).
use Rattle.std.specs.Prelude.{ℕ, zero, suc, ◌+◌, ◌*◌, ◌/◌, nat_le, List, [], ◌∷◌, length, drop, find, Option, Some, None, option_map, option_and_then, unwrap_or, codes, if◌then◌else◌}
use Rattle.elastic_ast.specs.Typing.LanguageLimits.{port_width}
use Rattle.elastic_ast.specs.declared.flat.Location.TheVariants as location
use Rattle.elastic_ast.specs.declared.flat.Packet.{Packet}
use Rattle.elastic_ast.specs.declared.declarations.Field.{Field}
use Rattle.elastic_ast.specs.Tree.{Name, PlainDecl, PlainKeyset, PlainNext, PlainState}
use Rattle.elastic_ast.specs.Typing.Scope.{same, found}
use Rattle.elastic_ast.specs.Containers.LocationPlaces.{place, valid_place}
use Rattle.elastic_ast.specs.Typing.LookUps.{header_fields, bits_of_fields}
use Rattle.elastic_ast.specs.Typing.Types.{Ty, Bare, type_of}
use Rattle.elastic_ast.specs.Meaning.Memory.{Words, Memory, Writes, held, words_of, nothing, over, and_then, put}
use Rattle.elastic_ast.specs.Meaning.Values.{Setting, names_of, value}
use Rattle.elastic_ast.specs.Meaning.Matches.{in_set}
use Rattle.elastic_ast.specs.Meaning.Written.{outside}
use Rattle.elastic_ast.specs.Packets.Locations.{zero_words}
use Rattle.elastic_ast.specs.Packets.PacketBits.{bits_at}
use Rattle.elastic_ast.specs.Packets.MainParts.{states_of}

-- each field of a header gets its bits, the first field those from `start` on
abbrev pub fields_writes : List ℕ → Name → ℕ → List Field → Writes
fields_writes bytes header start [] = nothing
fields_writes bytes header start (field ∷ fields) =
    and_then (put (place (location.Header header field.name) None) (field.width, bits_at bytes start field.width))
    (fields_writes bytes header (start + field.width) fields)

-- the memory so far, and how many bits of the packet are behind
pub record Parsed : Type 0 where
  pub memory : Memory
  pub bits : ℕ

-- a header is extracted: all its bits must be there, and it becomes valid
abbrev pub extracted : List PlainDecl → List ℕ → Parsed → Name → Option Parsed
extracted decls bytes parsed header =
    let fields = header_fields decls header in
    let writes = and_then (put (valid_place header) (1, 1)) (fields_writes bytes header parsed.bits fields) in
    if nat_le (parsed.bits + bits_of_fields fields) (8 * length bytes)
    then Some (record { memory = over writes parsed.memory; bits = parsed.bits + bits_of_fields fields })
    else None

abbrev pub all_extracted : List PlainDecl → List ℕ → Parsed → List Name → Option Parsed
all_extracted decls bytes parsed [] = Some parsed
all_extracted decls bytes parsed (header ∷ headers) =
    option_and_then (λ more. all_extracted decls bytes more headers) (extracted decls bytes parsed header)

-- where a case leads if the value is in its set
abbrev pub case_next : Setting → Memory → Ty → ℕ → PlainKeyset × Name → Option Name
case_next setting memory width key option = if in_set setting memory width key option.0 then Some option.1 else None

-- the next state: that of the first case that matches, and without one `reject`
abbrev pub next_of : Setting → Memory → PlainNext → Name
next_of setting memory (PlainNext.To state) = state
next_of setting memory (PlainNext.Select key cases) =
    let width = type_of (names_of setting) key in
    unwrap_or (found (case_next setting memory width (value setting memory key Bare)) cases) (codes "reject")

-- from a state to the end, through at most as many states as the number says: what is parsed at `accept`, and nothing at
-- `reject`
abbrev pub parsed_from : ℕ → List PlainDecl → List ℕ → List PlainState → List ℕ → Name → Parsed → Option Parsed
parsed_from zero decls sizes states bytes name parsed = if same name (codes "accept") then Some parsed else None
parsed_from (suc most) decls sizes states bytes name parsed =
    if same name (codes "accept") then Some parsed else
    (option_and_then
    (λ (state : PlainState).
    option_and_then (λ (more : Parsed). parsed_from most decls sizes states bytes (next_of (outside decls sizes None) more.memory state.next) more)
    (all_extracted decls bytes parsed state.extracts))
    (find (λ (state : PlainState). same name state.name) states))

-- before the parser: all is 0 but the port
abbrev pub at_entry : List PlainDecl → List ℕ → ℕ → Memory
at_entry decls sizes port = over (put (place (location.Std (codes "in_port")) None) (port_width, port)) (held (zero_words decls sizes) (λ name index. []))

-- the parser from `start` on; no state comes back, so that it passes each state once at most
abbrev pub parsed_by : List PlainDecl → List ℕ → List ℕ → Parsed → Option (List PlainState) → Option Parsed
parsed_by decls sizes bytes entry (Some states) = parsed_from (length states) decls sizes states bytes (codes "start") entry
parsed_by decls sizes bytes entry None = Some entry

abbrev pub taken_of : List ℕ → Parsed → Words × List ℕ
taken_of bytes parsed = (words_of parsed.memory, drop (parsed.bits / 8) bytes)

-- the words of the vector and the bytes that are left, or nothing where the packet is rejected. Without a parser the
-- packet is taken unread.
abbrev pub taken : List PlainDecl → List ℕ → Packet → Option (Words × List ℕ)
taken decls sizes packet =
    option_map (taken_of packet.bytes)
    (parsed_by decls sizes packet.bytes (record { memory = at_entry decls sizes packet.port; bits = 0 }) (states_of decls))
