-- A taken vector has exactly the locations of its program, each with a word of its width.
use Rattle.std.proofs.Common.{◌≡◌, ℕ, zero, suc, ◌+◌, ◌*◌, ◌<◌, ◌^◌, Bool, true, false, cond, not, ◌&&◌, ◌||◌, eqb, nat_le, List, [], ◌∷◌, ◌++◌, map, flat_map, find, length, Option, Some, None, IfSome, option_map, option_and_then, unwrap_or, refl, sym, ap, subst, ◌∙◌, true≢false, arith, codes, pow_pos, mod-lt, if◌then◌else◌}
use Rattle.std.proofs.lemmas.Bool.{and_parts, not-true, or_parts}
use Rattle.std.specs.List.{list_all}
use Rattle.std.proofs.lemmas.Slice.Eq.{bytes_eq-Decides}
use Rattle.elx_bits.specs.Words.{BitWord}
use Rattle.elastic_ast.specs.declared.flat.Location.TheVariants as location
use Rattle.elastic_ast.specs.declared.flat.Packet.{Packet}
use Rattle.elastic_ast.specs.declared.declarations.Field.{Field}
use Rattle.elastic_ast.specs.Tree.{Name, PlainDecl, PlainState}
use Rattle.elastic_ast.specs.Typing.Scope.{same, among, or_else}
use Rattle.elastic_ast.specs.Sizes.SizeSums.{symbols_of, size_of}
use Rattle.elastic_ast.specs.Containers.LocationPlaces.{place, valid_place}
use Rattle.elastic_ast.specs.Typing.LookUps.{members_of, member_name, is_member, fields_of_type, header_fields, bits_of_fields, meta_fields, width_among, std_fields}
use Rattle.elastic_ast.specs.Meaning.Memory.{Memory, Writes, At, held, written_or, over, and_then, put}
use Rattle.elastic_ast.specs.Packets.Locations.{PlaceWidth, field_locations, member_locations, each_below, meta_locations, std_locations, locations, width_found, width_at_place, zero_words}
use Rattle.elastic_ast.specs.Packets.PacketBits.{bits_at}
use Rattle.elastic_ast.specs.Packets.MainParts.{states_of}
use Rattle.elastic_ast.specs.Meaning.Written.{outside}
use Rattle.elastic_ast.specs.Packets.Taken.{Parsed, fields_writes, extracted, all_extracted, next_of, parsed_from, at_entry, parsed_by, taken_of, taken}
use Rattle.elastic_laws.specs.Packets.TakenLocations.{IsTidy, HasLocations, are_apart, extracts_members, IsExtractable}
use Rattle.elastic_ast.proofs.Containers.PlaceLaws.{place_tells}
use Rattle.elastic_ast.proofs.Typing.SameNames.{same_self, same_told, not_same}

-- names and places

-- names that have the same front differ where their ends do
same_behind : (front one other : List ℕ) → same (front ++ one) (front ++ other) ≡ same one other
same_behind [] one other = refl
same_behind (a ∷ front) one other = by (eqb a a) (eqb_itself a) ∙ same_behind front one other
  where
    eqb_itself : (a : ℕ) → eqb a a ≡ true
    eqb_itself a = grind (arith)

    by : (b : Bool) → b ≡ true → (b && same (front ++ one) (front ++ other)) ≡ same (front ++ one) (front ++ other)
    by true h = refl
    by false h = absurd (true≢false (sym h))

-- widths among listed places

found_both : (xs ys : List PlaceWidth) (at : List ℕ) → width_found (xs ++ ys) at ≡ or_else (width_found xs at) (width_found ys at)
found_both [] ys at = refl
found_both (x ∷ xs) ys at = by (same at x.0) (found_both xs ys at)
  where
    by : (b : Bool) → width_found (xs ++ ys) at ≡ or_else (width_found xs at) (width_found ys at)
        → option_map (λ (known : PlaceWidth). known.1) (cond b (Some x) (find (λ known. same at known.0) (xs ++ ys))) ≡ or_else (option_map (λ (known : PlaceWidth). known.1) (cond b (Some x) (find (λ known. same at known.0) xs))) (width_found ys at)
    by true ih = refl
    by false ih = ih

found_later : (xs ys : List PlaceWidth) (at : List ℕ) → width_found xs at ≡ None → width_found (xs ++ ys) at ≡ width_found ys at
found_later xs ys at h = found_both xs ys at ∙ ap (λ (o : Option ℕ). or_else o (width_found ys at)) h

found_first : (xs ys : List PlaceWidth) (at : List ℕ) (width : ℕ) → width_found xs at ≡ Some width → width_found (xs ++ ys) at ≡ Some width
found_first xs ys at width h = found_both xs ys at ∙ ap (λ (o : Option ℕ). or_else o (width_found ys at)) h

-- no field stands at a place of another kind
no_field : (kind : ℕ) (rest : List ℕ) → eqb kind 0 ≡ false → (header : Name) (fields : List Field) → width_found (field_locations header fields) (kind ∷ rest) ≡ None
no_field kind rest h header [] = refl
no_field kind rest h header (field ∷ fields) = rw h (no_field kind rest h header fields)

std_in_members : (decls : List PlainDecl) (members : List (Name × Name)) (rest : List ℕ) → width_found (flat_map (member_locations decls) members) (3 ∷ rest) ≡ None
std_in_members decls [] rest = refl
std_in_members decls (member ∷ members) rest =
    found_later (field_locations member.1 (fields_of_type decls member.0)) (flat_map (member_locations decls) members) (3 ∷ rest) (no_field 3 rest refl member.1 (fields_of_type decls member.0))
    ∙ std_in_members decls members rest

std_in_array : (name : Name) (width count : ℕ) (rest : List ℕ) → width_found (each_below count (λ index. (place (location.Meta name true) (Some index), width))) (3 ∷ rest) ≡ None
std_in_array name width zero rest = refl
std_in_array name width (suc count) rest =
    found_later (each_below count (λ index. (place (location.Meta name true) (Some index), width))) _ (3 ∷ rest) (std_in_array name width count rest)

std_in_field : (decls : List PlainDecl) (sizes : List ℕ) (field : Field) (rest : List ℕ) → width_found (meta_locations decls sizes field) (3 ∷ rest) ≡ None
std_in_field decls sizes field rest = by field.size refl
  where
    by : (size : Option Name) → field.size ≡ size → width_found (meta_locations decls sizes field) (3 ∷ rest) ≡ None
    by None h = rw h refl
    by (Some symbol) h = rw h (std_in_array field.name field.width (size_of (symbols_of decls) sizes symbol) rest)

std_in_meta : (decls : List PlainDecl) (sizes : List ℕ) (fields : List Field) (rest : List ℕ) → width_found (flat_map (meta_locations decls sizes) fields) (3 ∷ rest) ≡ None
std_in_meta decls sizes [] rest = refl
std_in_meta decls sizes (field ∷ fields) rest =
    found_later (meta_locations decls sizes field) (flat_map (meta_locations decls sizes) fields) (3 ∷ rest) (std_in_field decls sizes field rest)
    ∙ std_in_meta decls sizes fields rest

abbrev in_port : List ℕ
in_port = place (location.Std (codes "in_port")) None

port_width : (decls : List PlainDecl) (sizes : List ℕ) → width_found (locations decls sizes) in_port ≡ Some 16
unfolding std_fields
port_width decls sizes =
    found_later (flat_map (member_locations decls) (members_of decls)) (flat_map (meta_locations decls sizes) (meta_fields decls) ++ std_locations) in_port (std_in_members decls (members_of decls) (0 ∷ codes "in_port"))
    ∙ found_later (flat_map (meta_locations decls sizes) (meta_fields decls)) std_locations in_port (std_in_meta decls sizes (meta_fields decls) (0 ∷ codes "in_port"))

-- a member's validity bit and its fields

members_field_none : (decls : List PlainDecl) (header field : Name) (member : Name × Name) → same header member.1 ≡ false → width_found (member_locations decls member) (place (location.Header header field) None) ≡ None
members_field_none decls header field member h = other (fields_of_type decls member.0)
  where
    apart : (name : Name) → same (place (location.Header header field) None) (place (location.Header member.1 name) None) ≡ false
    apart name = not_same _ _ (λ e. true≢false (sym ((bytes_eq-Decides header member.1).1 (first_name (place_tells (location.Header header field) (location.Header member.1 name) None None e).0)) ∙ h))
      where
        first_name : location.Header header field ≡ location.Header member.1 name → header ≡ member.1
        first_name e = cc

    other : (fields : List Field) → width_found (field_locations member.1 fields) (place (location.Header header field) None) ≡ None
    other [] = refl
    other (f ∷ fields) = rw (apart f.name) (other fields)

fields_found : (header field : Name) (width : ℕ) (fields : List Field) → width_among fields field ≡ Some width → width_found (field_locations header fields) (place (location.Header header field) None) ≡ Some width
fields_found header field width [] h = cc
fields_found header field width (f ∷ fields) h = rw (same_place) (by (same field f.name) (λ e. fields_found header field width fields e) h)
  where
    same_place : same (place (location.Header header field) None) (place (location.Header header f.name) None) ≡ same field f.name
    same_place = by_length (eqb (length header) (length header)) (eqb_itself (length header)) ∙ same_behind header field f.name
      where
        eqb_itself : (a : ℕ) → eqb a a ≡ true
        eqb_itself a = grind (arith)

        by_length : (b : Bool) → b ≡ true → (b && same (header ++ field) (header ++ f.name)) ≡ same (header ++ field) (header ++ f.name)
        by_length true h = refl
        by_length false h = absurd (true≢false (sym h))

    by : (b : Bool) → (width_among fields field ≡ Some width → width_found (field_locations header fields) (place (location.Header header field) None) ≡ Some width)
        → option_map (λ (x : Field). x.width) (cond b (Some f) (find (λ x. same field x.name) fields)) ≡ Some width
        → option_map (λ (known : PlaceWidth). known.1) (cond b (Some (place (location.Header header f.name) None, f.width)) (find (λ known. same (place (location.Header header field) None) known.0) (field_locations header fields))) ≡ Some width
    by true ih e = e
    by false ih e = ih e

valid_found : (decls : List PlainDecl) (header : Name) (members : List (Name × Name)) → among (map member_name members) header ≡ true → width_found (flat_map (member_locations decls) members) (valid_place header) ≡ Some 1
valid_found decls header [] h = cc
valid_found decls header (member ∷ members) h = by (same header member.1) (valid_found decls header members) h
  where
    by : (b : Bool) → (among (map member_name members) header ≡ true → width_found (flat_map (member_locations decls) members) (valid_place header) ≡ Some 1)
        → (b || among (map member_name members) header) ≡ true
        → option_map (λ (known : PlaceWidth). known.1) (cond b (Some (valid_place member.1, 1)) (find (λ known. same (valid_place header) known.0) (field_locations member.1 (fields_of_type decls member.0) ++ flat_map (member_locations decls) members))) ≡ Some 1
    by true ih e = refl
    by false ih e = found_later (field_locations member.1 (fields_of_type decls member.0)) (flat_map (member_locations decls) members) (valid_place header) (no_field 1 (0 ∷ header) refl member.1 (fields_of_type decls member.0)) ∙ ih e

abbrev fields_in : List PlainDecl → Option (Name × Name) → List Field
fields_in decls member = unwrap_or (option_map (λ (known : Name × Name). fields_of_type decls known.0) member) []

field_found : (decls : List PlainDecl) (header field : Name) (width : ℕ) (members : List (Name × Name)) → width_among (fields_in decls (find (λ member. same header member.1) members)) field ≡ Some width → width_found (flat_map (member_locations decls) members) (place (location.Header header field) None) ≡ Some width
field_found decls header field width [] h = cc
field_found decls header field width (member ∷ members) h = by (same header member.1) refl h (field_found decls header field width members)
  where
    by : (b : Bool) → same header member.1 ≡ b → width_among (fields_in decls (cond b (Some member) (find (λ member. same header member.1) members))) field ≡ Some width
        → (width_among (fields_in decls (find (λ member. same header member.1) members)) field ≡ Some width → width_found (flat_map (member_locations decls) members) (place (location.Header header field) None) ≡ Some width)
        → width_found (flat_map (member_locations decls) (member ∷ members)) (place (location.Header header field) None) ≡ Some width
    by true e h ih =
        found_first (member_locations decls member) (flat_map (member_locations decls) members) (place (location.Header header field) None) width
        (subst (λ (name : Name). width_found (field_locations member.1 (fields_of_type decls member.0)) (place (location.Header name field) None) ≡ Some width) (sym (same_told header member.1 e)) (fields_found member.1 field width (fields_of_type decls member.0) h))
    by false e h ih =
        found_later (member_locations decls member) (flat_map (member_locations decls) members) (place (location.Header header field) None) (members_field_none decls header field member e)
        ∙ ih h

-- each field of a header has its own width at its place

abbrev EachWidth : List Field → List Field → Type 0
EachWidth whole [] = Unit {0}
EachWidth whole (field ∷ fields) = (width_among whole field.name ≡ Some field.width) × EachWidth whole fields

abbrev names_of_fields : List Field → List Name
names_of_fields fields = map (λ field. field.name) fields

turned_round : (one other : Name) → same one other ≡ false → same other one ≡ false
turned_round one other h = not_same other one (λ e. true≢false (sym ((bytes_eq-Decides one other).1 (sym e)) ∙ h))

-- one more field in front of others, whose name none of these has
behind_one : (first : Field) (whole fields : List Field) → among (names_of_fields fields) first.name ≡ false → EachWidth whole fields → EachWidth (first ∷ whole) fields
behind_one first whole [] h each = tt
behind_one first whole (field ∷ fields) h each =
    let apart = or_parts (same first.name field.name) (among (names_of_fields fields) first.name) h in
    (rw (turned_round first.name field.name apart.0) each.0, behind_one first whole fields apart.1 each.1)

each_width : (fields : List Field) → are_apart (names_of_fields fields) ≡ true → EachWidth fields fields
each_width [] h = tt
each_width (field ∷ fields) h =
    let parts = and_parts (not (among (names_of_fields fields) field.name)) (are_apart (names_of_fields fields)) h in
    (rw (same_self field.name) refl, behind_one field fields fields (not-true _ parts.0) (each_width fields parts.1))

-- what is written fits the locations

abbrev Fits : List PlaceWidth → List ℕ → Option BitWord → Type 0
Fits places at word = IfSome word (IsTidy places at)

abbrev Fitting : List PlaceWidth → Writes → Type 0
Fitting places writes = (at : List ℕ) → Fits places at (writes (At at))

abbrev Tidy : List PlaceWidth → Memory → Type 0
Tidy places memory = (at : List ℕ) → IsTidy places at (memory (At at))

later_fits : (places : List PlaceWidth) (at : List ℕ) (one other : Option BitWord) → Fits places at one → Fits places at other → Fits places at (or_else one other)
later_fits places at (Some word) other h k = h
later_fits places at None other h k = k

over_tidy : (places : List PlaceWidth) (writes : Writes) (memory : Memory) → Fitting places writes → Tidy places memory → Tidy places (over writes memory)
over_tidy places writes memory h tidy at = by (writes (At at)) (h at)
  where
    by : (word : Option BitWord) → Fits places at word → IsTidy places at (written_or word (memory (At at)))
    by (Some word) h = h
    by None h = tidy at

put_fits : (places : List PlaceWidth) (at : List ℕ) (word : BitWord) → width_found places at ≡ Some word.0 → word.1 < 2 ^ word.0 → Fitting places (put at word)
put_fits places at word known fits other = by (same at other) refl
  where
    by : (b : Bool) → same at other ≡ b → Fits places other (if b then Some word else None)
    by true e = subst (λ (p : List ℕ). IsTidy places p word) (same_told at other e) record { width = sym (ap (λ (o : Option ℕ). unwrap_or o 0) known); fits = fits }
    by false e = tt

abbrev EachFound : List PlaceWidth → Name → List Field → Type 0
EachFound places header [] = Unit {0}
EachFound places header (field ∷ fields) = (width_found places (place (location.Header header field.name) None) ≡ Some field.width) × EachFound places header fields

fields_fit : (places : List PlaceWidth) (bytes : List ℕ) (header : Name) (start : ℕ) (fields : List Field) → EachFound places header fields → Fitting places (fields_writes bytes header start fields)
fields_fit places bytes header start [] each at = tt
fields_fit places bytes header start (field ∷ fields) each at =
    later_fits places at _ _
    (fields_fit places bytes header (start + field.width) fields each.1 at)
    (put_fits places (place (location.Header header field.name) None) (field.width, bits_at bytes start field.width) each.0 (mod-lt _ (pow_pos field.width)) at)

to_found : (decls : List PlainDecl) (sizes : List ℕ) (header : Name) (fields : List Field) → EachWidth (header_fields decls header) fields → EachFound (locations decls sizes) header fields
to_found decls sizes header [] each = tt
to_found decls sizes header (field ∷ fields) each = (
  found_first (flat_map (member_locations decls) (members_of decls)) (flat_map (meta_locations decls sizes) (meta_fields decls) ++ std_locations) (place (location.Header header field.name) None) field.width
      (field_found decls header field.name field.width (members_of decls) each.0),
  to_found decls sizes header fields each.1,
)

-- the parser, step by step

abbrev Kept : List PlainDecl → List ℕ → Option Parsed → Type 0
Kept decls sizes parsed = IfSome parsed (λ now. Tidy (locations decls sizes) now.memory)

and_then_kept : {A : Type 0} (Holds : A → Type 0) (decls : List PlainDecl) (sizes : List ℕ) (next : A → Option Parsed) (o : Option A) → IfSome o Holds → ((x : A) → Holds x → Kept decls sizes (next x)) → Kept decls sizes (option_and_then next o)
and_then_kept Holds decls sizes next None h f = tt
and_then_kept Holds decls sizes next (Some x) h f = f x h

if_kept : (decls : List PlainDecl) (sizes : List ℕ) (b : Bool) (one other : Option Parsed) → Kept decls sizes one → Kept decls sizes other → Kept decls sizes (if b then one else other)
if_kept decls sizes true one other h k = h
if_kept decls sizes false one other h k = k

extracted_kept : (decls : List PlainDecl) (sizes : List ℕ) → IsExtractable decls → (bytes : List ℕ) (parsed : Parsed) (header : Name) → is_member decls header ≡ true → Tidy (locations decls sizes) parsed.memory → Kept decls sizes (extracted decls bytes parsed header)
extracted_kept decls sizes good bytes parsed header member tidy =
    if_kept decls sizes (nat_le (parsed.bits + bits_of_fields (header_fields decls header)) (8 * length bytes)) _ None
    (over_tidy (locations decls sizes) (and_then (put (valid_place header) (1, 1)) (fields_writes bytes header parsed.bits (header_fields decls header))) parsed.memory
    (λ at.
    later_fits (locations decls sizes) at _ _
    (fields_fit (locations decls sizes) bytes header parsed.bits (header_fields decls header) (to_found decls sizes header (header_fields decls header) (each_width (header_fields decls header) (good.fields header))) at)
    (put_fits (locations decls sizes) (valid_place header) (1, 1)
    (found_first (flat_map (member_locations decls) (members_of decls)) (flat_map (meta_locations decls sizes) (meta_fields decls) ++ std_locations) (valid_place header) 1 (valid_found decls header (members_of decls) member))
    (omega arith) at))
    tidy)
    tt

all_extracted_kept : (decls : List PlainDecl) (sizes : List ℕ) → IsExtractable decls → (bytes : List ℕ) (parsed : Parsed) (headers : List Name) → list_all (is_member decls) headers ≡ true → Tidy (locations decls sizes) parsed.memory → Kept decls sizes (all_extracted decls bytes parsed headers)
all_extracted_kept decls sizes good bytes parsed [] members tidy = tidy
all_extracted_kept decls sizes good bytes parsed (header ∷ headers) members tidy =
    let parts = and_parts (is_member decls header) (list_all (is_member decls) headers) members in
    and_then_kept (λ (now : Parsed). Tidy (locations decls sizes) now.memory) decls sizes (λ more. all_extracted decls bytes more headers) (extracted decls bytes parsed header)
    (extracted_kept decls sizes good bytes parsed header parts.0 tidy)
    (λ more kept. all_extracted_kept decls sizes good bytes more headers parts.1 kept)

found_passes : {A : Type 0} (test passes : A → Bool) (xs : List A) → list_all passes xs ≡ true → IfSome (find test xs) (λ x. passes x ≡ true)
found_passes test passes [] h = tt
found_passes test passes (x ∷ xs) h =
    let parts = and_parts (passes x) (list_all passes xs) h in by (test x) parts.0 (found_passes test passes xs parts.1)
  where
    by : (b : Bool) → passes x ≡ true → IfSome (find test xs) (λ y. passes y ≡ true) → IfSome (cond b (Some x) (find test xs)) (λ y. passes y ≡ true)
    by true h ih = h
    by false h ih = ih

from_kept : (most : ℕ) (decls : List PlainDecl) (sizes : List ℕ) → IsExtractable decls → (states : List PlainState) → list_all (extracts_members decls) states ≡ true → (bytes : List ℕ) (name : Name) (parsed : Parsed) → Tidy (locations decls sizes) parsed.memory → Kept decls sizes (parsed_from most decls sizes states bytes name parsed)
from_kept zero decls sizes good states members bytes name parsed tidy = if_kept decls sizes (same name (codes "accept")) (Some parsed) None tidy tt
from_kept (suc most) decls sizes good states members bytes name parsed tidy =
    if_kept decls sizes (same name (codes "accept")) (Some parsed) _ tidy
    (and_then_kept (λ (state : PlainState). extracts_members decls state ≡ true) decls sizes _ (find (λ (state : PlainState). same name state.name) states)
    (found_passes (λ (state : PlainState). same name state.name) (extracts_members decls) states members)
    (λ state its.
    and_then_kept (λ (now : Parsed). Tidy (locations decls sizes) now.memory) decls sizes _ (all_extracted decls bytes parsed state.extracts)
    (all_extracted_kept decls sizes good bytes parsed state.extracts its tidy)
    (λ more kept. from_kept most decls sizes good states members bytes (next_of (outside decls sizes None) more.memory state.next) more kept)))

entry_tidy : (decls : List PlainDecl) (sizes : List ℕ) (port : ℕ) → port < 2 ^ 16 → Tidy (locations decls sizes) (at_entry decls sizes port)
entry_tidy decls sizes port h =
    over_tidy (locations decls sizes) (put in_port (16, port)) (held (zero_words decls sizes) (λ name index. []))
    (put_fits (locations decls sizes) in_port (16, port) (port_width decls sizes) h)
    (λ at. record { width = refl; fits = pow_pos (width_at_place (locations decls sizes) at) })

abbrev start : List PlainDecl → List ℕ → Packet → Parsed
start decls sizes packet = record { memory = at_entry decls sizes packet.port; bits = 0 }

parsed_kept : (decls : List PlainDecl) (sizes : List ℕ) (packet : Packet) → IsExtractable decls → packet.port < 2 ^ 16 → (states : Option (List PlainState)) → states_of decls ≡ states → Kept decls sizes (parsed_by decls sizes packet.bytes (start decls sizes packet) states)
parsed_kept decls sizes packet good port None e = entry_tidy decls sizes packet.port port
parsed_kept decls sizes packet good port (Some states) e =
    from_kept (length states) decls sizes good states (good.members states e) packet.bytes (codes "start") (start decls sizes packet) (entry_tidy decls sizes packet.port port)

shown : (decls : List PlainDecl) (sizes bytes : List ℕ) (parsed : Option Parsed) → Kept decls sizes parsed → IfSome (option_map (taken_of bytes) parsed) (λ taken. HasLocations decls sizes taken.0)
shown decls sizes bytes None h = tt
shown decls sizes bytes (Some parsed) h = h

pub taken_has_locations : (decls : List PlainDecl) (sizes : List ℕ) (packet : Packet) → IsExtractable decls → packet.port < 2 ^ 16 → IfSome (taken decls sizes packet) (λ taken. HasLocations decls sizes taken.0)
taken_has_locations decls sizes packet good port =
    shown decls sizes packet.bytes (parsed_by decls sizes packet.bytes (start decls sizes packet) (states_of decls)) (parsed_kept decls sizes packet good port (states_of decls) refl)
