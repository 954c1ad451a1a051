-- What a taken vector has, and what a program must keep for that: its parser extracts headers of the packet alone, and no
-- two fields of a header have one name. This project's own.
use Rattle.std.specs.Prelude.{◌≡◌, ℕ, ◌<◌, ◌^◌, Bool, true, not, ◌&&◌, List, [], ◌∷◌, map, Some, IfSome}
use Rattle.elastic_ast.specs.Typing.LanguageLimits.{port_width}
use Rattle.std.specs.List.{list_all}
use Rattle.elx_bits.specs.Words.{BitWord}
use Rattle.elastic_ast.specs.declared.flat.Packet.{Packet}
use Rattle.elastic_ast.specs.Packets.Taken.{taken}
use Rattle.elastic_ast.specs.Tree.{Name, PlainDecl, PlainState}
use Rattle.elastic_ast.specs.Typing.Scope.{among}
use Rattle.elastic_ast.specs.Typing.LookUps.{is_member, header_fields}
use Rattle.elastic_ast.specs.Packets.Locations.{PlaceWidth, width_at_place, locations}
use Rattle.elastic_ast.specs.Meaning.Memory.{Words}
use Rattle.elastic_ast.specs.Packets.MainParts.{states_of}

-- a word has the width of its place, and its number fits it
pub record IsTidy (places : List PlaceWidth) (at : List ℕ) (word : BitWord) : Type 0 where
  pub width : word.0 ≡ width_at_place places at
  pub fits : word.1 < 2 ^ word.0

-- the words have exactly the locations of the program at these sizes: at each of them a word of its width, and at every
-- other place a word of no width
abbrev pub HasLocations : List PlainDecl → List ℕ → Words → Type 0
HasLocations decls sizes words = (at : List ℕ) → IsTidy (locations decls sizes) at (words at)

-- no two of the names are the same
abbrev pub are_apart : List Name → Bool
are_apart [] = true
are_apart (name ∷ names) = not (among names name) && are_apart names

abbrev pub extracts_members : List PlainDecl → PlainState → Bool
extracts_members decls state = list_all (is_member decls) state.extracts

pub record IsExtractable (decls : List PlainDecl) : Type 0 where
  pub members : (states : List PlainState) → states_of decls ≡ Some states → list_all (extracts_members decls) states ≡ true
  pub fields : (header : Name) → are_apart (map (λ field. field.name) (header_fields decls header)) ≡ true

-- a taken vector has its locations, where the parser extracts headers alone
abbrev pub TakenHasLocations : Type 0
TakenHasLocations =
    (decls : List PlainDecl) (sizes : List ℕ) (packet : Packet) → IsExtractable decls → packet.port < 2 ^ port_width →
    IfSome (taken decls sizes packet) (λ taken. HasLocations decls sizes taken.0)
