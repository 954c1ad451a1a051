-- How a vector is kept: slots with a place and a word each, no two at one place; this project's own.
use Rattle.std.specs.Prelude.{◌≡◌, ◌≢◌, ◌<◌, ℕ, List, [], map, length, get_or, slice_index_or, unwrap_or, Option, MatchOption}
use Rattle.std.specs.FinMap.{from_entries}
use Rattle.std.specs.FinMap as finite
use Rattle.elx_bits.specs.Words.{BitWord}
use Rattle.elastic_ast.specs.declared.slot.Slot.{Slot}
use Rattle.elastic_ast.specs.Containers.Fnv.{fnv, fnv_start}
use Rattle.elastic_ast.specs.Containers.LocationPlaces.{place}
use Rattle.elastic_ast.specs.Containers.Vectors.{Vectored, BitsOfValidity}
use Rattle.elastic_ast.specs.Containers.BitWords.{word}

abbrev pub slot_place : Slot → List ℕ
slot_place slot = place slot.at slot.index

abbrev pub entry : Slot → List ℕ × BitWord
entry slot = (slot_place slot, word slot.value)

abbrev pub entries : List Slot → List (List ℕ × BitWord)
entries slots = map entry slots

abbrev pub places : List (List ℕ × BitWord) → List (List ℕ)
places known = map (λ (e : List ℕ × BitWord). e.0) known

-- the map that slots stand for
abbrev pub seen_slots : List Slot → Vectored
seen_slots slots = from_entries (entries slots)

-- an entry with the word of a vector, where the vector has its place
abbrev pub word_from : Vectored → List ℕ × BitWord → List ℕ × BitWord
word_from vector e = (e.0, unwrap_or (finite.get vector e.0) e.1)

-- no two of the places are the same
pub record Apart (known : List (List ℕ)) : Type 0 where
  pub one : (i j : ℕ) → i < length known → j < length known → get_or known i [] ≡ get_or known j [] → i ≡ j

-- the hash of a place: FNV-1a of 64 bits over its numbers
unfoldable pub place_hash : List ℕ → ℕ
place_hash place = fnv fnv_start place

abbrev pub hashes_of : List Slot → List ℕ
hashes_of slots = map place_hash (places (entries slots))

pub record IsVector (slots : List Slot) : Type 0 where
  pub apart : Apart (places (entries slots))
  pub validity : BitsOfValidity (seen_slots slots)

-- slots, and the hashes of their places in the same order
pub record Indexed (hashes : List ℕ) (slots : List Slot) : Type 0 where
  pub vector : IsVector slots
  pub hashed : hashes ≡ hashes_of slots

-- the number of the slot at a place, or none where the place isn't there
abbrev pub IsSlotAt : List (List ℕ) → List ℕ → Option ℕ → Type 0
IsSlotAt known wanted found =
    MatchOption found ((k : ℕ) → k < length known → slice_index_or known k [] ≢ wanted) (λ k. (k < length known) × (slice_index_or known k [] ≡ wanted))
