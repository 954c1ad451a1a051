-- Registers that are kept: finding one, appending one, and writing into one.
use Rattle.std.proofs.Common.{◌≡◌, ◌<◌, ℕ, zero, suc, Bool, true, false, List, [], ◌∷◌, length, get_or, Option, Some, None, refl, sym, ap, subst, ◌∙◌, arith}
use Rattle.std.specs.Prelude.{slice_get, option_map}
use Rattle.std.proofs.lemmas.List.{get_or-map, length-map}
use Rattle.std.proofs.lemmas.Option.{slice_get_read, slice_get-map}
use Rattle.elastic_ast.specs.declared.registers.Held.{Held}
use Rattle.elastic_ast.specs.Containers.KeyHash.{hash_of}
use Rattle.elastic_ast.specs.Containers.RegisterLists.{Register, Key, same_key, register_key, keys, register_at}
use Rattle.elastic_ast.specs.Containers.KeptRegisters.{Kept, IsRegister, seen_register, registers_of}
use Rattle.elastic_ast.specs.Containers.LastWith.{IsPassing, Passes, AllFail}
use Rattle.elastic_ast.proofs.Containers.KeyLaws.{same_is, not_same}
use Rattle.elastic_ast.proofs.Containers.PositionLaws.{position_is, position_none}

abbrev pub no_key : Key
no_key = ([], None)

-- whether this key stands at a place
unfoldable pub has_key : List Key → Key → ℕ → Bool
has_key list key k = same_key key (get_or list k no_key)

length-keys : (rs : List Register) → length (keys rs) ≡ length rs
length-keys rs = length-map rs register_key

pub length_hashes : (hs : List ℕ) (rs : List Register) → Kept hs rs → length hs ≡ length rs
length_hashes hs rs kept = ap length kept.hashed ∙ length-map (keys rs) hash_of ∙ length-keys rs

-- the place of a key has its hash
have_hash : (hs : List ℕ) (rs : List Register) (key : Key) → Kept hs rs → (k : ℕ) → k < length hs → has_key (keys rs) key k ≡ true → get_or hs k 0 ≡ hash_of key
unfolding has_key
have_hash hs rs key kept k lt t =
    let within : k < length (keys rs) = omega (arith, length_hashes hs rs kept, length-keys rs) in
    ap (λ xs. get_or xs k 0) kept.hashed ∙ get_or-map hash_of (keys rs) k no_key 0 within ∙ ap hash_of (sym (same_is key (get_or (keys rs) k no_key) t))

-- the key at a place is that of the register there
pub has_key-at : (rs : List Register) (key : Key) (place : ℕ) (r : Register) → slice_get rs place ≡ Some r → has_key (keys rs) key place ≡ same_key key (register_key r)
unfolding has_key
has_key-at [] key place r at = cc
has_key-at (x ∷ rs) key zero r at = let e : x ≡ r = cc in ap (λ z. same_key key (register_key z)) e
has_key-at (x ∷ rs) key (suc place) r at = has_key-at rs key place r at

-- a place that has the name and the index is the one
pub found_at : (hs : List ℕ) (rs : List Register) (name : List ℕ) (index : Option ℕ) (place : ℕ) → Kept hs rs → place < length rs → has_key (keys rs) (name, index) place ≡ true → register_at rs name index ≡ Some place
unfolding has_key register_at
found_at hs rs name index place kept lt t =
    let within : place < length (keys rs) = omega (arith, length-keys rs) in
    let key : Key = (name, index) in
    let same = same_is key (get_or (keys rs) place no_key) t in
    position_is (same_key key) (keys rs) place no_key within t
    (λ k least. not_same key (get_or (keys rs) k no_key)
    (λ e. let twice : k ≡ place = kept.distinct k place no_key (omega arith) within (sym e ∙ same) in absurd (omega arith)))

-- no place has them
not_found : (rs : List Register) (name : List ℕ) (index : Option ℕ) → ((k : ℕ) → k < length rs → has_key (keys rs) (name, index) k ≡ false) → register_at rs name index ≡ None
unfolding has_key register_at
not_found rs name index never =
    position_none (same_key (name, index)) (keys rs) no_key (λ k lt. never k (omega (arith, length-keys rs)))

pub length_registers : (list : List Held) → length (registers_of list) ≡ length list
length_registers list = length-map list seen_register

-- the register that was read at a place
pub held_at : (list : List Held) (place : ℕ) (held : Held) → place < length list → held ≡ get_or list place held → slice_get (registers_of list) place ≡ Some (seen_register held)
held_at list place held lt e = slice_get-map seen_register list place ∙ ap (option_map seen_register) (slice_get_read list (length list) place held refl lt e)

-- whether a place has a key, by the register that was read there
pub read_key : (list : List Held) (key : Key) (place : ℕ) (held : Held) (t : Bool) → place < length list → held ≡ get_or list place held → t ≡ same_key key (register_key (seen_register held)) → has_key (keys (registers_of list)) key place ≡ t
read_key list key place held t lt e is = has_key-at (registers_of list) key place (seen_register held) (held_at list place held lt e) ∙ sym is

pub in_list : (hs : List ℕ) (list : List Held) (place : ℕ) → Kept hs (registers_of list) → place < length hs → place < length list
in_list hs list place kept lt = omega (arith, length_hashes hs (registers_of list) kept, length_registers list)

-- the place that a search by the hash gives is that of the key
pub found_by_hash : {Test : ℕ → Bool → Type 0} (hs : List ℕ) (list : List Held) (name : List ℕ) (index : Option ℕ) (o : Option ℕ) → Kept hs (registers_of list) → IsPassing Test hs (hash_of (name, index)) o
    → ((place : ℕ) (t : Bool) → place < length list → Test place t → (held : Held) × (held ≡ get_or list place held) × (r : Bool) × (r ≡ same_key (name, index) (register_key (seen_register held))) × (t ≡ r))
    → o ≡ register_at (registers_of list) name index
found_by_hash hs list name index o kept (Passes place less passes) tells =
    let within = in_list hs list place kept less in
    let told = tells place true within passes in
    sym (found_at hs (registers_of list) name index place kept (omega (arith, within, length_registers list)) (read_key list (name, index) place told.0 true within told.1 (told.4 ∙ told.3)))
found_by_hash hs list name index o kept (AllFail fails) tells = sym (not_found (registers_of list) name index (λ k lt. by k lt (has_key (keys (registers_of list)) (name, index) k) refl))
  where
    by : (k : ℕ) → k < length (registers_of list) → (t : Bool) → has_key (keys (registers_of list)) (name, index) k ≡ t → t ≡ false
    by k lt true e =
        let inside : k < length hs = omega (arith, length_hashes hs (registers_of list) kept) in
        let within = in_list hs list k kept inside in
        let told = tells k false within (fails k inside (have_hash hs (registers_of list) (name, index) kept k inside e)) in
        sym e ∙ read_key list (name, index) k told.0 false within told.1 (told.4 ∙ told.3)
    by k lt false e = refl

-- the facts of the register that was read at a place
pub is_register : (hs : List ℕ) (list : List Held) (place : ℕ) (held : Held) → Kept hs (registers_of list) → place < length list → held ≡ get_or list place held → IsRegister (seen_register held)
is_register hs list place held kept lt e =
    let there : get_or (registers_of list) place (seen_register held) ≡ seen_register held = get_or-map seen_register list place held (seen_register held) lt ∙ ap seen_register (sym e) in
    subst IsRegister there (kept.each place (seen_register held) (omega (arith, length_registers list)))
