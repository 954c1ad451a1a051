-- Registers stay as they have to be when one is appended, and when a value is written into one.
use Rattle.std.proofs.Common.{◌≡◌, ◌≢◌, ◌<◌, ◌≤◌, ℕ, ◌+◌, ◌^◌, ◌⊎◌, inl, inr, List, [], ◌∷◌, ◌++◌, length, get_or, set, replicate, Option, Some, None, sym, ap, subst, ◌∙◌, arith, length-append}
use Rattle.std.specs.Prelude.{slice_get}
use Rattle.std.proofs.lemmas.Bool.{cases_eq, false≢true}
use Rattle.std.proofs.lemmas.List.{length-set, map-append, map-set, get_or_append_left, length-replicate}
use Rattle.std.proofs.lemmas.Nat.{pow_pos}
use Rattle.std.proofs.lemmas.List.Elements.{All-push, All-set, All-replicate}
use Rattle.std.proofs.Math.Seq.{get_or-append_seam}
use Rattle.elastic_ast.specs.declared.registers.Held.{Held}
use Rattle.elastic_ast.specs.Containers.KeyHash.{hash_of}
use Rattle.elastic_ast.specs.Containers.RegisterLists.{Register, Key, same_key, register_key, keys, width_of, values_of, register_at, with_cell, stored}
use Rattle.elastic_ast.specs.Containers.KeptRegisters.{Kept, IsRegister, AreDistinct, seen_register, registers_of}
use Rattle.elastic_ast.proofs.Containers.KeptLaws.{held_at, is_register}
use Rattle.elastic_ast.proofs.Containers.KeyLaws.{same_self}
use Rattle.elastic_ast.proofs.Containers.PositionLaws.{none_position}
use Rattle.elastic_ast.proofs.Containers.RegisterLaws.{keys-with_cell, with_cell-set}

-- a key that isn't found stands at no place
absent_key : (rs : List Register) (name : List ℕ) (index : Option ℕ) → register_at rs name index ≡ None → (k : ℕ) (past : Key) → k < length (keys rs) → get_or (keys rs) k past ≡ (name, index) → ⊥
unfolding register_at
absent_key rs name index none k past lt e =
    let key : Key = (name, index) in
    false≢true (sym (none_position (same_key key) (keys rs) past none k lt) ∙ ap (λ z. same_key key z) e ∙ same_self key)

distinct-push : (list : List Key) (key : Key) → AreDistinct list → ((k : ℕ) (past : Key) → k < length list → get_or list k past ≡ key → ⊥) → AreDistinct (list ++ key ∷ [])
distinct-push list key distinct new j k past lj lk e = by (cases_eq j (length list)) (cases_eq k (length list))
  where
    longer : length (list ++ key ∷ []) ≡ length list + 1
    longer = omega (arith, length-append list (key ∷ []))

    last : (n : ℕ) → n ≡ length list → get_or (list ++ key ∷ []) n past ≡ key
    last n at = ap (λ z. get_or (list ++ key ∷ []) z past) at ∙ get_or-append_seam list key [] past

    within : (n : ℕ) → n < length (list ++ key ∷ []) → n ≢ length list → n < length list
    within n lt ne = omega (arith, longer)

    left : (n : ℕ) → n < length list → get_or (list ++ key ∷ []) n past ≡ get_or list n past
    left n lt = get_or_append_left list (key ∷ []) past n lt

    by : (j ≡ length list) ⊎ (j ≢ length list) → (k ≡ length list) ⊎ (k ≢ length list) → j ≡ k
    by (inl a) (inl b) = a ∙ sym b
    by (inl a) (inr b) = let lt = within k lk b in absurd (new k past lt (sym (left k lt) ∙ sym e ∙ last j a))
    by (inr a) (inl b) = let lt = within j lj a in absurd (new j past lt (sym (left j lt) ∙ e ∙ last k b))
    by (inr a) (inr b) = let lt = within j lj a in let mt = within k lk b in distinct j k past lt mt (sym (left j lt) ∙ e ∙ left k mt)

pub kept-push : (hs : List ℕ) (rs : List Register) (r : Register) → Kept hs rs → IsRegister r → register_at rs r.0 r.1 ≡ None → Kept (hs ++ hash_of (register_key r) ∷ []) (rs ++ r ∷ [])
kept-push hs rs r kept is none =
    let longer : keys (rs ++ r ∷ []) ≡ keys rs ++ register_key r ∷ [] = map-append register_key rs (r ∷ []) in
    record {
      hashed = rw (longer, map-append hash_of (keys rs) (register_key r ∷ []), kept.hashed);
      each = All-push IsRegister rs r kept.each is;
      distinct = subst AreDistinct (sym longer) (distinct-push (keys rs) (register_key r) kept.distinct (absent_key rs r.0 r.1 none));
    }

is_stored : (r : Register) (cell value : ℕ) → IsRegister r → value < 2 ^ width_of r → IsRegister (stored r cell value)
is_stored r cell value is lt = record {
  positive = is.positive;
  within = is.within;
  few = let few : length (values_of r) < 2 ^ 32 = is.few in omega (arith, length-set (values_of r) cell value);
  fits = All-set (λ v. v < 2 ^ width_of r) (values_of r) cell value lt is.fits;
}

pub kept-with_cell : (hs : List ℕ) (rs : List Register) (place cell value : ℕ) (r : Register) → Kept hs rs → slice_get rs place ≡ Some r → IsRegister r → value < 2 ^ width_of r → Kept hs (with_cell rs place cell value)
kept-with_cell hs rs place cell value r kept at is lt =
    let same = keys-with_cell rs place cell value in
    record {
      hashed = rw same kept.hashed;
      each = rw (with_cell-set rs place cell value r at) (All-set IsRegister rs place (stored r cell value) (is_stored r cell value is lt) kept.each);
      distinct = subst AreDistinct (sym same) kept.distinct;
    }

-- the list after a write into the register that was read at a place
pub written : (list : List Held) (place cell value : ℕ) (held after : Held) → place < length list → held ≡ get_or list place held → seen_register after ≡ stored (seen_register held) cell value → registers_of (set list place after) ≡ with_cell (registers_of list) place cell value
written list place cell value held after lt e is =
    map-set seen_register list place after ∙ ap (λ r. set (registers_of list) place r) is ∙ sym (with_cell-set (registers_of list) place cell value (seen_register held) (held_at list place held lt e))

-- the list after a register of zeros
pub put_list : (hs : List ℕ) (list : List Held) (held : Held) (cells : ℕ) → Kept hs (registers_of list) → 1 ≤ held.width → held.width ≤ 128 → cells < 2 ^ 32 → held.cells.items ≡ replicate cells 0 → register_at (registers_of list) held.name held.index ≡ None → Kept (hs ++ hash_of (held.name, held.index) ∷ []) (registers_of (list ++ held ∷ []))
put_list hs list held cells kept positive within few zero none =
    let longer : registers_of (list ++ held ∷ []) ≡ registers_of list ++ seen_register held ∷ [] = map-append seen_register list (held ∷ []) in
    let is : IsRegister (seen_register held) = record {
      positive = positive;
      within = within;
      few = rw (zero, length-replicate) few;
      fits = rw zero (All-replicate (λ v. v < 2 ^ held.width) cells 0 (pow_pos held.width));
    } in
    rw longer (kept-push hs (registers_of list) (seen_register held) kept is none)

-- they are kept
pub kept_written : (hs : List ℕ) (list : List Held) (place cell value : ℕ) (held after : Held) → Kept hs (registers_of list) → place < length list → held ≡ get_or list place held → seen_register after ≡ stored (seen_register held) cell value → value < 2 ^ held.width → Kept hs (registers_of (set list place after))
kept_written hs list place cell value held after kept lt e is fits =
    rw (written list place cell value held after lt e is)
    (kept-with_cell hs (registers_of list) place cell value (seen_register held) kept (held_at list place held lt e) (is_register hs list place held kept lt e) fits)
