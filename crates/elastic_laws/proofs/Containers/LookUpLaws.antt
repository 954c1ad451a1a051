-- Registers looked up by name and index: what a write and an appended register change.
use Rattle.std.proofs.Common.{◌≡◌, ◌≢◌, ◌⊎◌, inl, inr, ◌<◌, ℕ, zero, suc, List, [], ◌∷◌, ◌++◌, length, get_or, Option, Some, None, refl, sym, ap, subst, ◌∙◌, arith, length-append}
use Rattle.std.specs.Prelude.{slice_get, slice_set, option_map, option_and_then, unwrap_or}
use Rattle.std.specs.List.{position}
use Rattle.std.proofs.lemmas.Bool.{cases_eq}
use Rattle.std.proofs.lemmas.List.{length-map, map-append, get_or_append_left}
use Rattle.std.proofs.lemmas.List.Quantifiers.{position-Some}
use Rattle.std.proofs.Math.Seq.{get_or-append_seam}
use Rattle.elx_bits.specs.Words.{BitWord}
use Rattle.elastic_ast.specs.Containers.RegisterLists.{Register, Key, no_register, same_key, register_key, keys, width_of, values_of, register_at, register_or_none, width_at, values_at, cell_at, with_cell, stored}
use Rattle.elastic_ast.proofs.Containers.KeyLaws.{same_self}
use Rattle.elastic_ast.proofs.Containers.PositionLaws.{position_is, none_position}
use Rattle.elastic_ast.proofs.Containers.RegisterLaws.{keys-with_cell}

-- a write moves no register
pub register_at-with_cell : (rs : List Register) (place cell value : ℕ) (name : List ℕ) (index : Option ℕ) → register_at (with_cell rs place cell value) name index ≡ register_at rs name index
unfolding register_at
register_at-with_cell rs place cell value name index = ap (λ ks. position (same_key (name, index)) ks) (keys-with_cell rs place cell value)

slice_get-with_cell : (rs : List Register) (place cell value : ℕ) → slice_get (with_cell rs place cell value) place ≡ option_map (λ r. stored r cell value) (slice_get rs place)
unfolding with_cell
slice_get-with_cell [] place cell value = refl
slice_get-with_cell (r ∷ rs) zero cell value = refl
slice_get-with_cell (r ∷ rs) (suc place) cell value = slice_get-with_cell rs place cell value

slice_get-with_cell_other : (rs : List Register) (place cell value other : ℕ) → place ≢ other → slice_get (with_cell rs place cell value) other ≡ slice_get rs other
unfolding with_cell
slice_get-with_cell_other [] place cell value other ne = refl
slice_get-with_cell_other (r ∷ rs) zero cell value zero ne = absurd (ne refl)
slice_get-with_cell_other (r ∷ rs) zero cell value (suc other) ne = refl
slice_get-with_cell_other (r ∷ rs) (suc place) cell value zero ne = refl
slice_get-with_cell_other (r ∷ rs) (suc place) cell value (suc other) ne = slice_get-with_cell_other rs place cell value other (λ e. ne (ap suc e))

-- the register there, and the one after a write
there : (rs : List Register) (place cell value : ℕ) → register_or_none (with_cell rs place cell value) (Some place) ≡ stored (register_or_none rs (Some place)) cell value
there rs place cell value = ap (λ o. unwrap_or o no_register) (slice_get-with_cell rs place cell value) ∙ by (slice_get rs place)
  where
    by : (o : Option Register) → unwrap_or (option_map (λ r. stored r cell value) o) no_register ≡ stored (unwrap_or o no_register) cell value
    by None = refl
    by (Some r) = refl

elsewhere : (rs : List Register) (place cell value : ℕ) (o : Option ℕ) → (o ≡ Some place → ⊥) → register_or_none (with_cell rs place cell value) o ≡ register_or_none rs o
elsewhere rs place cell value None ne = refl
elsewhere rs place cell value (Some other) ne = ap (λ o. unwrap_or o no_register) (slice_get-with_cell_other rs place cell value other (λ e. ne (ap Some (sym e))))

-- the cells of a register that is found are the values of its name and index
pub cell_named : (rs : List Register) (name : List ℕ) (index : Option ℕ) (place cell : ℕ) → register_at rs name index ≡ Some place → cell_at rs place cell ≡ option_map (λ value. let x : BitWord = (width_at rs name index, value) in x) (slice_get (values_at rs name index) cell)
unfolding width_at values_at cell_at
cell_named rs name index place cell at = rw at (by (slice_get rs place))
  where
    by : (o : Option Register) → option_and_then (λ r. option_map (λ value. let x : BitWord = (width_of r, value) in x) (slice_get (values_of r) cell)) o ≡ option_map (λ value. let x : BitWord = (width_of (unwrap_or o no_register), value) in x) (slice_get (values_of (unwrap_or o no_register)) cell)
    by None = refl
    by (Some r) = refl

-- a write into the register that is found, and into any other
pub width_at-with_cell : (rs : List Register) (name : List ℕ) (index : Option ℕ) (place cell value : ℕ) → width_at (with_cell rs place cell value) name index ≡ width_at rs name index
unfolding width_at
width_at-with_cell rs name index place cell value = rw (register_at-with_cell rs place cell value name index) (by (register_at rs name index))
  where
    at : (other : ℕ) → (place ≡ other) ⊎ (place ≢ other) → width_of (register_or_none (with_cell rs place cell value) (Some other)) ≡ width_of (register_or_none rs (Some other))
    at other (inl e) = subst (λ z. width_of (register_or_none (with_cell rs place cell value) (Some z)) ≡ width_of (register_or_none rs (Some z))) e (ap width_of (there rs place cell value))
    at other (inr ne) = ap width_of (elsewhere rs place cell value (Some other) (λ e. let same : other ≡ place = cc in ne (sym same)))

    by : (o : Option ℕ) → width_of (register_or_none (with_cell rs place cell value) o) ≡ width_of (register_or_none rs o)
    by None = refl
    by (Some other) = at other (cases_eq place other)

pub values_at-with_cell : (rs : List Register) (name : List ℕ) (index : Option ℕ) (place cell value : ℕ) → register_at rs name index ≡ Some place → values_at (with_cell rs place cell value) name index ≡ slice_set (values_at rs name index) cell value
unfolding values_at
values_at-with_cell rs name index place cell value at =
    rw (register_at-with_cell rs place cell value name index, at) (ap values_of (there rs place cell value))

pub values_at-with_cell_other : (rs : List Register) (name : List ℕ) (index : Option ℕ) (place cell value : ℕ) → (register_at rs name index ≡ Some place → ⊥) → values_at (with_cell rs place cell value) name index ≡ values_at rs name index
unfolding values_at
values_at-with_cell_other rs name index place cell value ne =
    rw (register_at-with_cell rs place cell value name index) (ap values_of (elsewhere rs place cell value (register_at rs name index) ne))

-- an appended register stands at the end, and those before it stay
pub register_at-push : (rs : List Register) (r : Register) → register_at rs r.0 r.1 ≡ None → register_at (rs ++ r ∷ []) r.0 r.1 ≡ Some (length rs)
unfolding register_at
register_at-push rs r none =
    let key : Key = (r.0, r.1) in
    let longer : keys (rs ++ r ∷ []) ≡ keys rs ++ key ∷ [] = map-append register_key rs (r ∷ []) in
    let many : length (keys rs) ≡ length rs = length-map rs register_key in
    let last : get_or (keys rs ++ key ∷ []) (length rs) key ≡ key = subst (λ n. get_or (keys rs ++ key ∷ []) n key ≡ key) many (get_or-append_seam (keys rs) key [] key) in
    rw longer
    (position_is (same_key key) (keys rs ++ key ∷ []) (length rs) key (omega (arith, length-append (keys rs) (key ∷ []))) (ap (λ z. same_key key z) last ∙ same_self key)
    (λ k lt. ap (λ z. same_key key z) (get_or_append_left (keys rs) (key ∷ []) key k (omega arith)) ∙ none_position (same_key key) (keys rs) key none k (omega arith)))

pub register_at-kept : (rs : List Register) (r : Register) (name : List ℕ) (index : Option ℕ) (place : ℕ) → register_at rs name index ≡ Some place → register_at (rs ++ r ∷ []) name index ≡ Some place
unfolding register_at
register_at-kept rs r name index place at =
    let key : Key = (name, index) in
    let longer : keys (rs ++ r ∷ []) ≡ keys rs ++ register_key r ∷ [] = map-append register_key rs (r ∷ []) in
    let was = position-Some (same_key key) (keys rs) place key at in
    let within : place < length (keys rs) = was.0 in
    let left : (k : ℕ) → k < length (keys rs) → get_or (keys rs ++ register_key r ∷ []) k key ≡ get_or (keys rs) k key = λ k lt. get_or_append_left (keys rs) (register_key r ∷ []) key k lt in
    rw longer
    (position_is (same_key key) (keys rs ++ register_key r ∷ []) place key (omega (arith, length-append (keys rs) (register_key r ∷ []))) (ap (λ z. same_key key z) (left place within) ∙ was.1)
    (λ k lt. ap (λ z. same_key key z) (left k (omega arith)) ∙ was.2 k lt))
