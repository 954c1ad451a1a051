-- A value written into a cell of a register: what is read there and elsewhere, and that writes to two cells commute.
use Rattle.std.proofs.Common.{◌≡◌, ◌≢◌, ◌<◌, ◌≤◌, ℕ, zero, suc, ◌⊎◌, inl, inr, List, [], ◌∷◌, length, get_or, set, Bool, true, false, ◌==◌, Option, Some, None, refl, ap}
use Rattle.std.specs.Prelude.{slice_get, slice_set, option_map}
use Rattle.std.proofs.lemmas.Option.{slice_get_past, slice_get-get_or}
use Rattle.std.proofs.lemmas.Bool.{eq-eqb, eqb-true}
use Rattle.elx_bits.specs.Words.{BitWord}
use Rattle.elastic_ast.specs.Containers.RegisterLists.{Register, keys, width_of, values_of, cell_at, with_cell, stored, is_of_width}

-- lists of values
slice_get-set_same : (xs : List ℕ) (i v : ℕ) → slice_get (slice_set xs i v) i ≡ option_map (λ _. v) (slice_get xs i)
slice_get-set_same [] i v = refl
slice_get-set_same (x ∷ xs) zero v = refl
slice_get-set_same (x ∷ xs) (suc i) v = slice_get-set_same xs i v

slice_get-set_other : (xs : List ℕ) (i j v : ℕ) → i ≢ j → slice_get (slice_set xs i v) j ≡ slice_get xs j
slice_get-set_other [] i j v ne = refl
slice_get-set_other (x ∷ xs) zero zero v ne = absurd (ne refl)
slice_get-set_other (x ∷ xs) zero (suc j) v ne = refl
slice_get-set_other (x ∷ xs) (suc i) zero v ne = refl
slice_get-set_other (x ∷ xs) (suc i) (suc j) v ne = slice_get-set_other xs i j v (λ e. ne (ap suc e))

set-set_other : (xs : List ℕ) (i j v w : ℕ) → i ≢ j → slice_set (slice_set xs i v) j w ≡ slice_set (slice_set xs j w) i v
set-set_other [] i j v w ne = refl
set-set_other (x ∷ xs) zero zero v w ne = absurd (ne refl)
set-set_other (x ∷ xs) zero (suc j) v w ne = refl
set-set_other (x ∷ xs) (suc i) zero v w ne = refl
set-set_other (x ∷ xs) (suc i) (suc j) v w ne = ap (λ ys. x ∷ ys) (set-set_other xs i j v w (λ e. ne (ap suc e)))

-- a cell that is there, and one that isn't
pub cell_at-past : (rs : List Register) (place cell : ℕ) → length rs ≤ place → cell_at rs place cell ≡ None
unfolding cell_at
cell_at-past rs place cell past = rw (slice_get_past rs place past)

pub cell_at-without : (rs : List Register) (place cell : ℕ) (r : Register) → slice_get rs place ≡ Some r → length (values_of r) ≤ cell → cell_at rs place cell ≡ None
unfolding cell_at
cell_at-without rs place cell r at past = rw (at, slice_get_past (values_of r) cell past)

pub cell_at-within : (rs : List Register) (place cell : ℕ) (r : Register) (past : ℕ) → slice_get rs place ≡ Some r → cell < length (values_of r) → cell_at rs place cell ≡ Some (width_of r, get_or (values_of r) cell past)
unfolding cell_at
cell_at-within rs place cell r past at lt = rw (at, slice_get-get_or (values_of r) cell past lt)

-- the cell that was written
read_stored : (w v : ℕ) (o : Option ℕ) → option_map (λ value. let x : BitWord = (w, value) in x) (option_map (λ _. v) o) ≡ option_map (λ word. let x : BitWord = (word.0, v) in x) (option_map (λ value. let x : BitWord = (w, value) in x) o)
read_stored w v None = refl
read_stored w v (Some x) = refl

pub read_same : (rs : List Register) (place cell value : ℕ) → cell_at (with_cell rs place cell value) place cell ≡ option_map (λ word. let x : BitWord = (word.0, value) in x) (cell_at rs place cell)
unfolding cell_at with_cell
read_same [] place cell value = refl
read_same (r ∷ rs) zero cell value = rw (slice_get-set_same (values_of r) cell value) (read_stored (width_of r) value (slice_get (values_of r) cell))
read_same (r ∷ rs) (suc place) cell value = read_same rs place cell value

-- every other cell
pub read_other : (rs : List Register) (place cell value place₂ cell₂ : ℕ) → (place ≢ place₂) ⊎ (cell ≢ cell₂) → cell_at (with_cell rs place cell value) place₂ cell₂ ≡ cell_at rs place₂ cell₂
unfolding cell_at with_cell
read_other [] place cell value place₂ cell₂ ne = refl
read_other (r ∷ rs) zero cell value zero cell₂ (inl ne) = absurd (ne refl)
read_other (r ∷ rs) zero cell value zero cell₂ (inr ne) = rw (slice_get-set_other (values_of r) cell cell₂ value ne)
read_other (r ∷ rs) zero cell value (suc place₂) cell₂ ne = refl
read_other (r ∷ rs) (suc place) cell value zero cell₂ ne = refl
read_other (r ∷ rs) (suc place) cell value (suc place₂) cell₂ (inl ne) = read_other rs place cell value place₂ cell₂ (inl (λ e. ne (ap suc e)))
read_other (r ∷ rs) (suc place) cell value (suc place₂) cell₂ (inr ne) = read_other rs place cell value place₂ cell₂ (inr ne)

pub commute : (rs : List Register) (place cell value place₂ cell₂ value₂ : ℕ) → (place ≢ place₂) ⊎ (cell ≢ cell₂) → with_cell (with_cell rs place cell value) place₂ cell₂ value₂ ≡ with_cell (with_cell rs place₂ cell₂ value₂) place cell value
unfolding with_cell
commute [] place cell value place₂ cell₂ value₂ ne = refl
commute (r ∷ rs) zero cell value zero cell₂ value₂ (inl ne) = absurd (ne refl)
commute (r ∷ rs) zero cell value zero cell₂ value₂ (inr ne) = rw (set-set_other (values_of r) cell cell₂ value value₂ ne)
commute (r ∷ rs) zero cell value (suc place₂) cell₂ value₂ ne = refl
commute (r ∷ rs) (suc place) cell value zero cell₂ value₂ ne = refl
commute (r ∷ rs) (suc place) cell value (suc place₂) cell₂ value₂ (inl ne) = ap (λ ys. r ∷ ys) (commute rs place cell value place₂ cell₂ value₂ (inl (λ e. ne (ap suc e))))
commute (r ∷ rs) (suc place) cell value (suc place₂) cell₂ value₂ (inr ne) = ap (λ ys. r ∷ ys) (commute rs place cell value place₂ cell₂ value₂ (inr ne))

-- a write keeps names and indices, and is a write of one register
pub keys-with_cell : (rs : List Register) (place cell value : ℕ) → keys (with_cell rs place cell value) ≡ keys rs
unfolding with_cell
keys-with_cell [] place cell value = refl
keys-with_cell (r ∷ rs) zero cell value = refl
keys-with_cell (r ∷ rs) (suc place) cell value = ap (λ ys. (r.0, r.1) ∷ ys) (keys-with_cell rs place cell value)

pub with_cell-set : (rs : List Register) (place cell value : ℕ) (r : Register) → slice_get rs place ≡ Some r → with_cell rs place cell value ≡ set rs place (stored r cell value)
unfolding with_cell
with_cell-set [] place cell value r at = cc
with_cell-set (x ∷ rs) zero cell value r at = let e : x ≡ r = cc in ap (λ z. stored z cell value ∷ rs) e
with_cell-set (x ∷ rs) (suc place) cell value r at = ap (λ ys. x ∷ ys) (with_cell-set rs place cell value r at)

-- whether a cell has a width
pub with_width : (rs : List Register) (place cell width : ℕ) (r : Register) → slice_get rs place ≡ Some r → cell < length (values_of r) → width_of r ≡ width → is_of_width (cell_at rs place cell) width ≡ true
with_width rs place cell width r at lt same = rw (cell_at-within rs place cell r 0 at lt) (eq-eqb (width_of r) width same)

pub other_width : (rs : List Register) (place cell width : ℕ) (r : Register) → slice_get rs place ≡ Some r → width_of r ≢ width → is_of_width (cell_at rs place cell) width ≡ false
unfolding cell_at
other_width rs place cell width r at other = rw at (by (slice_get (values_of r) cell))
  where
    differs : (t : Bool) → (width_of r == width) ≡ t → t ≡ false
    differs true e = absurd (other (eqb-true (width_of r) width e))
    differs false e = refl

    by : (o : Option ℕ) → is_of_width (option_map (λ value. let x : BitWord = (width_of r, value) in x) o) width ≡ false
    by None = refl
    by (Some value) = differs (width_of r == width) refl
