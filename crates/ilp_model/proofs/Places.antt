-- Each variable stands at its number.
use Rattle.std.proofs.Common.{◌≡◌, ℕ, zero, suc, ◌+◌, ◌*◌, ◌<◌, Bool, true, false, cond, List, [], ◌∷◌, ◌++◌, map, length, filter, refl, sym, ap, ◌∙◌, subst, arith, ⊎_elim, get_or, append_assoc}
use Rattle.std.specs.Prelude.{nat_le, flat_map}
use Rattle.std.specs.List.{AllByRecursion}
use Rattle.std.proofs.lemmas.Bool.{cases_lt}
use Rattle.std.proofs.lemmas.List.{length-append, length-map}
use Rattle.std.proofs.lemmas.List.Elements.{filter-append}
use Rattle.elastic_ast.specs.declared.flat.Steps.{Steps}
use Rattle.elastic_ast.specs.Meaning.Values.{bit}
use Rattle.elastic_ast.specs.Units.PlainUnits.{PlainUnits}
use Rattle.elastic_ast.specs.Units.Instances.{Instance}
use Rattle.ilp_model.specs.Candidates.{Candidate, candidates_from, symbolic}
use Rattle.unroll_bound.specs.Counts.{is_symbolic, numbers_below, is_looped, looped_below}
use Rattle.ilp_model.specs.StepKeys.{StepKey, keys_after, keys_of_pairs, keys_from}
use Rattle.ilp_model.specs.Variables.{Variable}
use Rattle.ilp_model.specs.Variables.Variable.{Exists}
use Rattle.ilp_model.proofs.Totals.{total}
use Rattle.unroll_bound.proofs.Totals.{each_more, each_append}

pub flat_map-append : {A B : Type 0} (f : A → List B) (xs ys : List A) → flat_map f (xs ++ ys) ≡ flat_map f xs ++ flat_map f ys
flat_map-append f [] ys = refl
flat_map-append f (x ∷ xs) ys = ap (λ l. f x ++ l) (flat_map-append f xs ys) ∙ sym (append_assoc (f x) (flat_map f xs) (flat_map f ys))

-- x stands at k
abbrev pub IsAt : {A : Type 0} → List A → ℕ → A → Type 0
IsAt [] k x = ⊥
IsAt (y ∷ ys) zero x = y ≡ x
IsAt (y ∷ ys) (suc k) x = IsAt ys k x

pub at_left : {A : Type 0} (xs ys : List A) (k : ℕ) (x : A) → IsAt xs k x → IsAt (xs ++ ys) k x
at_left [] ys k x h = absurd h
at_left (y ∷ xs) ys zero x h = h
at_left (y ∷ xs) ys (suc k) x h = at_left xs ys k x h

pub at_right : {A : Type 0} (xs ys : List A) (m k : ℕ) (x : A) → m ≡ length xs + k → IsAt ys k x → IsAt (xs ++ ys) m x
at_right [] ys m k x e h = subst (λ v. IsAt ys v x) (omega (arith, e)) h
at_right (y ∷ xs) ys zero k x e h = absurd (omega (arith, e))
at_right (y ∷ xs) ys (suc m) k x e h = at_right xs ys m k x (omega (arith, e)) h

pub at_map : {A B : Type 0} (f : A → B) (xs : List A) (k : ℕ) (x : A) → IsAt xs k x → IsAt (map f xs) k (f x)
at_map f [] k x h = absurd h
at_map f (y ∷ xs) zero x h = ap f h
at_map f (y ∷ xs) (suc k) x h = at_map f xs k x h

pub at_get : {A : Type 0} (xs : List A) (k : ℕ) (x d : A) → IsAt xs k x → get_or xs k d ≡ x
at_get [] k x d h = absurd h
at_get (y ∷ xs) zero x d h = h
at_get (y ∷ xs) (suc k) x d h = at_get xs k x d h

pub length-numbers : (n : ℕ) → length (numbers_below n) ≡ n
length-numbers zero = refl
length-numbers (suc n) = omega (arith, length-append (numbers_below n) (n ∷ []), length-numbers n)

pub at_number : (n t : ℕ) → t < n → IsAt (numbers_below n) t t
at_number zero t h = absurd (omega arith)
at_number (suc n) t h = ⊎_elim (λ lt. at_left (numbers_below n) (n ∷ []) t t (at_number n t lt)) (λ le. (let e : n ≡ t = omega arith in at_right (numbers_below n) (n ∷ []) t 0 t (omega (arith, length-numbers n)) e)) (cases_lt t n)

pub length-flat_map_even : {A B : Type 0} (f : A → List B) (m : ℕ) → ((x : A) → length (f x) ≡ m) → (xs : List A) → length (flat_map f xs) ≡ length xs * m
length-flat_map_even f m h [] = omega arith
length-flat_map_even f m h (x ∷ xs) = omega (arith, length-append (f x) (flat_map f xs), h x, length-flat_map_even f m h xs)

pub at_even : {A B : Type 0} (f : A → List B) (m : ℕ) → ((x : A) → length (f x) ≡ m) → (xs : List A) (i t : ℕ) (x : A) (y : B) → IsAt xs i x → IsAt (f x) t y → IsAt (flat_map f xs) (i * m + t) y
at_even f m h [] i t x y a c = absurd a
at_even f m h (w ∷ xs) zero t x y a c = at_left (f w) (flat_map f xs) (0 * m + t) y (subst (λ v. IsAt (f w) v y) (omega arith) (subst (λ v. IsAt (f v) t y) (sym a) c))
at_even f m h (w ∷ xs) (suc i) t x y a c = at_right (f w) (flat_map f xs) (suc i * m + t) (i * m + t) y (omega (arith, h w)) (at_even f m h xs i t x y a c)

-- the places of the instances
abbrev pub HasPlace : ℕ → List Candidate → Candidate → Type 0
HasPlace n ps p = (m : ℕ) × (p.place ≡ n + m) × IsAt ps m p

abbrev pub HasRank : ℕ → List Candidate → Candidate → Type 0
HasRank k ps p = is_symbolic p.instance.unit.cells ≡ true → (m : ℕ) × (p.rank ≡ k + m) × IsAt (symbolic ps) m p

pub candidates_placed : (n k : ℕ) (ps : List Instance) → AllByRecursion (HasPlace n (candidates_from n k ps)) (candidates_from n k ps)
candidates_placed n k [] = tt
candidates_placed n k (p ∷ ps) = (
  (0, omega arith, refl),
  each_more (HasPlace (n + 1) (candidates_from (n + 1) (k + bit (is_symbolic p.unit.cells)) ps)) (HasPlace n (candidates_from n k (p ∷ ps))) (λ q h. (suc h.0, omega (arith, h.1), h.2)) (candidates_from (n + 1) (k + bit (is_symbolic p.unit.cells)) ps) (candidates_placed (n + 1) (k + bit (is_symbolic p.unit.cells)) ps),
)

pub candidates_ranked : (n k : ℕ) (ps : List Instance) → AllByRecursion (HasRank k (candidates_from n k ps)) (candidates_from n k ps)
candidates_ranked n k [] = tt
candidates_ranked n k (p ∷ ps) = go (is_symbolic p.unit.cells) refl (candidates_ranked (n + 1) (k + bit (is_symbolic p.unit.cells)) ps)
  where
    now : Candidate
    now = record { place = n; rank = k; instance = p }

    after : List Candidate
    after = candidates_from (n + 1) (k + bit (is_symbolic p.unit.cells)) ps

    kept : (v : Bool) → is_symbolic p.unit.cells ≡ v → symbolic (now ∷ after) ≡ cond v (now ∷ symbolic after) (symbolic after)
    kept v e = ap (λ v. cond v (now ∷ symbolic after) (symbolic after)) e

    go : (v : Bool) → is_symbolic p.unit.cells ≡ v → AllByRecursion (HasRank (k + bit (is_symbolic p.unit.cells)) after) after → AllByRecursion (HasRank k (now ∷ after)) (now ∷ after)
    go true e r = (
      (λ q. (0, omega arith, subst (λ l. IsAt l 0 now) (sym (kept true e)) refl)),
      each_more (HasRank (k + bit (is_symbolic p.unit.cells)) after) (HasRank k (now ∷ after)) (λ q h s. (let g = h s in (suc g.0, omega (arith, g.1, ap bit e), subst (λ l. IsAt l (suc g.0) q) (sym (kept true e)) g.2))) after r,
    )
    go false e r = (
      (λ q. cc),
      each_more (HasRank (k + bit (is_symbolic p.unit.cells)) after) (HasRank k (now ∷ after)) (λ q h s. (let g = h s in (g.0, omega (arith, g.1, ap bit e), subst (λ l. IsAt l g.0 q) (sym (kept false e)) g.2))) after r,
    )

-- the places of the keys
abbrev pub KeyHasPlace : ℕ → List StepKey → StepKey → Type 0
KeyHasPlace j ks k = (m : ℕ) × (k.place ≡ j + m) × IsAt ks m k

after_placed : (b : ℕ → ℕ) (m : Bool) (s j v : ℕ) (ps : List (ℕ × ℕ)) → AllByRecursion (KeyHasPlace j (keys_after b m s j v ps)) (keys_after b m s j v ps)
after_placed b m s j v [] = tt
after_placed b m s j v (p ∷ ps) = go (nat_le p.0 (b s)) (λ i. after_placed b m s i p.1 ps)
  where
    now : StepKey
    now = record { place = j; minus = m; symbol = s; key = p.0; value = p.1; before = v }

    go : (t : Bool) → ((i : ℕ) → AllByRecursion (KeyHasPlace i (keys_after b m s i p.1 ps)) (keys_after b m s i p.1 ps)) → AllByRecursion (KeyHasPlace j (cond t (now ∷ keys_after b m s (j + 1) p.1 ps) (keys_after b m s j p.1 ps))) (cond t (now ∷ keys_after b m s (j + 1) p.1 ps) (keys_after b m s j p.1 ps))
    go true ih = ((0, omega arith, refl), each_more (KeyHasPlace (j + 1) (keys_after b m s (j + 1) p.1 ps)) (KeyHasPlace j (now ∷ keys_after b m s (j + 1) p.1 ps)) (λ q h. (suc h.0, omega (arith, h.1), h.2)) (keys_after b m s (j + 1) p.1 ps) (ih (j + 1)))
    go false ih = ih j

pub keys_placed : (b : ℕ → ℕ) (j : ℕ) (ts : List Steps) → AllByRecursion (KeyHasPlace j (keys_from b j ts)) (keys_from b j ts)
keys_placed b j [] = tt
keys_placed b j (t ∷ ts) =
    each_append (KeyHasPlace j (front t.pairs ++ back)) (front t.pairs) back
    (each_more (KeyHasPlace j (front t.pairs)) (KeyHasPlace j (front t.pairs ++ back)) (λ q h. (h.0, h.1, at_left (front t.pairs) back h.0 q h.2)) (front t.pairs) (of_pairs t.pairs))
    (each_more (KeyHasPlace (j + length (front t.pairs)) back) (KeyHasPlace j (front t.pairs ++ back)) (λ q h. (length (front t.pairs) + h.0, omega (arith, h.1), at_right (front t.pairs) back (length (front t.pairs) + h.0) h.0 q refl h.2)) back (keys_placed b (j + length (front t.pairs)) ts))
  where
    front : List (ℕ × ℕ) → List StepKey
    front ps = keys_of_pairs b t.minus t.symbol j ps

    back : List StepKey
    back = keys_from b (j + length (front t.pairs)) ts

    of_pairs : (ps : List (ℕ × ℕ)) → AllByRecursion (KeyHasPlace j (front ps)) (front ps)
    of_pairs [] = tt
    of_pairs (p ∷ ps) = after_placed b t.minus t.symbol j p.1 ps

-- the variables of loops
module _ (units : PlainUnits) (b : ℕ → ℕ) where
  abbrev pub existing : ℕ → List Variable
  existing s = map (Exists s) (numbers_below (b s))

  existing_length : (s : ℕ) → length (existing s) ≡ b s
  existing_length s = length-map (numbers_below (b s)) (Exists s) ∙ length-numbers (b s)

  pub all_existing_length : (ss : List ℕ) → length (flat_map existing ss) ≡ total b ss
  all_existing_length [] = refl
  all_existing_length (s ∷ ss) = omega (arith, length-append (existing s) (flat_map existing ss), existing_length s, all_existing_length ss)

  loops_more : (m : ℕ) → flat_map existing (looped_below units.list (suc m)) ≡ flat_map existing (looped_below units.list m) ++ flat_map existing (filter (is_looped units.list) (m ∷ []))
  loops_more m = ap (flat_map existing) (filter-append (is_looped units.list) (numbers_below m) (m ∷ [])) ∙ flat_map-append existing (looped_below units.list m) (filter (is_looped units.list) (m ∷ []))

  pub exists_at : (m s i : ℕ) → s < m → is_looped units.list s ≡ true → i < b s → IsAt (flat_map existing (looped_below units.list m)) (total b (looped_below units.list s) + i) (Exists s i)
  exists_at zero s i h l k = absurd (omega arith)
  exists_at (suc m) s i h l k = subst (λ v. IsAt v (total b (looped_below units.list s) + i) (Exists s i)) (sym (loops_more m)) (⊎_elim (λ lt. at_left (flat_map existing (looped_below units.list m)) (flat_map existing (filter (is_looped units.list) (m ∷ []))) (total b (looped_below units.list s) + i) (Exists s i) (exists_at m s i lt l k)) (λ le. here (omega arith)) (cases_lt s m))
    where
      once : IsAt (flat_map existing (s ∷ [])) i (Exists s i)
      once = at_left (existing s) [] i (Exists s i) (at_map (Exists s) (numbers_below (b s)) i i (at_number (b s) i k))

      here : m ≡ s → IsAt (flat_map existing (looped_below units.list m) ++ flat_map existing (filter (is_looped units.list) (m ∷ []))) (total b (looped_below units.list s) + i) (Exists s i)
      here e = subst (λ m. IsAt (flat_map existing (looped_below units.list m) ++ flat_map existing (filter (is_looped units.list) (m ∷ []))) (total b (looped_below units.list s) + i) (Exists s i)) (sym e)
          (at_right (flat_map existing (looped_below units.list s)) (flat_map existing (filter (is_looped units.list) (s ∷ []))) (total b (looped_below units.list s) + i) i (Exists s i) (omega (arith, all_existing_length (looped_below units.list s)))
          (subst (λ v. IsAt (flat_map existing (cond v (s ∷ []) [])) i (Exists s i)) (sym l) once))
