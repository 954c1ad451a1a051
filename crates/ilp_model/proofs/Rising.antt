-- Rows name their variables by rising number.
use Rattle.std.proofs.Common.{◌≡◌, ℕ, ℤ, zero, suc, pos, ◌+◌, ◌*◌, ◌<◌, ◌≤◌, Bool, true, false, cond, List, [], ◌∷◌, ◌++◌, map, length, filter, sym, subst, arith}
use Rattle.std.specs.Prelude.{nat_le}
use Rattle.std.specs.List.{AllByRecursion}
use Rattle.std.proofs.lemmas.List.{map-append, length-append}
use Rattle.std.proofs.Math.Nat.{mul-le-mul_left}
use Rattle.elastic_ast.specs.declared.flat.Steps.{Steps}
use Rattle.elastic_ast.specs.Meaning.Values.{bit}
use Rattle.elastic_ast.specs.Units.Instances.{Instance}
use Rattle.dep_graph.specs.PlacementRules.{EachLater}
use Rattle.ilp_model.specs.Candidates.{Candidate, candidates_from, symbolic}
use Rattle.unroll_bound.specs.Counts.{is_symbolic, numbers_below}
use Rattle.ilp_model.specs.StepKeys.{StepKey, keys_after, keys_of_pairs, keys_from}
use Rattle.ilp_model.specs.Variables.{Variable}
use Rattle.ilp_model.specs.Variables.Variable.{Size, Reached, Stands, Held}
use Rattle.ilp_model.specs.NamedRows.{NamedPart, part, plus}
use Rattle.ilp_model.specs.Rows.{size_parts, order_row}
use Rattle.unroll_bound.proofs.Totals.{each_more}
use Rattle.ilp_model.proofs.Places.{IsAt}

-- the numbers rise, from low to below high
abbrev pub Between : (Variable → ℕ) → ℕ → ℕ → List NamedPart → Type 0
Between num low high [] = low ≤ high
Between num low high (t ∷ ts) = (low ≤ num t.variable) × Between num (num t.variable + 1) high ts

pub between_low : (num : Variable → ℕ) (low low2 high : ℕ) (ts : List NamedPart) → low2 ≤ low → Between num low high ts → Between num low2 high ts
between_low num low low2 high [] l h = omega arith
between_low num low low2 high (t ∷ ts) l h = (omega (arith, h.0), h.1)

pub between_append : (num : Variable → ℕ) (low mid high : ℕ) (ts us : List NamedPart) → Between num low mid ts → Between num mid high us → Between num low high (ts ++ us)
between_append num low mid high [] us h k = between_low num mid low high us h k
between_append num low mid high (t ∷ ts) us h k = (h.0, between_append num (num t.variable + 1) mid high ts us h.1 k)

pub wide : (num : Variable → ℕ) (ts : List NamedPart) (low high high2 : ℕ) → high ≤ high2 → Between num low high ts → Between num low high2 ts
wide num [] low high high2 k h = omega (arith, h)
wide num (t ∷ ts) low high high2 k h = (h.0, wide num ts (num t.variable + 1) high high2 k h.1)

-- zeros may go
pub between_filter : (num : Variable → ℕ) (b : NamedPart → Bool) (low high : ℕ) (ts : List NamedPart) → Between num low high ts → Between num low high (filter b ts)
between_filter num b low high [] h = h
between_filter num b low high (t ∷ ts) h = go (b t) (between_filter num b (num t.variable + 1) high ts h.1)
  where
    go : (v : Bool) → Between num (num t.variable + 1) high (filter b ts) → Between num low high (cond v (t ∷ filter b ts) (filter b ts))
    go true r = (h.0, r)
    go false r = between_low num (num t.variable + 1) low high (filter b ts) (omega (arith, h.0)) r

-- one term for each number below n
pub between_numbers : (num : Variable → ℕ) (start : ℕ) (f : ℕ → ℤ) (g : ℕ → Variable) (n : ℕ) → ((t : ℕ) → num (g t) ≡ start + t) → Between num start (start + n) (map (λ t. part (f t) (g t)) (numbers_below n))
between_numbers num start f g zero h = omega arith
between_numbers num start f g (suc n) h =
    subst (Between num start (start + suc n)) (sym (map_more n)) (between_append num start (start + n) (start + suc n) (map (λ t. part (f t) (g t)) (numbers_below n)) (part (f n) (g n) ∷ []) (between_numbers num start f g n h) (omega (arith, h n), omega (arith, h n)))
  where
    map_more : (n : ℕ) → map (λ t. part (f t) (g t)) (numbers_below (suc n)) ≡ map (λ t. part (f t) (g t)) (numbers_below n) ++ part (f n) (g n) ∷ []
    map_more n = map-append (λ t. part (f t) (g t)) (numbers_below n) (n ∷ [])

pub at_short : {A : Type 0} (xs : List A) (k : ℕ) (x : A) → IsAt xs k x → k < length xs
at_short [] k x h = absurd h
at_short (y ∷ xs) zero x h = omega arith
at_short (y ∷ xs) (suc k) x h = omega (arith, at_short xs k x h)

-- in order of their places, and those with a symbolic count by their ranks
abbrev pub Ordered : Candidate → Candidate → Type 0
Ordered p q = p.place < q.place

all_from : (n k : ℕ) (ps : List Instance) → AllByRecursion (λ p. n ≤ p.place) (candidates_from n k ps)
all_from n k [] = tt
all_from n k (p ∷ ps) = (omega arith, each_more (λ q. n + 1 ≤ q.place) (λ q. n ≤ q.place) (λ q h. omega (arith, h)) (candidates_from (n + 1) (k + bit (is_symbolic p.unit.cells)) ps) (all_from (n + 1) (k + bit (is_symbolic p.unit.cells)) ps))

pub candidates_ordered : (n k : ℕ) (ps : List Instance) → EachLater Ordered (candidates_from n k ps)
candidates_ordered n k [] = tt
candidates_ordered n k (p ∷ ps) = (each_more (λ q. n + 1 ≤ q.place) (λ q. n < q.place) (λ q h. omega (arith, h)) (candidates_from (n + 1) (k + bit (is_symbolic p.unit.cells)) ps) (all_from (n + 1) (k + bit (is_symbolic p.unit.cells)) ps), candidates_ordered (n + 1) (k + bit (is_symbolic p.unit.cells)) ps)

next_block : (n m t start : ℕ) → t < m → start + (n * m + t) + 1 ≤ start + ((n + 1) * m + t)
next_block n m t start h = omega arith

-- a stage's terms over the instances
pub between_candidates : (num : Variable → ℕ) (start m t : ℕ) (f : Candidate → ℤ) → t < m → ((p : Candidate) → num (Stands p t) ≡ start + (p.place * m + t)) → (n k : ℕ) (ps : List Instance) → Between num (start + (n * m + t)) (start + ((n + length ps) * m + t)) (map (λ p. part (f p) (Stands p t)) (candidates_from n k ps))
between_candidates num start m t f l h n k [] = omega arith
between_candidates num start m t f l h n k (p ∷ ps) =
    let now : Candidate = record { place = n; rank = k; instance = p } in
    let e : (n + 1 + length ps) * m ≡ (n + suc (length ps)) * m = omega arith in (
      omega (arith, h now),
      between_low num (start + ((n + 1) * m + t)) (num (Stands now t) + 1) _ (map (λ p. part (f p) (Stands p t)) (candidates_from (n + 1) (k + bit (is_symbolic p.unit.cells)) ps)) (omega (arith, h now, next_block n m t start l))
          (subst (λ v. Between num (start + ((n + 1) * m + t)) (start + (v + t)) (map (λ p. part (f p) (Stands p t)) (candidates_from (n + 1) (k + bit (is_symbolic p.unit.cells)) ps))) e (between_candidates num start m t f l h (n + 1) (k + bit (is_symbolic p.unit.cells)) ps)),
    )

pub between_symbolic : (num : Variable → ℕ) (start m t : ℕ) (f : Candidate → ℤ) → t < m → ((p : Candidate) → num (Held p t) ≡ start + (p.rank * m + t)) → (n k : ℕ) (ps : List Instance) → Between num (start + (k * m + t)) (start + ((k + length (symbolic (candidates_from n k ps))) * m + t)) (map (λ p. part (f p) (Held p t)) (symbolic (candidates_from n k ps)))
between_symbolic num start m t f l h n k [] = omega arith
between_symbolic num start m t f l h n k (p ∷ ps) = go (is_symbolic p.unit.cells) (λ j. between_symbolic num start m t f l h (n + 1) j ps)
  where
    now : Candidate
    now = record { place = n; rank = k; instance = p }

    after : ℕ → List Candidate
    after j = symbolic (candidates_from (n + 1) j ps)

    go : (v : Bool) → ((j : ℕ) → Between num (start + (j * m + t)) (start + ((j + length (after j)) * m + t)) (map (λ p. part (f p) (Held p t)) (after j))) → Between num (start + (k * m + t)) (start + ((k + length (cond v (now ∷ after (k + bit v)) (after (k + bit v)))) * m + t)) (map (λ p. part (f p) (Held p t)) (cond v (now ∷ after (k + bit v)) (after (k + bit v))))
    go true ih =
        let e : (k + 1 + length (after (k + 1))) * m ≡ (k + suc (length (after (k + 1)))) * m = omega arith in (
          omega (arith, h now),
          between_low num (start + ((k + 1) * m + t)) (num (Held now t) + 1) _ (map (λ p. part (f p) (Held p t)) (after (k + 1))) (omega (arith, h now, next_block k m t start l))
              (subst (λ v. Between num (start + ((k + 1) * m + t)) (start + (v + t)) (map (λ p. part (f p) (Held p t)) (after (k + 1)))) e (ih (k + 1))),
        )
    go false ih = let e : k + 0 ≡ k = omega arith in subst (λ j. Between num (start + (k * m + t)) (start + ((k + length (after j)) * m + t)) (map (λ p. part (f p) (Held p t)) (after j))) (sym e) (ih k)

pub between_sizes : (num : Variable → ℕ) (by : List ℤ) (s : ℕ) → ((s : ℕ) → num (Size s) ≡ s) → Between num s (s + length by) (size_parts s by)
between_sizes num [] s h = omega arith
between_sizes num (a ∷ by) s h = (omega (arith, h s), between_low num (s + 1) (num (Size s) + 1) _ (size_parts (s + 1) by) (omega (arith, h s)) (subst (λ v. Between num (s + 1) v (size_parts (s + 1) by)) (omega arith) (between_sizes num by (s + 1) h)))

-- the row of two instances, of which the first has the smaller place
pub between_order : (num : Variable → ℕ) (start m low t : ℕ) → ((p : Candidate) (t : ℕ) → num (Stands p t) ≡ start + (p.place * m + t)) → (p q : Candidate) → p.place < q.place → Between num (start + p.place * m) (start + (q.place * m + m)) (order_row m p q low t).parts
between_order num start m low t h p q l =
    between_append num (start + p.place * m) (start + q.place * m) (start + (q.place * m + m)) (plus (λ r. bit (nat_le low r)) (Stands p) (numbers_below m)) (plus (λ r. bit (nat_le r t)) (Stands q) (numbers_below m))
    (wide num (plus (λ r. bit (nat_le low r)) (Stands p) (numbers_below m)) (start + p.place * m) (start + p.place * m + m) (start + q.place * m) (past p.place q.place m l) (between_numbers num (start + p.place * m) (λ r. pos (bit (nat_le low r))) (Stands p) m (λ t. omega (arith, h p t))))
    (wide num (plus (λ r. bit (nat_le r t)) (Stands q) (numbers_below m)) (start + q.place * m) (start + q.place * m + m) (start + (q.place * m + m)) (omega arith) (between_numbers num (start + q.place * m) (λ r. pos (bit (nat_le r t))) (Stands q) m (λ t. omega (arith, h q t))))
  where
    past : (i j m : ℕ) → i < j → start + i * m + m ≤ start + j * m
    past i j m l = let le : i + 1 ≤ j = omega arith in omega (arith, mul-le-mul_left m le)

-- the keys' terms
between_after : (num : Variable → ℕ) (start : ℕ) (f : StepKey → ℤ) → ((j : StepKey) → num (Reached j) ≡ start + j.place) → (b : ℕ → ℕ) (m : Bool) (s j v : ℕ) (ps : List (ℕ × ℕ)) → Between num (start + j) (start + (j + length (keys_after b m s j v ps))) (map (λ j. part (f j) (Reached j)) (keys_after b m s j v ps))
between_after num start f h b m s j v [] = omega arith
between_after num start f h b m s j v (p ∷ ps) = go (nat_le p.0 (b s)) (λ i. between_after num start f h b m s i p.1 ps)
  where
    now : StepKey
    now = record { place = j; minus = m; symbol = s; key = p.0; value = p.1; before = v }

    after : ℕ → List StepKey
    after i = keys_after b m s i p.1 ps

    go : (t : Bool) → ((i : ℕ) → Between num (start + i) (start + (i + length (after i))) (map (λ j. part (f j) (Reached j)) (after i))) → Between num (start + j) (start + (j + length (cond t (now ∷ after (j + 1)) (after j)))) (map (λ j. part (f j) (Reached j)) (cond t (now ∷ after (j + 1)) (after j)))
    go true ih = (omega (arith, h now), between_low num (start + (j + 1)) (num (Reached now) + 1) _ (map (λ j. part (f j) (Reached j)) (after (j + 1))) (omega (arith, h now)) (wide num (map (λ j. part (f j) (Reached j)) (after (j + 1))) (start + (j + 1)) (start + (j + 1 + length (after (j + 1)))) (start + (j + suc (length (after (j + 1))))) (omega arith) (ih (j + 1))))
    go false ih = ih j

pub between_keys : (num : Variable → ℕ) (start : ℕ) (f : StepKey → ℤ) → ((j : StepKey) → num (Reached j) ≡ start + j.place) → (b : ℕ → ℕ) (j : ℕ) (ts : List Steps) → Between num (start + j) (start + (j + length (keys_from b j ts))) (map (λ j. part (f j) (Reached j)) (keys_from b j ts))
between_keys num start f h b j [] = omega arith
between_keys num start f h b j (t ∷ ts) =
    subst (Between num (start + j) (start + (j + length (front t.pairs ++ back)))) (sym (map-append (λ j. part (f j) (Reached j)) (front t.pairs) back))
    (between_append num (start + j) (start + (j + length (front t.pairs))) (start + (j + length (front t.pairs ++ back))) (map (λ j. part (f j) (Reached j)) (front t.pairs)) (map (λ j. part (f j) (Reached j)) back) (of_pairs t.pairs)
    (wide num (map (λ j. part (f j) (Reached j)) back) (start + (j + length (front t.pairs))) (start + (j + length (front t.pairs) + length back)) (start + (j + length (front t.pairs ++ back))) (omega (arith, length-append (front t.pairs) back)) (between_keys num start f h b (j + length (front t.pairs)) ts)))
  where
    front : List (ℕ × ℕ) → List StepKey
    front ps = keys_of_pairs b t.minus t.symbol j ps

    back : List StepKey
    back = keys_from b (j + length (front t.pairs)) ts

    of_pairs : (ps : List (ℕ × ℕ)) → Between num (start + j) (start + (j + length (front ps))) (map (λ j. part (f j) (Reached j)) (front ps))
    of_pairs [] = omega arith
    of_pairs (p ∷ ps) = between_after num start f h b t.minus t.symbol j p.1 ps
