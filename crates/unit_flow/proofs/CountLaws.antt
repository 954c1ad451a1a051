-- Header bits that are counted thing by thing.
use Rattle.std.proofs.Common.{◌≡◌, ℕ, ◌+◌, ◌<◌, List, [], ◌∷◌, take, length, get_or, Option, sym, ap, ◌∙◌, arith}
use Rattle.std.specs.Prelude.{sum_by}
use Rattle.std.proofs.lemmas.List.{take_more}
use Rattle.std.proofs.lemmas.List.Sums.{sum_by-append, sum_by-cons}
use Rattle.unit_flow.specs.declared.header.HeaderBits.{HeaderBits}
use Rattle.unit_flow.specs.HeaderCounts.{at_all, for_each, Counts, CountsOne}

pub sum_more : {X : Type 0} (f : X → ℕ) (xs : List X) (i : ℕ) (x : X) (old new more : ℕ) → i < length xs → x ≡ get_or xs i x → more ≡ f x → new ≡ old + more → old ≡ sum_by f (take i xs) → new ≡ sum_by f (take (i + 1) xs)
sum_more f xs i x old new more h here is sum before =
    let e : sum_by f (take (i + 1) xs) ≡ sum_by f (take i xs) + sum_by f (x ∷ []) =
    ap (sum_by f) (take_more xs i x h) ∙ sum_by-append f (take i xs) (get_or xs i x ∷ []) ∙ ap (λ z. sum_by f (take i xs) + sum_by f (z ∷ [])) (sym here) in
    let one : sum_by f (x ∷ []) ≡ f x + 0 = sum_by-cons f x [] in
    omega (arith, e, one, is, sum, before)

module _ {X : Type 0} (width : X → ℕ) (under : X → Option ℕ) where
  pub counts_step : (old mid new : HeaderBits) (x : X) (rest : List X) (w : ℕ) (u : Option ℕ) → w ≡ width x → u ≡ under x → CountsOne w u old mid → Counts width under mid new rest → Counts width under old new (x ∷ rest)
  counts_step old mid new x rest w u wide stands one more = record {
    fixed = sums old.fixed mid.fixed new.fixed _ _ _ _ (sum_by-cons (λ (p : ℕ × Option ℕ). at_all p.0 p.1) (w, u) []) (λ i. at_all (wide i) (stands i)) (sum_by-cons (λ y. at_all (width y) (under y)) x rest) one.fixed more.fixed;
    each = λ at h.
        sums (get_or old.each.items at 0) (get_or mid.each.items at 0) (get_or new.each.items at 0) _ _ _ _ (sum_by-cons (λ (p : ℕ × Option ℕ). for_each at p.0 p.1) (w, u) []) (λ i. for_each at (wide i) (stands i))
        (sum_by-cons (λ y. for_each at (width y) (under y)) x rest) (one.each at h) (more.each at (let e = one.dense in omega (arith, e, h)));
    dense = more.dense ∙ one.dense;
  }
    where
      sums : (old mid new alone here : ℕ) (all rest : ℕ) {given : ℕ} → alone ≡ given + 0 → given ≡ here → all ≡ here + rest → mid ≡ old + alone → new ≡ mid + rest → new ≡ old + all
      sums old mid new alone here all rest e f g a b = omega arith
