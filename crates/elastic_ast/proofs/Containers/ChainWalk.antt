-- The way through the places of a hash, from the last one down.
use Rattle.std.proofs.Common.{◌≡◌, ◌⊎◌, inl, inr, ◌<◌, ℕ, suc, Bool, false, List, length, take, get_or, Option, Some, None, refl, sym, subst, ◌∙◌, arith}
use Rattle.std.proofs.lemmas.List.{get_or-take, length-take-le}
use Rattle.std.proofs.Math.Nat.{eq-or-lt_of_le}
use Rattle.elastic_ast.specs.Containers.LastWith.{last_with, IsPassing, AllFail}
use Rattle.elastic_ast.proofs.Containers.LastWithLaws.{IsLast, absent, found, at_most}

-- how many places may come: it falls from each place to the next
abbrev pub places_left : Option ℕ → ℕ
places_left None = 0
places_left (Some p) = suc p

-- the next place has the hash, and each place of the hash has failed the test or may come
pub record Walk (Test : ℕ → Bool → Type 0) (hashes : List ℕ) (hash : ℕ) (next : Option ℕ) : Type 0 where
  pub at : (p : ℕ) → next ≡ Some p → (p < length hashes) × (get_or hashes p 0 ≡ hash)
  pub tested : (k : ℕ) → k < length hashes → get_or hashes k 0 ≡ hash → Test k false ⊎ (k < places_left next)

module _ {Test : ℕ → Bool → Type 0} (hashes : List ℕ) (hash : ℕ) where
  pub walk_start : Walk Test hashes hash (last_with hash hashes)
  walk_start = by (last_with hash hashes) refl
    where
      by : (o : Option ℕ) → last_with hash hashes ≡ o → Walk Test hashes hash (last_with hash hashes)
      by None e = record { at = λ p f. cc; tested = λ k lt t. absurd (absent hash hashes e k lt t) }
      by (Some q) e =
          let l : IsLast hash hashes q = found hash hashes q e in
          subst (Walk Test hashes hash) (sym e) (record {
            at = λ p f. let same : q ≡ p = cc in subst (λ z. (z < length hashes) × (get_or hashes z 0 ≡ hash)) same (l.within, l.there);
            tested = λ k lt t. let most = at_most hash hashes q k l lt t in inr (omega arith);
          })

  pub walk_step : (p : ℕ) → Walk Test hashes hash (Some p) → Test p false → Walk Test hashes hash (last_with (get_or hashes p 0) (take p hashes))
  walk_step p w failed = by (last_with (get_or hashes p 0) (take p hashes)) refl
    where
      here : (p < length hashes) × (get_or hashes p 0 ≡ hash)
      here = w.at p refl

      length_is : length (take p hashes) ≡ p
      length_is = let lt : p < length hashes = here.0 in length-take-le p hashes (omega arith)

      hashed : (k : ℕ) → k < p → get_or hashes k 0 ≡ hash → get_or (take p hashes) k 0 ≡ get_or hashes p 0
      hashed k less t = get_or-take p hashes k 0 less ∙ t ∙ sym here.1

      below : (k : ℕ) → k < length hashes → get_or hashes k 0 ≡ hash → Test k false ⊎ (k < p)
      below k lt t = among (w.tested k lt t)
        where
          or_here : (k ≡ p) ⊎ (k < p) → Test k false ⊎ (k < p)
          or_here (inl same) = inl (subst (λ z. Test z false) (sym same) failed)
          or_here (inr less) = inr less

          among : Test k false ⊎ (k < suc p) → Test k false ⊎ (k < p)
          among (inl f) = inl f
          among (inr most) = or_here (eq-or-lt_of_le (omega arith))

      tested : (next : Option ℕ) → ((k : ℕ) → k < p → get_or hashes k 0 ≡ hash → k < places_left next) → (k : ℕ) → k < length hashes → get_or hashes k 0 ≡ hash → Test k false ⊎ (k < places_left next)
      tested next come k lt t = among (below k lt t)
        where
          among : Test k false ⊎ (k < p) → Test k false ⊎ (k < places_left next)
          among (inl f) = inl f
          among (inr less) = inr (come k less t)

      by : (o : Option ℕ) → last_with (get_or hashes p 0) (take p hashes) ≡ o → Walk Test hashes hash (last_with (get_or hashes p 0) (take p hashes))
      by None e = subst (Walk Test hashes hash) (sym e) (record {
        at = λ q f. cc;
        tested = tested None (λ k less t. absurd (absent (get_or hashes p 0) (take p hashes) e k (omega (arith, length_is)) (hashed k less t)));
      })
      by (Some q) e =
          let l : IsLast (get_or hashes p 0) (take p hashes) q = found (get_or hashes p 0) (take p hashes) q e in
          let less : q < p = let a : q < length (take p hashes) = l.within in omega (arith, length_is) in
          let inside : q < length hashes = let a : p < length hashes = here.0 in omega arith in
          let there : get_or hashes q 0 ≡ hash = sym (get_or-take p hashes q 0 less) ∙ l.there ∙ here.1 in
          subst (Walk Test hashes hash) (sym e) (record {
            at = λ r f. let same : q ≡ r = cc in subst (λ z. (z < length hashes) × (get_or hashes z 0 ≡ hash)) same (inside, there);
            tested = tested (Some q) (λ k lower t. let most = at_most (get_or hashes p 0) (take p hashes) q k l (omega (arith, length_is)) (hashed k lower t) in omega arith);
          })

  -- where no place may come, each has failed
  pub walk_end : Walk Test hashes hash None → IsPassing Test hashes hash None
  walk_end w = AllFail (λ k lt t. by k (w.tested k lt t))
    where
      by : (k : ℕ) → Test k false ⊎ (k < 0) → Test k false
      by k (inl f) = f
      by k (inr less) = absurd (omega arith)

pub fewer_left : (n p : ℕ) (hashes : List ℕ) → p < length hashes → places_left (last_with n (take p hashes)) < suc p
fewer_left n p hashes lt = by (last_with n (take p hashes)) refl
  where
    by : (o : Option ℕ) → last_with n (take p hashes) ≡ o → places_left o < suc p
    by None e = omega arith
    by (Some q) e = let l : IsLast n (take p hashes) q = found n (take p hashes) q e in let a : q < length (take p hashes) = l.within in omega (arith, length-take-le p hashes (omega arith))
