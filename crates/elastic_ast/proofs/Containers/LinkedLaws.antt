-- One more hash at the end of an index of hashes.
use Rattle.std.proofs.Common.{◌≡◌, ◌<◌, ℕ, ◌^◌, cond, nat_eq, List, [], ◌∷◌, ◌++◌, length, take, Option, Some, sym, subst, ◌∙◌, arith, length-append, ◌⊎◌, inl, inr, ◌≢◌}
use Rattle.std.proofs.lemmas.List.{map-append, length-map, take-append-le, get_or_append_left}
use Rattle.std.proofs.lemmas.Bool.{cases_eq}
use Rattle.std.proofs.Math.Seq.{get_or-append_seam, take-append_seam}
use Rattle.elastic_ast.specs.declared.chains.Link.{Link}
use Rattle.elastic_ast.specs.Containers.LastWith.{last_with}
use Rattle.elastic_ast.specs.Containers.Linked.{Linked, HasBefore, hashes}
use Rattle.elastic_ast.proofs.Containers.LastWithLaws.{last_with-push}

hashes-push : (links : List Link) (l : Link) → hashes (links ++ l ∷ []) ≡ hashes links ++ l.hash ∷ []
hashes-push links l = map-append (λ (l : Link). l.hash) links (l ∷ [])

length-hashes : (links : List Link) → length (hashes links) ≡ length links
length-hashes links = length-map links (λ (l : Link). l.hash)

-- the place before a place stays, whatever is appended
before_stays : (links : List Link) (l d : Link) (k : ℕ) → k < length links → HasBefore links k d → HasBefore (links ++ l ∷ []) k d
before_stays links l d k lt was =
    let e = hashes-push links l in
    let t : take k (hashes links ++ l.hash ∷ []) ≡ take k (hashes links) = take-append-le k (hashes links) (l.hash ∷ []) (omega (arith, length-hashes links)) in
    let g = get_or_append_left links (l ∷ []) d k lt in
    rw (g, e, t) was

-- that of the new place
before_new : (links : List Link) (l d : Link) → l.before ≡ last_with l.hash (hashes links) → HasBefore (links ++ l ∷ []) (length links) d
before_new links l d before =
    let e = hashes-push links l in
    let t : take (length links) (hashes links ++ l.hash ∷ []) ≡ hashes links = subst (λ n. take n (hashes links ++ l.hash ∷ []) ≡ hashes links) (length-hashes links) (take-append_seam (hashes links) (l.hash ∷ [])) in
    let g = get_or-append_seam links l [] d in
    rw (g, e, t) before

pub linked_push : (old new : ℕ → Option ℕ) (links : List Link) (l : Link) (n : ℕ) → Linked old links → n ≡ length links → n < 2 ^ 32 → l.before ≡ old l.hash → ((q : ℕ) → new q ≡ cond (nat_eq l.hash q) (Some n) (old q)) → Linked new (links ++ l ∷ [])
linked_push old new links l n was at room before updates = record {
  few = omega (arith, length-append links (l ∷ []));
  at_head = λ q. updates q ∙ rw (hashes-push links l, last_with-push q (hashes links) l.hash, length-hashes links, at, was.at_head q);
  at_link = λ k d lt. by k d lt (cases_eq k (length links));
}
  where
    by : (k : ℕ) (d : Link) → k < length (links ++ l ∷ []) → (k ≡ length links) ⊎ (k ≢ length links) → HasBefore (links ++ l ∷ []) k d
    by k d lt (inl e) = subst (λ z. HasBefore (links ++ l ∷ []) z d) (sym e) (before_new links l d (before ∙ was.at_head l.hash))
    by k d lt (inr ne) = let within : k < length links = omega (arith, length-append links (l ∷ [])) in before_stays links l d k within (was.at_link k d within)
