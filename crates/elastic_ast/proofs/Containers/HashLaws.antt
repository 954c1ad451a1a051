-- The hash of a place, from the hashes of its parts.
use Rattle.std.proofs.Common.{◌≡◌, ℕ, List, [], ◌∷◌, ◌++◌, refl, ap, ◌∙◌}
use Rattle.elastic_ast.specs.Containers.Fnv.{fnv, fnv_start, fnv_step}
use Rattle.elastic_ast.specs.Containers.Slots.{place_hash}

pub after : (state : ℕ) (xs ys : List ℕ) → fnv (fnv state xs) ys ≡ fnv state (xs ++ ys)
after state [] ys = refl
after state (x ∷ xs) ys = after (fnv_step state x) xs ys

pub two_and : (r t a b c : ℕ) (xs ys : List ℕ) → r ≡ fnv t xs → t ≡ fnv fnv_start (a ∷ b ∷ []) → b ≡ c → xs ≡ ys → r ≡ place_hash (a ∷ c ∷ ys)
unfolding place_hash
two_and r t a b c xs ys e f g h =
    e ∙ ap (λ (s : ℕ). fnv s xs) f ∙ after fnv_start (a ∷ b ∷ []) xs
    ∙ ap (λ (n : ℕ). fnv fnv_start (a ∷ n ∷ xs)) g ∙ ap (λ (zs : List ℕ). fnv fnv_start (a ∷ c ∷ zs)) h

pub three_and : (r t a b c d f : ℕ) (xs ys : List ℕ) → r ≡ fnv t xs → t ≡ fnv fnv_start (a ∷ b ∷ d ∷ []) → b ≡ c → d ≡ f → xs ≡ ys → r ≡ place_hash (a ∷ c ∷ f ∷ ys)
unfolding place_hash
three_and r t a b c d f xs ys e g h i j =
    e ∙ ap (λ (s : ℕ). fnv s xs) g ∙ after fnv_start (a ∷ b ∷ d ∷ []) xs
    ∙ ap (λ (n : ℕ). fnv fnv_start (a ∷ n ∷ d ∷ xs)) h ∙ ap (λ (n : ℕ). fnv fnv_start (a ∷ c ∷ n ∷ xs)) i ∙ ap (λ (zs : List ℕ). fnv fnv_start (a ∷ c ∷ f ∷ zs)) j

pub names_and : (r q t a b c d f : ℕ) (xs ys zs us : List ℕ) → r ≡ fnv q ys → q ≡ fnv t xs → t ≡ fnv fnv_start (a ∷ b ∷ d ∷ []) → b ≡ c → d ≡ f → xs ≡ zs → ys ≡ us → r ≡ place_hash (a ∷ c ∷ f ∷ (zs ++ us))
names_and r q t a b c d f xs ys zs us e g h i j k l =
    three_and r t a b c d f (xs ++ ys) (zs ++ us) (e ∙ ap (λ (s : ℕ). fnv s ys) g ∙ after t xs ys) h i j
    (ap (λ (vs : List ℕ). vs ++ ys) k ∙ ap (λ (vs : List ℕ). zs ++ vs) l)
