-- Walks along a placement, one after the other.
use Rattle.std.proofs.Common.{◌≡◌, ◌∙◌, ℕ, zero, suc, ◌+◌, ◌<◌, ◌≤◌, Bool, true, false, List, [], ◌∷◌, ◌++◌, map, drop, length, append_assoc, refl, ap, arith, Some, Result, Ok, Err}
use Rattle.std.specs.Prelude.{if◌then◌else◌}
use Rattle.std.proofs.lemmas.List.{drop_more}
use Rattle.elastic_ast.specs.declared.flat.At.{At}
use Rattle.dep_graph.specs.PlacementRules.{named_pair}
use Rattle.place_check.specs.FirstFault.{same_pair, first_difference}
use Rattle.place_check.specs.Walking.{Walks}
use Rattle.place_check.proofs.UseLaws.{at_place}

pub walks_none : (placement : List At) (place : ℕ) → place ≤ length placement → Walks placement place [] (Ok place)
walks_none placement place h = record { meets = λ more. refl; within = h }

-- what is walked behind a walk that met all
pub walks_both : (placement : List At) (place next : ℕ) (one other : List (ℕ × ℕ)) (result : Result ℕ ℕ) → Walks placement place one (Ok next) → Walks placement next other result → Walks placement place (one ++ other) result
walks_both placement place next one other result w v = record {
  meets = λ more. (ap (λ z. first_difference place (map named_pair (drop place placement)) z) (append_assoc one other more) ∙ w.meets (other ++ more) ∙ v.meets more);
  within = v.within;
}

-- a walk that has stopped stops whatever follows
pub walks_stopped : (placement : List At) (place stop : ℕ) (one other : List (ℕ × ℕ)) → Walks placement place one (Err stop) → Walks placement place (one ++ other) (Err stop)
walks_stopped placement place stop one other w = record {
  meets = λ more. (ap (λ z. first_difference place (map named_pair (drop place placement)) z) (append_assoc one other more) ∙ w.meets (other ++ more));
  within = w.within;
}

head_walk : (place : ℕ) (one other : ℕ × ℕ) (ones more : List (ℕ × ℕ)) (same : Bool) → same_pair one other ≡ same → first_difference place (one ∷ ones) (other ∷ more) ≡ (if same then first_difference (place + 1) ones more else Some place)
head_walk place one other ones more same e = ap (λ (b : Bool). if b then first_difference (place + 1) ones more else Some place) e

pub step_named : (placement : List At) (place : ℕ) → place < length placement → map named_pair (drop place placement) ≡ named_pair (at_place placement place) ∷ map named_pair (drop (place + 1) placement)
step_named placement place h = ap (map named_pair) (drop_more placement place (record { unit = 0; index = 0; stage = 0 }) h)

module _ (placement : List At) (place : ℕ) (pair : ℕ × ℕ) where
  pub walks_one : place < length placement → same_pair (named_pair (at_place placement place)) pair ≡ true → Walks placement place (pair ∷ []) (Ok (place + 1))
  walks_one h e = record {
    meets = λ more. (ap (λ z. first_difference place z (pair ∷ more)) (step_named placement place h) ∙ head_walk place (named_pair (at_place placement place)) pair (map named_pair (drop (place + 1) placement)) more true e);
    within = omega arith;
  }

  pub walks_apart : place < length placement → same_pair (named_pair (at_place placement place)) pair ≡ false → Walks placement place (pair ∷ []) (Err place)
  walks_apart h e = record {
    meets = λ more. (ap (λ z. first_difference place z (pair ∷ more)) (step_named placement place h) ∙ head_walk place (named_pair (at_place placement place)) pair (map named_pair (drop (place + 1) placement)) more false e);
    within = omega arith;
  }

pub past_end : {A : Type 0} (xs : List A) (i : ℕ) → length xs ≤ i → drop i xs ≡ []
past_end [] zero h = refl
past_end [] (suc i) h = refl
past_end (x ∷ xs) zero h = absurd (omega (arith, h))
past_end (x ∷ xs) (suc i) h = past_end xs i (omega (arith, h))

pub walks_end : (placement : List At) (place : ℕ) (pair : ℕ × ℕ) → place ≤ length placement → length placement ≤ place → Walks placement place (pair ∷ []) (Err place)
walks_end placement place pair h end = record {
  meets = λ more. ap (λ z. first_difference place (map named_pair z) (pair ∷ more)) (past_end placement place end);
  within = h;
}
