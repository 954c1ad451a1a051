-- How the limits of a program are tested part by part.
use Rattle.std.proofs.Common.{ℕ, ◌+◌, ◌<◌, ◌≤◌, List, [], ◌∷◌, length, take, All, subst, arith}
use Rattle.std.proofs.lemmas.List.{take_all}
use Rattle.std.proofs.lemmas.List.Elements.{All-nil, All-cons, All-head, All-tail, All-weaker}
use Rattle.int_program.specs.Limits.{IsRising}
use Rattle.int_program.specs.declared.program.Part.{Part}

-- the parts name variables from `next` on and below n, by rising number
pub record AreLeft (n next : ℕ) (ps : List Part) : Type 0 where
  pub rising : IsRising ps
  pub above : All (λ q. next ≤ q.var) ps
  pub below : All (λ q. q.var < n) ps

pub left_none : (n next : ℕ) → AreLeft n next []
left_none n next = record { rising = tt; above = All-nil (λ q. next ≤ q.var); below = All-nil (λ q. q.var < n) }

pub left_first : (n next : ℕ) (p : Part) (ps : List Part) → AreLeft n next (p ∷ ps) → (next ≤ p.var) × (p.var < n)
left_first n next p ps h = (All-head (λ q. next ≤ q.var) p ps h.above, All-head (λ q. q.var < n) p ps h.below)

pub left_rest : (n next : ℕ) (p : Part) (ps : List Part) → AreLeft n next (p ∷ ps) → AreLeft n (p.var + 1) ps
left_rest n next p ps h =
    record {
      rising = h.rising.1;
      above = All-weaker (λ q. p.var < q.var) (λ q. p.var + 1 ≤ q.var) (λ q l. omega arith) ps h.rising.0;
      below = All-tail (λ q. q.var < n) p ps h.below;
    }

pub left_more : (n next : ℕ) (p : Part) (ps : List Part) → next ≤ p.var → p.var < n → AreLeft n (p.var + 1) ps → AreLeft n next (p ∷ ps)
left_more n next p ps l m h =
    record {
      rising = (All-weaker (λ q. p.var + 1 ≤ q.var) (λ q. p.var < q.var) (λ q k. omega arith) ps h.above, h.rising);
      above = All-cons (λ q. next ≤ q.var) p ps l (All-weaker (λ q. p.var + 1 ≤ q.var) (λ q. next ≤ q.var) (λ q k. omega arith) ps h.above);
      below = All-cons (λ q. q.var < n) p ps m h.below;
    }

pub left_all : (n : ℕ) (ps : List Part) → IsRising ps × All (λ p. p.var < n) ps → AreLeft n 0 ps
left_all n ps h = record { rising = h.0; above = λ k d l. omega arith; below = h.1 }

pub all_taken : {X : Type 0} (P : X → Type 0) (xs : List X) (n : ℕ) → length xs ≤ n → All P (take n xs) → All P xs
all_taken P xs n l h = subst (All P) (take_all n xs l) h
