-- What stands before the statements of a block, where its stage may be missing.
use Rattle.std.proofs.Common.{◌≡◌, ℕ, ◌<◌, ◌^◌, List, Option, Some, None, codes, refl, subst}
use Rattle.spelling.specs.Words.{Word}
use Rattle.spelling.specs.Grammar.{◌⨟◌, Begins, Bracketed, IsSign, Named, Num, Sign}
use Rattle.spelling.specs.Reading.{MayTake}
use Rattle.spelling.proofs.Only.{begins_first, empty_same, fact_of, no_sign, of_where}
use Rattle.p4_statements.specs.Statements.{SpellsStage}

pub record Staged (more : ℕ) (stage : Option ℕ) (a rest : List Word) : Type 0 where
  pub number : ℕ
  pub is : stage ≡ Some number
  pub within : number < 2 ^ 8
  pub ahead : MayTake (Sign (codes "@") ⨟ Named (codes "stage") ⨟ Bracketed (codes "(") (codes ")") more (λ _. Num number)) a rest

pub stage_there : (more : ℕ) (stage : Option ℕ) {a rest : List Word} → MayTake (SpellsStage more stage) a rest → Begins (IsSign (codes "{")) rest → Begins (IsSign (codes "@")) a → Staged more stage a rest
stage_there more None {rest = rest} m ends at = absurd (no_sign (codes "{") (codes "@") rest refl ends (subst (Begins (IsSign (codes "@"))) (empty_same m) at))
stage_there more (Some number) m ends at = record { number = number; is = refl; within = fact_of m; ahead = of_where m }

pub stage_missing : (more : ℕ) (stage : Option ℕ) {a rest : List Word} → MayTake (SpellsStage more stage) a rest → (Begins (IsSign (codes "@")) a → ⊥) → (None ≡ stage) × (a ≡ rest)
stage_missing more None m none = (refl, empty_same m)
stage_missing more (Some number) m none = absurd (none (begins_first (of_where m)))
