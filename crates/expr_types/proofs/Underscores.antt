-- Two underscores in a row, by length.
use Rattle.std.proofs.Common.{◌≡◌, ℕ, ◌<◌, ◌≤◌, false, ◌||◌, ◌&&◌, List, [], ◌∷◌, length, drop, refl, arith}
use Rattle.std.specs.Prelude.{◌==◌, slice_index}
use Rattle.elastic_ast.specs.Typing.Demand.{has_underscores}

pub underscores_short : (n : List ℕ) → length n < 2 → has_underscores n ≡ false
underscores_short [] h = refl
underscores_short (a ∷ []) h = refl
underscores_short (a ∷ b ∷ n) h = absurd (omega arith)

pub underscores_long : (n : List ℕ) → 2 ≤ length n → has_underscores n ≡ ((slice_index n 0 == 95 && slice_index n 1 == 95) || has_underscores (drop 1 n))
underscores_long [] h = absurd (omega arith)
underscores_long (a ∷ []) h = absurd (omega arith)
underscores_long (a ∷ b ∷ n) h = refl

pub ruleset underscores = (underscores_short, underscores_long)
