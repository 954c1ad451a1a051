-- Keys that rise, by how many there are.
use Rattle.std.proofs.Common.{◌≡◌, ℕ, ◌<◌, ◌≤◌, true, ◌&&◌, List, [], ◌∷◌, length, drop, get_or, map, refl, arith}
use Rattle.std.specs.Prelude.{nat_lt}
use Rattle.elastic_ast.specs.Typing.Demand.{rises}
use Rattle.elastic_ast.specs.Typing.Asked.{pair_key}

pub rises_short : (pairs : List (ℕ × ℕ)) → length pairs < 2 → rises (map pair_key pairs) ≡ true
rises_short [] h = refl
rises_short (a ∷ []) h = refl
rises_short (a ∷ b ∷ pairs) h = absurd (omega arith)

pub rises_long : (pairs : List (ℕ × ℕ)) → 2 ≤ length pairs → rises (map pair_key pairs) ≡ (nat_lt (get_or pairs 0 (0, 0)).0 (get_or pairs 1 (0, 0)).0 && rises (map pair_key (drop 1 pairs)))
rises_long [] h = absurd (omega arith)
rises_long (a ∷ []) h = absurd (omega arith)
rises_long (a ∷ b ∷ pairs) h = refl

pub ruleset rising = (rises_short, rises_long)
