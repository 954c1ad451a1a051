-- Two instances that stand against their order, as a test; this project's own.
use Rattle.std.specs.Prelude.{ℕ, nat_le, nat_lt, Bool, true, not, List, [], ◌∷◌, option_map, Option, None}
use Rattle.std.specs.List.{find}
use Rattle.elastic_ast.specs.declared.flat.At.{At}
use Rattle.elastic_ast.specs.Typing.Scope.{or_else}
use Rattle.elastic_ast.specs.Units.PlainUnits.{PlainUnit}
use Rattle.elastic_ast.specs.Units.Order.{Relation, order_of}
use Rattle.place_check.specs.Standing.{placed_at}

-- whether the stages of an earlier instance and a later one are as their order asks
abbrev pub stands_so : Relation → ℕ → ℕ → Bool
stands_so Relation.Before stage later = nat_lt stage later
stands_so Relation.NotAfter stage later = nat_le stage later
stands_so Relation.Free stage later = true

abbrev pub against : List PlainUnit → At → At → Bool
against units first later =
    not (stands_so (order_of (placed_at units first).instance (placed_at units later).instance) first.stage later.stage)

-- the first two, by the earlier and then by the later
abbrev pub first_against : List PlainUnit → List At → Option (At × At)
first_against units [] = None
first_against units (first ∷ rest) =
    or_else (option_map (λ later. (first, later)) (find (against units first) rest)) (first_against units rest)
