use Rattle.std.proofs.Common.{◌∙◌}
use Rattle.elastic_ast.proofs.Containers.PlaceLaws.{place_tells, same_place, index_told}
use Rattle.elastic_ast.proofs.slot.Slot.is_at.Goals as goal

pub returns-then-eq : goal.returns-then-eq
returns-then-eq c =
    (λ t. same_place _ _ _ _ _ (index_told _ _ c.if-eq.ensures) c.parts.ensures (c.same.ensures.0 t), λ e. c.same.ensures.1 (c.parts.ensures ∙ (place_tells _ _ _ _ e).0))
