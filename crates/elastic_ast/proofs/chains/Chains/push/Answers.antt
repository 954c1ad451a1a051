use Rattle.std.proofs.Common.{◌∙◌, arith}
use Rattle.elastic_ast.proofs.Containers.LinkedLaws.{linked_push}
use Rattle.elastic_ast.proofs.chains.Chains.push.Goals as goal

pub invariant_of-self-2 : goal.invariant_of-self-2
invariant_of-self-2 c =
    rw (c.push_reserved.ensures.items, c.reserve.ensures.items) (linked_push _ _ _ _ c.len-place.result c.self.invariant (omega arith) (omega arith) (c.copied-before.ensures ∙ c.get.ensures.value) (λ q. c.in_ok-insert.ensures.updates.0 q))
