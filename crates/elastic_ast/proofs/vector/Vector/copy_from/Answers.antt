use Rattle.std.proofs.Common.{refl, sym, ap, subst, ◌∙◌, arith}
use Rattle.std.proofs.lemmas.List.{with_items_is}
use Rattle.elastic_ast.specs.Containers.Slots.{seen_slots, Indexed}
use Rattle.elastic_ast.specs.Containers.Vectors.{BitsOfValidity}
use Rattle.elastic_ast.proofs.Containers.GivenLaws.{given_seen, given_index}
use Rattle.elastic_ast.proofs.Containers.SameLaws.{one_order_same}
use Rattle.elastic_ast.proofs.vector.Vector.copy_from.Goals as goal

pub returns-then-in_one_order-clause-same : goal.returns-then-in_one_order-clause-same
returns-then-in_one_order-clause-same c =
    let order = rw (c.deref.ensures.value, c.deref-2.ensures.value) at (c.in_one_order.ensures.0 c.if-in_one_order.true) in
    (λ _. one_order_same c.self.inside.slots.items c.from.inside.slots.items c.args.self.now c.args.from.now c.self.view_is c.from.view_is order, λ _. refl)

pub invariant_of-self-2 : goal.invariant_of-self-2
invariant_of-self-2 c =
    let given = rw c.deref_mut-2.ensures.value at c.give_to.ensures in
    subst (Indexed c.self.inside.chains) (sym (with_items_is c.self.inside.slots c.give_to.new.slots (omega arith)))
    (given_index c.self.inside.chains c.self.inside.slots.items c.give_to.new.slots c.args.self.now c.args.from.now c.self.view_is c.self.invariant (subst BitsOfValidity c.from.view_is c.from.invariant.vector.validity) given (c.has_places_of.ensures.0 c.if-not-has_places_of.false))

pub returns-clause-now : goal.returns-clause-now
returns-clause-now c =
    let given = rw c.deref_mut-2.ensures.value at c.give_to.ensures in
    ap seen_slots (with_items_is c.self.inside.slots c.give_to.new.slots (omega arith))
    ∙ given_seen c.self.inside.slots.items c.give_to.new.slots c.args.self.now c.args.from.now c.self.view_is given (c.has_places_of.ensures.0 c.if-not-has_places_of.false)
