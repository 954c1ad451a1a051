use Rattle.std.proofs.Common.{◌≡◌, true, false, sym, ◌∙◌, arith}
use borrow.Author.Count.{below_more}
use Rattle.elastic_ast.proofs.Containers.SlotLaws.{length_places}
use Rattle.elastic_ast.proofs.Containers.SameLaws.{asked}
use Rattle.elastic_ast.proofs.vector.Vector.has_all.Goals as goal

pub returns-then-is_none : goal.returns-then-is_none
returns-then-is_none c =
    let at = rw c.parts.ensures at c.value_at.ensures in
    let no = asked c.args.slots.now c.args.self.now c.loop-slot.slot-index c.slot-item.result c.value_at.result false c.loop-slot-test.true c.slot-item.is at c.if-is_none.ensures in
    (λ t. absurd (let e : false ≡ true = t in cc), λ all. sym no ∙ all c.loop-slot.slot-index (omega (arith, length_places c.args.slots.now)))

pub loop-slot-preserved : goal.loop-slot-preserved
loop-slot-preserved c =
    let at = rw c.parts.ensures at c.value_at.ensures in
    below_more _ _ c.loop-slot.invariant
    (asked c.args.slots.now c.args.self.now c.loop-slot.slot-index c.slot-item.result c.value_at.result true c.loop-slot-test.true c.slot-item.is at c.if-is_none.ensures)
