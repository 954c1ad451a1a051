use Rattle.elastic_ast.proofs.Containers.GivenLaws.{given_more, left_more}
use Rattle.elastic_ast.proofs.vector.Vector.give_to.Goals as goal

pub loop-k-preserved : goal.loop-k-preserved
loop-k-preserved c = record {
  given = given_more c.loop-k.slots c.args.slots.now _ c.args.self.now c.loop-k.k c.index-slots-k.result _ c.loop-k.invariant.given c.loop-k.invariant.left c.loop-k.auto.slots c.loop-k-test.true c.index-slots-k.is c.value_for-value.ensures c.overwrite.ensures;
  left = left_more c.loop-k.slots c.args.slots.now _ c.loop-k.k _ c.loop-k.invariant.left c.overwrite.ensures;
}
