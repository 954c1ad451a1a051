use Rattle.std.proofs.Common.{arith}
use Rattle.elastic_ast.proofs.Containers.CopyLaws.{same_length, all_entries, copied_places, copied_more}
use Rattle.elastic_ast.proofs.slot.copy_in_order.Goals as goal

pub overwrite-requires : goal.overwrite-requires
overwrite-requires c = omega (arith, same_length c.loop-k.slots c.args.from.now c.loop-k.invariant.one_order)

pub returns : goal.returns
returns c = all_entries c.loop-k.slots c.args.from.now c.loop-k.k c.loop-k.invariant.one_order c.loop-k-test.false c.loop-k.invariant.copied

pub loop-k-preserved : goal.loop-k-preserved
loop-k-preserved c = record {
  one_order = copied_places c.loop-k.slots c.args.from.now _ c.loop-k.k _ c.loop-k.invariant.one_order c.overwrite.ensures;
  copied = copied_more c.loop-k.slots c.args.from.now _ c.loop-k.k _ c.loop-k.invariant.one_order c.loop-k.invariant.copied c.loop-k-test.true c.index-from-k.is c.overwrite.ensures;
}
