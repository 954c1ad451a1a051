use Rattle.std.proofs.Common.{arith}
use Rattle.elastic_ast.proofs.Containers.KeptPuts.{put_list}
use Rattle.elastic_ast.proofs.registers.Registers.put.Goals as goal

pub invariant_of-self-2 : goal.invariant_of-self-2
invariant_of-self-2 c =
    rw (c.push_reserved.ensures.items, c.reserve.ensures.items, c.in_ok-push.ensures.ok, c.key_hash.ensures)
    (put_list c.self.inside.chains c.self.inside.list.items _ c.args.cells c.self.invariant c.requires.positive c.requires.within (omega arith) (c.in_ok-cells.ensures.items_if_clones_equal (λ y h. h)) (rw c.self.view_is c.requires.absent))
