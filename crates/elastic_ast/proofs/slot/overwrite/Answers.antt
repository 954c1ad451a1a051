use Rattle.std.proofs.Common.{sym, ap}
use Rattle.elastic_ast.proofs.Containers.SlotLaws.{entries_set}
use Rattle.elastic_ast.specs.Containers.Slots.{slot_place}
use Rattle.elastic_ast.proofs.slot.overwrite.Goals as goal

pub returns : goal.returns
returns c = entries_set c.args.slots.now c.args.k c.index-slots-k.result _ c.requires c.index-slots-k.is (ap slot_place (sym c.index-slots-k.is))
