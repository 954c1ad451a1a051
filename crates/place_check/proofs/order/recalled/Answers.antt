use Rattle.std.proofs.Common.{◌+◌, ◌*◌, map, length, Some}
use Rattle.std.specs.Prelude.{◌%◌, IfSome}
use Rattle.std.proofs.lemmas.List.Elements.{All-set}
use Rattle.elastic_ast.specs.Units.SeenUnits.{seen_unit}
use Rattle.place_check.specs.KnownOrders.{IsKnown}
use Rattle.place_check.proofs.order.recalled.Goals as goal

pub returns-clause-kept : goal.returns-clause-kept
returns-clause-kept c =
    All-set (λ slot. IfSome slot (IsKnown (map seen_unit c.args.units.now))) c.args.kept.now ((c.args.first % 64 * 64 + c.args.second % 64) % length c.args.kept.now) (Some c.of-known.result) c.of-known.ensures.known c.requires.kept
