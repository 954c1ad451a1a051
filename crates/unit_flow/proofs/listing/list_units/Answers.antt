use Rattle.unit_flow.specs.Knowing.{known_decls}
use Rattle.unit_flow.specs.TooLarge.{IsFirstTooLarge, units_at}
use Rattle.unit_flow.proofs.ListingLaws.{handed_on, lists_more, refused_first}
use Rattle.unit_flow.proofs.listing.list_units.Goals as goal

pub returns-in_err-push_unit-clause-refused : goal.returns-in_err-push_unit-clause-refused
returns-in_err-push_unit-clause-refused c =
    handed_on (IsFirstTooLarge (units_at (known_decls c.args.known.now) c.args.pieces.now) c.args.most) c.from_residual.result _ c.from_residual.ensures.1
    (refused_first (known_decls c.args.known.now) c.args.most c.loop-piece.list c.in-Ok.unit c.args.pieces.now c.loop-piece.piece-index c.piece-item.result _ c.in_err-push_unit.ensures.refused c.in-Ok.ensures c.loop-piece-test.true c.piece-item.is
    c.loop-piece.invariant)

pub loop-piece-preserved : goal.loop-piece-preserved
loop-piece-preserved c =
    lists_more (known_decls c.args.known.now) c.args.most c.loop-piece.list c.push_unit.new.list c.in-Ok.unit c.args.pieces.now c.loop-piece.piece-index c.piece-item.result c.in_ok-push_unit.ensures.pushed c.in-Ok.ensures c.in_ok-push_unit.ensures.fits
    c.loop-piece-test.true c.piece-item.is c.loop-piece.invariant
