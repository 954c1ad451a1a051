use Rattle.std.proofs.Common.{arith}
use Rattle.elastic_ast.specs.Units.Instances.{nth_size}
use Rattle.place_check.proofs.GroupLaws.{walk_loop, ends_late, ends_even}
use Rattle.place_check.proofs.listing.first_difference.Goals as goal

pub loop-first-preserved : goal.loop-first-preserved
loop-first-preserved c = record {
  rest = walk_loop (nth_size c.args.sizes.now) c.args.units.now c.args.placement.now c.loop-first.place c.loop-first.first c.index-units-first.result c.joined_from-count.result c.turns_of.result _ _
      c.loop-first-test.true c.index-units-first.is c.joined_from-count.ensures.joined c.turns_of.ensures c.in-Ok.ensures c.loop-first.invariant.rest;
  place = c.in-Ok.ensures.within;
  first = (let h = c.joined_from-count.ensures.within in omega (arith, h));
}

pub returns-in-Err-clause-place : goal.returns-in-Err-clause-place
returns-in-Err-clause-place c =
    walk_loop (nth_size c.args.sizes.now) c.args.units.now c.args.placement.now c.loop-first.place c.loop-first.first c.index-units-first.result c.joined_from-count.result c.turns_of.result _ _
    c.loop-first-test.true c.index-units-first.is c.joined_from-count.ensures.joined c.turns_of.ensures c.in-Err.ensures c.loop-first.invariant.rest

pub returns-then-place-placement-clause-place : goal.returns-then-place-placement-clause-place
returns-then-place-placement-clause-place c =
    ends_late (nth_size c.args.sizes.now) c.args.units.now c.args.placement.now c.loop-first.place c.loop-first.first _ c.loop-first-test.false c.loop-first.invariant.rest c.if-place-placement.true

pub returns-else-place-placement-clause-place : goal.returns-else-place-placement-clause-place
returns-else-place-placement-clause-place c =
    ends_even (nth_size c.args.sizes.now) c.args.units.now c.args.placement.now c.loop-first.place c.loop-first.first _ c.loop-first-test.false c.loop-first.invariant.rest c.if-place-placement.false
