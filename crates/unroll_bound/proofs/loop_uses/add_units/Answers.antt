use Rattle.std.proofs.Common.{◌≡◌, ◌+◌, ◌-◌, length, arith, subst}
use Rattle.std.specs.Prelude.{All}
use Rattle.unroll_bound.specs.LoopUses.{IsSmallUse}
use Rattle.unroll_bound.proofs.UseSteps.{uses_more}
use Rattle.unroll_bound.proofs.loop_uses.add_units.Goals as goal

pub loop-i-preserved : goal.loop-i-preserved
loop-i-preserved c = record {
  list = uses_more (length c.args.uses.now) c.args.units.now c.loop-i.i c.index-units-i.result c.loop-i.uses c.add_unit.new.uses (omega arith) (omega arith) c.index-units-i.is c.loop-i.invariant.list c.add_unit.ensures.changes;
  small = subst (λ n. All (IsSmallUse n) c.add_unit.new.uses) (let e : length c.args.units.now - c.loop-i.i + 1 ≡ length c.args.units.now - (c.loop-i.i - 1) = omega arith in e) (c.add_unit.ensures.small (length c.args.units.now - c.loop-i.i) c.loop-i.invariant.small);
}
