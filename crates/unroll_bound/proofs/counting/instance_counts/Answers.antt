use Rattle.std.proofs.Common.{sym, ◌∙◌, arith}
use Rattle.elastic_ast.specs.declared.flat.Unit.{Unit as FlatUnit}
use Rattle.elastic_ast.specs.Units.PlainUnits.{PlainUnit}
use Rattle.elastic_ast.specs.Units.Instances.{nth_size}
use Rattle.elastic_ast.specs.Units.SeenUnits.{seen_unit}
use Rattle.place_check.specs.Walking.{turns_of}
use Rattle.unroll_bound.specs.Counts.{symbolic_turns}
use Rattle.unroll_bound.proofs.CountSteps.{sum_before, sum_none, sum_whole, sum_mapped}
use Rattle.unroll_bound.proofs.counting.instance_counts.Goals as goal

pub loop-i-init : goal.loop-i-init
loop-i-init c = record {
  all = sum_none (λ (unit : FlatUnit). turns_of (nth_size c.args.bounds.now) unit.size) c.args.units.now;
  symbolic = sum_none (λ (unit : FlatUnit). symbolic_turns (nth_size c.args.bounds.now) (seen_unit unit)) c.args.units.now;
  all_small = omega arith;
  symbolic_small = omega arith;
}

pub loop-i-preserved : goal.loop-i-preserved
loop-i-preserved c = record {
  all = sum_before (λ (unit : FlatUnit). turns_of (nth_size c.args.bounds.now) unit.size) c.args.units.now c.loop-i.i c.loop-i.all c.wide_turns-all.result c.index-units-i.result
      (omega arith) (omega arith) c.index-units-i.is c.wide_turns-all.ensures.turns c.loop-i.invariant.all;
  symbolic = sum_before (λ (unit : FlatUnit). symbolic_turns (nth_size c.args.bounds.now) (seen_unit unit)) c.args.units.now c.loop-i.i c.loop-i.symbolic c.symbolic_turns-symbolic.result c.index-units-i.result
      (omega arith) (omega arith) c.index-units-i.is c.symbolic_turns-symbolic.ensures.turns c.loop-i.invariant.symbolic;
  all_small = (let s = c.loop-i.invariant.all_small in let t = c.wide_turns-all.ensures.small in omega (arith, s, t));
  symbolic_small = (let s = c.loop-i.invariant.symbolic_small in let t = c.symbolic_turns-symbolic.ensures.small in omega (arith, s, t));
}

pub returns-clause-all : goal.returns-clause-all
returns-clause-all c =
    sum_whole (λ (unit : FlatUnit). turns_of (nth_size c.args.bounds.now) unit.size) c.args.units.now c.loop-i.i c.loop-i.all (omega arith) c.loop-i.invariant.all
    ∙ sym (sum_mapped (λ (unit : PlainUnit). turns_of (nth_size c.args.bounds.now) unit.size) seen_unit c.args.units.now)

pub returns-clause-symbolic : goal.returns-clause-symbolic
returns-clause-symbolic c =
    sum_whole (λ (unit : FlatUnit). symbolic_turns (nth_size c.args.bounds.now) (seen_unit unit)) c.args.units.now c.loop-i.i c.loop-i.symbolic (omega arith) c.loop-i.invariant.symbolic
    ∙ sym (sum_mapped (symbolic_turns (nth_size c.args.bounds.now)) seen_unit c.args.units.now)
