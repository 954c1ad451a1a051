use Rattle.std.proofs.Common.{ℕ, List, length, map, sym, subst, arith}
use Rattle.std.specs.Prelude.{All}
use Rattle.std.proofs.lemmas.List.{length-map}
use Rattle.elastic_ast.specs.declared.flat.Unit.{Unit as FlatUnit}
use Rattle.elastic_ast.specs.Units.SeenUnits.{seen_unit}
use Rattle.unit_flow.specs.SoundUnits.{IsLoopSize}
use Rattle.unroll_bound.proofs.CountSteps.{small_instances, small_symbolic}
use Rattle.unroll_bound.proofs.SoundLaws.{sound_sizes}
use Rattle.unroll_bound.proofs.tally.totals_at.Goals as goal

pub instance_counts-requires : goal.instance_counts-requires
instance_counts-requires c =
    subst (λ (units : List FlatUnit). All (λ unit. IsLoopSize (length c.args.bounds.now) unit.size) units) (sym c.as_slice-2.ensures)
    (subst (λ (n : ℕ). All (λ (unit : FlatUnit). IsLoopSize n unit.size) c.args.units.now.list) (sym c.requires.dense) (sound_sizes c.args.units.now c.requires.sound))

pub returns-clause-small : goal.returns-clause-small
returns-clause-small c =
    let units = map seen_unit c.as_slice-2.result.now in
    let count = length-map c.as_slice-2.result.now seen_unit in
    let few = c.instance_counts.ensures.counted in
    record {
      indices = c.loop_counts.ensures.indices;
      rows = c.loop_counts.ensures.rows;
      keys = c.key_count.ensures.small;
      instances = (let e = c.instance_counts.ensures.all in let s = small_instances c.args.bounds.now units c.requires.small in omega (arith, e, s, count, few));
      symbolic = (let e = c.instance_counts.ensures.symbolic in let s = small_symbolic c.args.bounds.now units c.requires.small in omega (arith, e, s, count, few));
    }
