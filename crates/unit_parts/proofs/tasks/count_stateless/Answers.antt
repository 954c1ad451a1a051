use Rattle.std.proofs.Common.{◌+◌, ◌∙◌, drop, refl}
use Rattle.std.proofs.lemmas.List.Sums.{sum_by-cons}
use Rattle.std.specs.Prelude.{map, sum_by}
use Rattle.elastic_ast.specs.Containers.LocationRefs.{seen_ref}
use Rattle.elastic_ast.specs.Units.Costs.{stateless_units}
use Rattle.unit_parts.proofs.CappedLaws.{stateless_capped, count_on, count_all}
use Rattle.unit_parts.proofs.tasks.count_stateless.Goals as goal

pub loop-at-preserved : goal.loop-at-preserved
loop-at-preserved c =
    count_on (λ xs. sum_by stateless_units (map seen_ref xs)) (stateless_units (seen_ref c.at-item.result)) c.args.writes.now c.loop-at.at-index c.at-item.result c.loop-at.sum c.stateless.result c.capped_sum-sum.result _
    (sum_by-cons stateless_units (seen_ref c.at-item.result) (map seen_ref (drop (c.loop-at.at-index + 1) c.args.writes.now))) c.loop-at-test.true c.at-item.is (c.stateless.ensures ∙ stateless_capped (seen_ref c.at-item.result)) c.capped_sum-sum.ensures c.loop-at.invariant

pub returns : goal.returns
returns c = count_all (λ xs. sum_by stateless_units (map seen_ref xs)) c.args.writes.now c.loop-at.at-index c.loop-at.sum _ refl c.loop-at-test.false c.loop-at.invariant
