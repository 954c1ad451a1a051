use Rattle.std.proofs.Common.{◌<◌, ℕ, List, map, length, sym, subst, arith}
use Rattle.std.specs.Prelude.{All}
use Rattle.std.proofs.lemmas.List.{length-map}
use Rattle.elastic_ast.specs.Units.SeenUnits.{seen_unit}
use Rattle.elastic_ast.specs.Units.Instances.{nth_size, pair_of, instances}
use Rattle.place_check.proofs.GroupLaws.{list_loop, list_end}
use Rattle.place_check.proofs.KnownLaws.{instances_named}
use Rattle.place_check.proofs.instances.list_instances.Goals as goal

pub loop-first-preserved : goal.loop-first-preserved
loop-first-preserved c = record {
  rest = list_loop (nth_size c.args.sizes.now) c.args.units.now c.loop-first.list c.list_turns.new.list _ c.loop-first.first c.index-units-first.result c.joined_from-count.result c.turns_of.result
      c.loop-first-test.true c.index-units-first.is c.joined_from-count.ensures.joined c.turns_of.ensures c.in_ok-list_turns.ensures c.loop-first.invariant.rest;
  first = (let h = c.joined_from-count.ensures.within in omega (arith, h));
}

pub returns-clause-named : goal.returns-clause-named
returns-clause-named c =
    let units = map seen_unit c.args.units.now in
    subst (λ (list : List (ℕ × ℕ)). All (λ pair. pair.0 < length c.args.units.now) list) (sym (list_end (nth_size c.args.sizes.now) c.args.units.now c.loop-first.list _ c.loop-first.first c.loop-first-test.false c.loop-first.invariant.rest))
    (subst (λ (n : ℕ). All (λ (pair : ℕ × ℕ). pair.0 < n) (map pair_of (instances units (nth_size c.args.sizes.now)))) (length-map c.args.units.now seen_unit) (instances_named units (nth_size c.args.sizes.now)).within)
