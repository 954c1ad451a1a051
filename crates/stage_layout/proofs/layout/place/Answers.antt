use Rattle.std.proofs.Common.{◌≡◌, ◌∙◌, ℕ, ℤ, ◌<◌, ◌≤◌, ◌^◌, List, length, map, All, sym, ap, subst}
use Rattle.std.proofs.lemmas.List.{length-map}
use Rattle.elastic_ast.specs.declared.flat.Unit.{Unit as FlatUnit}
use Rattle.elastic_ast.specs.Units.Instances.{nth_size}
use Rattle.elastic_ast.specs.Units.SeenUnits.{seen_unit, seen_units}
use Rattle.unit_flow.specs.SoundUnits.{IsLoopSize}
use Rattle.unroll_bound.specs.BoundAnswers.{most_at_bounds}
use Rattle.unroll_bound.specs.Counts.{numbers_below}
use Rattle.ilp_model.specs.Candidates.{candidates}
use Rattle.ilp_model.specs.ListedCandidates.{listed}
use Rattle.ilp_model.specs.declared.listing.Candidate.{Candidate}
use Rattle.stage_layout.specs.Reading.{value_of_number, entries_from}
use Rattle.stage_layout.proofs.ReadingLaws.{listed_few, listed_named, size_small, placement_read, feasible_read, value_read, sizes_numbered}
use Rattle.stage_layout.proofs.layout.place.Goals as goal

pub placement_at-requires-clause-sizes : goal.placement_at-requires-clause-sizes
placement_at-requires-clause-sizes c =
    subst (λ (units : List FlatUnit). All (λ unit. IsLoopSize (length c.in_ok-numbers.numbers.loops) unit.size) units) (sym c.as_slice-2.ensures)
    (sizes_numbered c.args.units.now c.args.target.now (nth_size c.args.bounds.now) c.in_ok-numbers.numbers c.requires.sound c.in_ok-numbers.ensures)

pub placement_at-requires-clause-few : goal.placement_at-requires-clause-few
placement_at-requires-clause-few c =
    subst (λ (list : List Candidate). length list ≤ most_at_bounds) (sym (c.as_slice-3.ensures ∙ c.in_ok-list.ensures))
    (listed_few (seen_units c.args.units.now) c.args.target.now c.args.bounds.now c.requires.within)

pub placement_at-requires-clause-named : goal.placement_at-requires-clause-named
placement_at-requires-clause-named c =
    let count : length (map seen_unit c.args.units.now.list) ≡ length c.as_slice-2.result.now =
    length-map c.args.units.now.list seen_unit ∙ ap (λ (units : List FlatUnit). length units) (sym c.as_slice-2.ensures) in
    subst (λ (list : List Candidate). All (λ one. one.unit < length c.as_slice-2.result.now) list) (sym (c.as_slice-3.ensures ∙ c.in_ok-list.ensures))
    (subst (λ (n : ℕ). All (λ one. one.unit < n) (map listed (candidates (seen_units c.args.units.now) (nth_size c.args.bounds.now)))) count
    (listed_named (seen_units c.args.units.now) (nth_size c.args.bounds.now)))

pub sizes_at-requires : goal.sizes_at-requires
sizes_at-requires c symbol l =
    subst (λ (point : List ℤ). value_of_number point symbol < 2 ^ 64) (sym c.as_slice-point.ensures)
    (size_small (seen_units c.args.units.now) c.args.target.now c.args.bounds.now c.args.point.now.values c.requires.sound c.requires.within c.requires.point symbol
    (let e = c.as_slice-4.ensures in subst (λ symbols. symbol < length symbols) e l))

pub returns-clause-sizes : goal.returns-clause-sizes
returns-clause-sizes c =
    c.in_ok-sizes.ensures
    ∙ ap (λ (point : List ℤ). map (value_of_number point) (numbers_below (length c.as_slice-4.result.now))) c.as_slice-point.ensures
    ∙ (let e = c.as_slice-4.ensures in ap (λ symbols. map (value_of_number c.args.point.now.values) (numbers_below (length symbols))) e)

pub returns-clause-placement : goal.returns-clause-placement
returns-clause-placement c =
    let numbers = c.in_ok-numbers.numbers in
    let point = c.args.point.now.values in
    c.in_ok-placement.ensures
    ∙ ap (λ (values : List ℤ). entries_from values numbers (map seen_unit c.as_slice-2.result.now) 0 c.as_slice-3.result.now) c.as_slice-point.ensures
    ∙ ap (λ (units : List FlatUnit). entries_from point numbers (map seen_unit units) 0 c.as_slice-3.result.now) c.as_slice-2.ensures
    ∙ ap (λ (list : List Candidate). entries_from point numbers (map seen_unit c.args.units.now.list) 0 list) (c.as_slice-3.ensures ∙ c.in_ok-list.ensures)
    ∙ placement_read (seen_units c.args.units.now) c.args.target.now (nth_size c.args.bounds.now) point numbers c.requires.sound c.in_ok-numbers.ensures

pub returns-clause-feasible : goal.returns-clause-feasible
returns-clause-feasible c =
    feasible_read (seen_units c.args.units.now) c.args.target.now (nth_size c.args.bounds.now) c.args.point.now.values c.in_ok-sizes.sizes.values c.in_ok-placement.placement.at
    c.requires.sound c.requires.point (returns-clause-sizes c) (returns-clause-placement c)

pub returns-clause-value : goal.returns-clause-value
returns-clause-value c =
    value_read (seen_units c.args.units.now) c.args.target.now (nth_size c.args.bounds.now) c.args.point.now.values c.in_ok-sizes.sizes.values
    c.requires.sound c.requires.point (returns-clause-sizes c)
