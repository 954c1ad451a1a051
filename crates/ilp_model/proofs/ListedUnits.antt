-- A listed instance has the unit of its number.
use Rattle.std.proofs.Common.{ℕ, ◌<◌, map, length}
use Rattle.std.specs.Prelude.{All}
use Rattle.std.specs.List.{AllByRecursion}
use Rattle.elastic_ast.specs.Units.PlainUnits.{PlainUnits}
use Rattle.elastic_ast.specs.Units.Instances.{instances}
use Rattle.unroll_bound.proofs.Totals.{each_more, each_mapped}
use Rattle.ilp_model.specs.Candidates.{candidates}
use Rattle.ilp_model.specs.ListedCandidates.{listed}
use Rattle.ilp_model.specs.declared.listing.Candidate.{Candidate as Listed}
use Rattle.ilp_model.proofs.Belonging.{all_candidates}
use Rattle.ilp_model.proofs.InstanceFacts.{HasUnit, instances_have_units}
use Rattle.ilp_model.proofs.Lists.{to_all}

pub candidates_have_units : (units : PlainUnits) (bounds : ℕ → ℕ)
    → AllByRecursion (λ one. HasUnit units.list one.instance) (candidates units bounds)
candidates_have_units units bounds =
    all_candidates (HasUnit units.list) 0 0 (instances units.list bounds) (instances_have_units units.list bounds)

pub listed_within : (units : PlainUnits) (bounds : ℕ → ℕ)
    → All (λ (one : Listed). one.unit < length units.list) (map listed (candidates units bounds))
listed_within units bounds =
    to_all (λ (one : Listed). one.unit < length units.list) (map listed (candidates units bounds))
    (each_mapped listed (λ (one : Listed). one.unit < length units.list) (candidates units bounds)
    (each_more (λ one. HasUnit units.list one.instance) (λ one. one.instance.number < length units.list) (λ one h. h.number) (candidates units bounds)
    (candidates_have_units units bounds)))
