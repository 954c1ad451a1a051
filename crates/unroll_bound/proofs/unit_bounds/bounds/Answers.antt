use Rattle.std.proofs.Common.{ℕ, List, Some, length, sym, ap, ◌∙◌, subst, arith}
use Rattle.std.specs.Prelude.{MatchOption}
use Rattle.elastic_ast.specs.Units.Instances.{nth_size}
use Rattle.elastic_ast.specs.Units.SeenUnits.{seen_units}
use Rattle.unroll_bound.specs.BoundAnswers.{AreSmallBounds, HaveBounds, IsMoreAt}
use Rattle.unroll_bound.specs.GatheredBounds.{AreFewAt}
use Rattle.unroll_bound.proofs.SoundLaws.{small_given}
use Rattle.unroll_bound.proofs.unit_bounds.bounds.Goals as goal

pub returns-in-Some-clause-printable : goal.returns-in-Some-clause-printable
returns-in-Some-clause-printable c =
    let great = c.in-Some.ensures in
    let found = c.in_ok-all.ensures.found in
    let list = ap length c.as_slice.ensures.value in
    let within = great.within in
    let dense = found.dense in
    let bound = found.each great.symbol (omega (arith, list, within, dense))
    ∙ ap Some (ap (λ (bounds : List ℕ). nth_size bounds great.symbol) (sym c.as_slice.ensures.value) ∙ great.here) in
    let small = small_given (seen_units c.args.units.now) c.args.target.now great.symbol c.in-Some.count c.requires.sound c.requires.target bound in
    omega (arith, small)

pub returns-clause-found : goal.returns-clause-found
returns-clause-found c =
    let units = seen_units c.args.units.now in
    let target = c.args.target.now in
    let now = c.as_slice-3.result.now in
    let same = c.in_ok-most.ensures ∙ c.as_slice-2.ensures.value in
    let few = subst (AreFewAt units target) c.as_slice-3.ensures
    (subst (λ found. MatchOption found (AreFewAt units target now) (λ excess. IsMoreAt units target now excess.0 excess.1)) c.in-None.is c.in_ok-what.ensures.more) in
    record {
      found = subst (HaveBounds units target) (sym same) c.in_ok-all.ensures.found;
      small = subst AreSmallBounds (c.as_slice.ensures.value ∙ sym same) c.in_default.ensures;
      instances = few.instances;
      variables = few.variables;
      rows = few.rows;
    }
