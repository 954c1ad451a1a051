use Rattle.std.proofs.Common.{◌≡◌, ◌∙◌, sym, subst, map, arith}
use Rattle.elastic_ast.specs.Units.Instances.{nth_size, instances}
use Rattle.elastic_ast.specs.Units.SeenUnits.{seen_unit}
use Rattle.ilp_model.specs.Candidates.{candidates_from}
use Rattle.ilp_model.specs.ListedCandidates.{listed, IsRanked}
use Rattle.ilp_model.proofs.ListingLaws.{joined_leads, other_leads, listing_end}
use Rattle.ilp_model.proofs.listing.listed_candidates.Goals as goal
use Rattle.ilp_model.proofs.listing.listed_candidates.Goals.{then-not-joins+in_ok-add_group, else-not-joins}

pub loop-next-preserved : goal.loop-next-preserved
loop-next-preserved c = elim c.if-not-joins.branch [
  | then-not-joins+in_ok-add_group w ↦ record {
    leads = other_leads (nth_size c.args.bounds.now) c.as_slice-units.result.now c.loop-next.first c.loop-next.next c.index-units-first.result c.index-units-next.result
        c.loop-next.invariant.before c.loop-next-test.true c.index-units-first.is c.index-units-next.is (sym c.joins.ensures ∙ w.if-not-joins.true)
        _ c.loop-next.listing w.add_group.new.self c.if-not-joins.listing c.if-not-joins.first _ w.index-units-first-then-not-joins.result
        w.index-units-first-then-not-joins.is w.listing-is w.first-is c.loop-next.invariant.leads w.in_ok-add_group.ensures.adds;
    before = let e = w.first-is in omega (arith, e);
    within = omega (arith, c.loop-next-test.true);
    ranked = subst IsRanked (sym w.listing-is) w.in_ok-add_group.ensures.ranked;
  }
  | else-not-joins w ↦ record {
    leads = joined_leads (nth_size c.args.bounds.now) c.as_slice-units.result.now c.loop-next.first c.loop-next.next c.index-units-first.result c.index-units-next.result
        c.loop-next.invariant.before c.loop-next-test.true c.index-units-first.is c.index-units-next.is (sym c.joins.ensures ∙ w.if-not-joins.false)
        _ c.loop-next.listing c.if-not-joins.listing c.if-not-joins.first _ w.listing-is w.first-is c.loop-next.invariant.leads;
    before = let e = w.first-is in let b = c.loop-next.invariant.before in omega (arith, e, b);
    within = omega (arith, c.loop-next-test.true);
    ranked = subst IsRanked (sym w.listing-is) c.loop-next.invariant.ranked;
  }
]

pub returns : goal.returns
returns c =
    subst (λ units. c.add_group-2.new.self.list ≡ map listed (candidates_from 0 0 (instances (map seen_unit units) (nth_size c.args.bounds.now)))) c.as_slice-units.ensures
    (listing_end (nth_size c.args.bounds.now) c.as_slice-units.result.now c.loop-next.first c.loop-next.next c.index-units-first-2.result
    (let b = c.loop-next.invariant.before in let w = c.loop-next.invariant.within in omega (arith, b, w)) c.loop-next-test.false c.index-units-first-2.is
    c.loop-next.listing c.add_group-2.new.self c.loop-next.invariant.leads c.in_ok-add_group-2.ensures.adds)
