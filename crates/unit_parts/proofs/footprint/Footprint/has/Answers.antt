use Rattle.std.proofs.Common.{rules, ap, ◌∙◌}
use Rattle.elastic_ast.specs.Containers.LocationRefs.{seen_ref}
use Rattle.elastic_ast.specs.Units.Reach.{is_among}
use Rattle.unit_parts.proofs.FootprintLaws.{found_by_hash}
use Rattle.unit_parts.proofs.footprint.Footprint.has.Goals as goal

pub returns : goal.returns
returns c =
    let found = rw c.hash.ensures at c.find.ensures in
    let hashes = rw (← c.as_slice-locations.ensures.value) at c.self.invariant in
    c.is_some.ensures
    ∙ found_by_hash c.self.inside.chains c.as_slice-locations.result.now (seen_ref c.args.at.now) _ hashes found (λ k t within answered. search rules)
    ∙ rw c.as_slice-locations.ensures.value (ap (λ z. is_among z (seen_ref c.args.at.now)) c.self.view_is)
