use Rattle.std.proofs.Common.{sym, ap, ◌∙◌}
use Rattle.std.specs.FinMap as map
use Rattle.elastic_ast.specs.Containers.LocationPlaces.{place}
use Rattle.elastic_ast.specs.Containers.LocationRefs.{seen_ref}
use Rattle.elastic_ast.specs.Containers.Vectors.{Vectored}
use Rattle.elastic_ast.proofs.Containers.VectorLaws.{seen_at, seen_nowhere}
use Rattle.elastic_ast.proofs.vector.Vector.value_at.Goals as goal

pub returns-in-Some : goal.returns-in-Some
returns-in-Some c =
    let is = rw c.deref.ensures.value at c.in-Some.ensures in
    sym (seen_at c.self.inside.slots.items c.in-Some.k c.index.result.now _ c.self.invariant.vector is.0 is.1 c.index.ensures)
    ∙ ap (λ (m : Vectored). map.get m (place (seen_ref c.args.spot.now) c.args.index)) c.self.view_is

pub returns-in-None : goal.returns-in-None
returns-in-None c =
    let is = rw c.deref.ensures.value at c.in-None.ensures in
    sym (seen_nowhere c.self.inside.slots.items _ is)
    ∙ ap (λ (m : Vectored). map.get m (place (seen_ref c.args.spot.now) c.args.index)) c.self.view_is
