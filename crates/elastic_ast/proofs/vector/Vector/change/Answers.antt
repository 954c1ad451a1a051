use Rattle.std.proofs.Common.{sym, ap, subst, ◌∙◌, arith}
use Rattle.std.proofs.lemmas.List.{with_items_is}
use Rattle.std.specs.FinMap as map
use Rattle.elastic_ast.specs.Containers.LocationPlaces.{place}
use Rattle.elastic_ast.specs.Containers.Slots.{seen_slots, Indexed}
use Rattle.elastic_ast.specs.Containers.LocationRefs.{seen_ref}
use Rattle.elastic_ast.specs.Containers.Vectors.{Vectored}
use Rattle.elastic_ast.specs.Containers.BitWords.{word}
use Rattle.elastic_ast.proofs.Containers.VectorLaws.{stands, changed_seen, changed_index, has_place, lacks_place}
use Rattle.elastic_ast.proofs.vector.Vector.change.Goals as goal

pub invariant_of-self : goal.invariant_of-self
invariant_of-self c =
    let is = rw c.deref.ensures.value at c.in-Some.ensures in
    let written = rw c.deref_mut.ensures.value at c.overwrite.ensures in
    subst (Indexed c.self.inside.chains) (sym (with_items_is c.self.inside.slots c.overwrite.new.slots (omega arith)))
    (changed_index c.self.inside.chains c.self.inside.slots.items c.overwrite.new.slots c.in-Some.k _ (word c.args.value) c.self.invariant is.0 is.1 written (stands (seen_ref c.args.spot.now) c.args.index (word c.args.value) c.requires))

pub returns-in-Some-clause-there : goal.returns-in-Some-clause-there
returns-in-Some-clause-there c =
    let is = rw c.deref.ensures.value at c.in-Some.ensures in
    has_place c.self.inside.slots.items c.args.self.now c.in-Some.k _ c.self.view_is c.self.invariant.vector is.0 is.1

pub returns-in-Some-clause-now : goal.returns-in-Some-clause-now
returns-in-Some-clause-now c =
    let is = rw c.deref.ensures.value at c.in-Some.ensures in
    let written = rw c.deref_mut.ensures.value at c.overwrite.ensures in
    ap seen_slots (with_items_is c.self.inside.slots c.overwrite.new.slots (omega arith))
    ∙ changed_seen c.self.inside.slots.items c.overwrite.new.slots c.in-Some.k _ (word c.args.value) c.self.invariant.vector is.0 is.1 written
    ∙ ap (λ (m : Vectored). map.insert m (place (seen_ref c.args.spot.now) c.args.index) (word c.args.value)) c.self.view_is

pub returns-in-None-clause-there : goal.returns-in-None-clause-there
returns-in-None-clause-there c =
    let is = rw c.deref.ensures.value at c.in-None.ensures in
    lacks_place c.self.inside.slots.items c.args.self.now _ c.self.view_is is
