use Rattle.std.proofs.Common.{ap, ◌∙◌}
use Rattle.std.specs.FinMap as map
use Rattle.elastic_ast.specs.Containers.BitWords.{word}
use Rattle.elastic_ast.specs.Containers.LocationPlaces.{place}
use Rattle.elastic_ast.specs.Containers.Slots.{seen_slots}
use Rattle.elastic_ast.specs.Containers.Vectors.{Vectored}
use Rattle.elastic_ast.proofs.Containers.VectorLaws.{stands, added_index, added_seen, lacked_by}
use Rattle.elastic_ast.proofs.vector.Vector.add.Goals as goal

pub invariant_of-self-2 : goal.invariant_of-self-2
invariant_of-self-2 c =
    let gone = lacked_by c.self.inside.slots.items c.args.self.now _ c.self.view_is c.requires.new in
    let items = rw c.reserve.ensures.items at c.push_reserved.ensures.items in
    let hash = rw c.parts.ensures at c.hash.ensures in
    let hashes = rw hash at c.in_ok-push.ensures.ok in
    rw (hashes, items) (added_index c.self.inside.chains c.self.inside.slots.items _ c.self.invariant gone (stands c.args.at c.args.index (word c.args.value) c.requires.stands))

pub returns-clause-ok : goal.returns-clause-ok
returns-clause-ok c =
    let gone = lacked_by c.self.inside.slots.items c.args.self.now _ c.self.view_is c.requires.new in
    let items = rw c.reserve.ensures.items at c.push_reserved.ensures.items in
    ap seen_slots items
    ∙ added_seen c.self.inside.slots.items _ c.self.invariant.vector gone
    ∙ ap (λ (m : Vectored). map.insert m (place c.args.at c.args.index) (word c.args.value)) c.self.view_is
