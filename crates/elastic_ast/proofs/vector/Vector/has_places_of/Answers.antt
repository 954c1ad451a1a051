use Rattle.elastic_ast.proofs.Containers.SameLaws.{told_by_first, told_by_second}
use Rattle.elastic_ast.proofs.vector.Vector.has_places_of.Goals as goal

pub returns-then-has_all : goal.returns-then-has_all
returns-then-has_all c =
    told_by_second c.self.inside.slots.items c.other.inside.slots.items _ _ c.args.self.now c.args.other.now _ c.deref.ensures.value c.deref-then-has_all.ensures.value c.self.view_is c.other.view_is c.other.invariant.vector (c.has_all.ensures.0 c.if-has_all.true) c.has_all-then-has_all.ensures

pub returns-else-has_all : goal.returns-else-has_all
returns-else-has_all c =
    told_by_first c.self.inside.slots.items _ c.args.self.now c.args.other.now _ c.deref.ensures.value c.self.view_is c.self.invariant.vector c.if-has_all.false c.has_all.ensures
