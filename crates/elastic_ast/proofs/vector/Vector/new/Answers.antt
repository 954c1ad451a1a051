use Rattle.std.proofs.Common.{sym, ap, ◌∙◌}
use Rattle.elastic_ast.specs.Containers.Slots.{hashes_of}
use Rattle.elastic_ast.proofs.Containers.VectorLaws.{empty_vector}
use Rattle.elastic_ast.proofs.vector.Vector.new.Goals as goal

pub invariant_of-result : goal.invariant_of-result
invariant_of-result c = record {
  vector = empty_vector _ c.new.ensures.items;
  hashed = c.new-2.ensures ∙ sym (ap hashes_of c.new.ensures.items);
}
