use Rattle.std.proofs.Common.{rules}
use Rattle.elastic_ast.proofs.Containers.FindLaws.{found_by_hash}
use Rattle.elastic_ast.proofs.slot.find.Goals as goal

pub returns : goal.returns
returns c =
    let found = rw c.hash.ensures at c.find.ensures in
    found_by_hash _ c.args.slots.now _ _ c.requires found (λ k t within answered. search rules)
