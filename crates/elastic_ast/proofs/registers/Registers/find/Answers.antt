use Rattle.std.proofs.Common.{rules, sym, subst}
use Rattle.elastic_ast.specs.Containers.KeptRegisters.{Kept, registers_of}
use Rattle.elastic_ast.proofs.Containers.KeptLaws.{found_by_hash}
use Rattle.elastic_ast.proofs.registers.Registers.find.Goals as goal

pub returns : goal.returns
returns c =
    let list = c.as_slice-list.result.now in
    let kept : Kept c.self.inside.chains (registers_of list) = subst (λ l. Kept c.self.inside.chains (registers_of l)) (sym c.as_slice-list.ensures.value) c.self.invariant in
    let found = rw c.key_hash.ensures at c.find.ensures in
    rw (← c.self.view_is, ← c.as_slice-list.ensures.value) (found_by_hash _ list _ _ _ kept found (λ place t within answered. search rules))
