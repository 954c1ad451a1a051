use Rattle.std.proofs.Common.{◌≡◌, ◌<◌, length, sym, arith}
use Rattle.elastic_ast.proofs.Containers.KeptLaws.{held_at, is_register, found_at, read_key, length_registers}
use Rattle.elastic_ast.proofs.Containers.KeyLaws.{same_self}
use Rattle.elastic_ast.specs.Containers.RegisterLists.{Key}
use Rattle.elastic_ast.proofs.registers.Registers.entry.Goals as goal

pub overflow_cast-result : goal.overflow_cast-result
overflow_cast-result c =
    let within : c.args.place < length c.self.inside.list.items = omega (arith, c.self.inside.list.ok) in
    let is = is_register _ _ _ _ c.self.invariant within c.index-held.ensures in
    omega (arith, is.few, c.index-held.result.now.cells.ok)

pub returns-clause-entry : goal.returns-clause-entry
returns-clause-entry c =
    let within : c.args.place < length c.self.inside.list.items = omega (arith, c.self.inside.list.ok) in
    let many : length c.index-held.result.now.cells.items ≡ c.len-2.result = omega (arith, c.index-held.result.now.cells.ok) in
    rw (← c.self.view_is, held_at _ _ _ within c.index-held.ensures, many)

pub returns-clause-width : goal.returns-clause-width
returns-clause-width c =
    let within : c.args.place < length c.self.inside.list.items = omega (arith, c.self.inside.list.ok) in
    let is = is_register _ _ _ _ c.self.invariant within c.index-held.ensures in
    (is.positive, is.within)

pub returns-clause-only : goal.returns-clause-only
returns-clause-only c =
    let within : c.args.place < length c.self.inside.list.items = omega (arith, c.self.inside.list.ok) in
    let key : Key = (c.index-held.result.now.name, c.index-held.result.now.index) in
    rw (← c.self.view_is) (found_at _ _ _ _ c.args.place c.self.invariant (omega (arith, within, length_registers c.self.inside.list.items)) (read_key _ key _ _ _ within c.index-held.ensures (sym (same_self key))))
