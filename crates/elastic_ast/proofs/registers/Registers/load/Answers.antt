use Rattle.std.proofs.Common.{◌<◌, length, sym, arith}
use Rattle.elastic_ast.proofs.Containers.KeptLaws.{held_at, is_register, length_registers}
use Rattle.elastic_ast.proofs.Containers.RegisterLaws.{cell_at-past, cell_at-without, cell_at-within}
use Rattle.elastic_ast.proofs.registers.Registers.load.Goals as goal

pub returns-then-place-len : goal.returns-then-place-len
returns-then-place-len c =
    rw (← c.self.view_is) (sym (cell_at-past _ _ _ (omega (arith, c.self.inside.list.ok, length_registers c.self.inside.list.items))))

pub returns-then-cell-len : goal.returns-then-cell-len
returns-then-cell-len c =
    let within : c.args.place < length c.self.inside.list.items = omega (arith, c.self.inside.list.ok) in
    rw (← c.self.view_is) (sym (cell_at-without _ _ _ _ (held_at _ _ _ within c.index-held.ensures) (omega (arith, c.index-held.result.now.cells.ok))))

pub invariant_of-result : goal.invariant_of-result
invariant_of-result c =
    let within : c.args.place < length c.self.inside.list.items = omega (arith, c.self.inside.list.ok) in
    let is = is_register _ _ _ _ c.self.invariant within c.index-held.ensures in
    let lt : c.args.cell < length c.index-held.result.now.cells.items = omega (arith, c.index-held.result.now.cells.ok) in
    record {
      positive = is.positive;
      within = is.within;
      fits = rw c.index.ensures (is.fits c.args.cell c.index.result.now lt);
    }

pub returns : goal.returns
returns c =
    let within : c.args.place < length c.self.inside.list.items = omega (arith, c.self.inside.list.ok) in
    let lt : c.args.cell < length c.index-held.result.now.cells.items = omega (arith, c.index-held.result.now.cells.ok) in
    rw (← c.self.view_is, cell_at-within _ _ _ _ c.index.result.now (held_at _ _ _ within c.index-held.ensures) lt, ← c.index.ensures)
