use Rattle.std.proofs.Common.{◌<◌, length, refl, sym, arith}
use Rattle.elastic_ast.specs.Containers.KeptRegisters.{registers_of}
use Rattle.elastic_ast.proofs.Containers.KeptLaws.{held_at, length_registers}
use Rattle.elastic_ast.proofs.Containers.KeptPuts.{kept_written, written}
use Rattle.elastic_ast.proofs.Containers.RegisterLaws.{cell_at-past, cell_at-without, with_width, other_width}
use Rattle.elastic_ast.proofs.registers.Registers.store.Goals as goal
use Rattle.elastic_ast.proofs.registers.Registers.store.Goals.{then-held-value-via-then-held-value, then-held-value-via-else-held-value+then-cell-len}

pub returns-then-place-len-clause-there : goal.returns-then-place-len-clause-there
returns-then-place-len-clause-there c =
    rw (← c.self.view_is, cell_at-past (registers_of c.self.inside.list.items) c.args.place c.args.cell (omega (arith, c.self.inside.list.ok, length_registers c.self.inside.list.items)))

pub returns-then-held-value-clause-there : goal.returns-then-held-value-clause-there
returns-then-held-value-clause-there c =
    let within : c.args.place < length c.self.inside.list.items = omega (arith, c.self.inside.list.ok) in
    let at = held_at _ _ _ within c.index_mut-held.ensures.value in
    elim c.then-held-value.branch [ then-held-value-via-then-held-value w ↦ rw (← c.self.view_is) (sym (other_width _ _ _ _ _ at w.if-held-value.true)) | then-held-value-via-else-held-value+then-cell-len w ↦ rw (← c.self.view_is, cell_at-without (registers_of c.self.inside.list.items) c.args.place c.args.cell _ at (omega (arith, c.index_mut-held.result.now.cells.ok))) ]

pub invariant_of-self-2 : goal.invariant_of-self-2
invariant_of-self-2 c =
    let within : c.args.place < length c.self.inside.list.items = omega (arith, c.self.inside.list.ok) in
    kept_written _ _ _ c.args.cell c.args.value.value _ _ c.self.invariant within c.index_mut-held.ensures.value refl (rw c.if-held-value.false c.args.value.fits)

pub returns-clause-there : goal.returns-clause-there
returns-clause-there c =
    let within : c.args.place < length c.self.inside.list.items = omega (arith, c.self.inside.list.ok) in
    let at = held_at _ _ _ within c.index_mut-held.ensures.value in
    rw (← c.self.view_is) (sym (with_width _ _ _ _ _ at (omega (arith, c.index_mut-held.result.now.cells.ok)) c.if-held-value.false))

pub returns-clause-now : goal.returns-clause-now
returns-clause-now c =
    let within : c.args.place < length c.self.inside.list.items = omega (arith, c.self.inside.list.ok) in
    rw (← c.self.view_is) (written _ _ c.args.cell c.args.value.value _ _ within c.index_mut-held.ensures.value refl)
