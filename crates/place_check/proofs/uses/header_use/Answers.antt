use Rattle.std.proofs.Common.{arith, ap, ◌≡◌, drop}
use Rattle.dep_graph.specs.HeaderBits.{weighed}
use Rattle.place_check.proofs.UseLaws.{weighed_past}
use Rattle.place_check.proofs.uses.header_use.Goals as goal

pub returns : goal.returns
returns c =
    let past : weighed (drop c.loop-i.i c.as_slice-each.result.now) (drop c.loop-i.i c.args.sizes.now) ≡ 0 =
    weighed_past c.as_slice-each.result.now c.args.sizes.now c.loop-i.i (λ p q. omega arith) in
    let each : weighed c.as_slice-each.result.now c.args.sizes.now ≡ weighed c.args.units.now.symbol_bits c.args.sizes.now =
    ap (λ bits. weighed bits c.args.sizes.now) c.as_slice-each.ensures in
    omega (arith, past, each, c.loop-i.invariant.used, c.from-used.ensures)
