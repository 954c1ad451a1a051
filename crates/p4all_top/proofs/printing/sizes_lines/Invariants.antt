use Rattle.std.proofs.Common.{◌≡◌, [], drop}
use Rattle.p4all_top.specs.Printed.{with_sizes}
use Rattle.p4all_top.proofs.printing.sizes_lines.Given as goal

abbrev pub invariant-loop-i : goal.invariant-loop-i
invariant-loop-i l = with_sizes l.lines (drop l.i l.symbols) (drop l.i l.sizes) ≡ with_sizes [] l.symbols l.sizes
