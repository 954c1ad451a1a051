use Rattle.std.proofs.Common.{◌≡◌, ◌++◌, drop}
use Rattle.p4all_top.specs.Unfinished.{named_sizes}
use Rattle.p4all_top.proofs.unfinished.sizes_named.Given as goal

abbrev pub invariant-loop-i : goal.invariant-loop-i
invariant-loop-i l = l.named ++ named_sizes (drop l.i l.symbols) (drop l.i l.sizes) ≡ named_sizes l.symbols l.sizes
