use Rattle.std.proofs.Common.{◌≡◌, drop, map}
use Rattle.cert_text.specs.Certificate.{size_line}
use Rattle.cert_text.specs.WrittenLines.{with_lines, FitLines}
use Rattle.cert_text.proofs.writing.put_sizes.Given as goal

abbrev pub invariant-loop-size : goal.invariant-loop-size
invariant-loop-size l =
    (with_lines l.lines (map size_line (drop l.size-index l.sizes)) ≡ with_lines l.initial.lines (map size_line l.sizes))
    × (FitLines (map size_line (drop l.size-index l.sizes)) → FitLines (map size_line l.sizes))
