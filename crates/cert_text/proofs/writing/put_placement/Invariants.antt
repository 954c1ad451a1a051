use Rattle.std.proofs.Common.{◌≡◌, drop, map}
use Rattle.cert_text.specs.Certificate.{at_line}
use Rattle.cert_text.specs.WrittenLines.{with_lines, FitLines}
use Rattle.cert_text.proofs.writing.put_placement.Given as goal

abbrev pub invariant-loop-at : goal.invariant-loop-at
invariant-loop-at l =
    (with_lines l.lines (map at_line (drop l.at-index l.places)) ≡ with_lines l.initial.lines (map at_line l.places))
    × (FitLines (map at_line (drop l.at-index l.places)) → FitLines (map at_line l.places))
