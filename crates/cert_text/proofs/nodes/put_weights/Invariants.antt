use Rattle.std.proofs.Common.{◌≡◌, drop, map}
use Rattle.cert_text.specs.Certificate.{weighted}
use Rattle.cert_text.specs.WrittenLines.{with_pieces, FitPieces}
use Rattle.cert_text.proofs.nodes.put_weights.Given as goal

abbrev pub invariant-loop-weight : goal.invariant-loop-weight
invariant-loop-weight l =
    (with_pieces l.lines (map weighted (drop l.weight-index l.weights)) ≡ with_pieces l.initial.lines (map weighted l.weights))
    × (FitPieces (map weighted (drop l.weight-index l.weights)) → FitPieces (map weighted l.weights))
