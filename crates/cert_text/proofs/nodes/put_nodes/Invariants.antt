use Rattle.std.proofs.Common.{◌≡◌, drop, map}
use Rattle.cert_text.specs.Certificate.{node_line}
use Rattle.cert_text.specs.WrittenLines.{with_lines, FitLines}
use Rattle.cert_text.proofs.nodes.put_nodes.Given as goal

abbrev pub invariant-loop-node : goal.invariant-loop-node
invariant-loop-node l =
    (with_lines l.lines (map node_line (drop l.node-index l.nodes)) ≡ with_lines l.initial.lines (map node_line l.nodes))
    × (FitLines (map node_line (drop l.node-index l.nodes)) → FitLines (map node_line l.nodes))
