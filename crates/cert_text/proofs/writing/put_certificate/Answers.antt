use Rattle.std.proofs.Common.{ap, ◌∙◌, ◌∷◌, []}
use Rattle.std.specs.Prelude.{codes}
use Rattle.cert_text.specs.Pieces.{Piece}
use Rattle.cert_text.specs.Certificate.{kind_line, pair_lines, tree_lines}
use Rattle.cert_text.specs.WrittenLines.{with_line, with_lines}
use Rattle.cert_text.proofs.JoinedLines.{two_and_joined}
use Rattle.cert_text.proofs.writing.put_certificate.Goals as goal

pub returns-clause-text : goal.returns-clause-text
returns-clause-text c =
    let nodes = c.args.tree.now.nodes in
    two_and_joined c.args.lines.now c.put_tree.new.lines (Piece.Fixed (codes "p4all-cert 1") ∷ []) (kind_line c.args.claim.now.kind) (pair_lines c.args.claim.now) (tree_lines nodes)
    (c.in_ok-put_tree.ensures.text ∙ ap (λ ns. with_lines c.put_pair.new.lines (tree_lines ns)) c.as_slice.ensures
    ∙ ap (λ t. with_lines t (tree_lines nodes)) (c.in_ok-put_pair.ensures.text ∙ ap (λ t. with_lines t (pair_lines c.args.claim.now)) (c.in_ok-put_kind.ensures.text ∙ ap (λ t. with_line t (kind_line c.args.claim.now.kind)) c.in_ok-put_word.ensures)))
