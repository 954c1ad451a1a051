-- The words of a certificate's lines.
use Rattle.std.proofs.Common.{◌≡◌, ℕ, suc, List, [], ◌∷◌, ◌++◌, map, Some, None, refl, sym, ◌∙◌, subst, arith}
use Rattle.std.specs.Prelude.{All, codes}
use Rattle.std.specs.List.{AllByRecursion}
use Rattle.elastic_ast.specs.declared.flat.At.{At}
use Rattle.elastic_ast.specs.Tree.{Name}
use Rattle.p4_lexer.specs.Pieces.{IsNamePiece}
use Rattle.int_program.specs.declared.program.Weight.{Weight}
use Rattle.int_program.specs.declared.program.Node.{Node}
use Rattle.int_program.specs.declared.program.Tree.{Tree}
use Rattle.int_program.specs.declared.program.Node.TheVariants.{Split, Tight, RowLeaf, GoalLeaf, Dual, Far, Unsolved}
use Rattle.cert_text.specs.declared.claim.Claim.{Claim}
use Rattle.cert_text.specs.declared.claim.ClaimKind.{ClaimKind}
use Rattle.cert_text.specs.declared.claim.ClaimKind.TheVariants as kind
use Rattle.cert_text.specs.Pieces.{Piece, IsText}
use Rattle.cert_text.specs.Certificate.{kind_line, size_line, at_line, weighted, node_line, tree_lines, pair_lines, certificate_lines, IsClaim, IsWritable, IsCertificate}
use Rattle.cert_text.specs.WrittenLines.{with_lines, FitLines}
use Rattle.cert_text.proofs.WritingLaws.{AreSaid, lines_written}

joined : (a b : List (List Piece)) → AllByRecursion AreSaid a → AllByRecursion AreSaid b → AllByRecursion AreSaid (a ++ b)
joined [] b of_a of_b = of_b
joined (x ∷ a) b of_a of_b = (of_a.0, joined a b of_a.1 of_b)

kind_said : (kind : ClaimKind) → AreSaid (kind_line kind)
kind_said (kind.Best value) = (refl, (tt, tt))
kind_said kind.Infeasible = (refl, tt)
kind_said (kind.Unfinished (Some value)) = (refl, (tt, tt))
kind_said (kind.Unfinished None) = (refl, (refl, tt))

sizes_said : (sizes : List (Name × ℕ)) → All (λ size. IsNamePiece size.0) sizes → AllByRecursion AreSaid (map size_line sizes)
sizes_said [] names = tt
sizes_said (s ∷ sizes) names = ((refl, (names 0 s (omega arith), (tt, tt))), sizes_said sizes (λ k d l. names (suc k) d (omega arith)))

placed_said : (places : List At) → AllByRecursion AreSaid (map at_line places)
placed_said [] = tt
placed_said (a ∷ places) = ((refl, (tt, (tt, (tt, tt)))), placed_said places)

weights_said : (weights : List Weight) → AreSaid (map weighted weights)
weights_said [] = tt
weights_said (w ∷ weights) = (tt, weights_said weights)

node_said : (node : Node) → AreSaid (node_line node)
node_said (Split var at) = (refl, (tt, (tt, tt)))
node_said (Tight var row) = (refl, (tt, (tt, tt)))
node_said (RowLeaf row) = (refl, (tt, tt))
node_said GoalLeaf = (refl, tt)
node_said (Dual over weights) = (refl, (tt, weights_said weights))
node_said (Far weights) = (refl, weights_said weights)
node_said Unsolved = (refl, tt)

nodes_said : (nodes : List Node) → AllByRecursion AreSaid (map node_line nodes)
nodes_said [] = tt
nodes_said (n ∷ nodes) = (node_said n, nodes_said nodes)

certificate_written : (claim : Claim) (nodes : List Node) → IsClaim claim → FitLines (certificate_lines claim nodes)
    → IsText (certificate_lines claim nodes) (with_lines [] (certificate_lines claim nodes))
certificate_written claim nodes is fit = lines_written (certificate_lines claim nodes) said fit
  where
    said : AllByRecursion AreSaid (certificate_lines claim nodes)
    said = (
      (refl, tt),
      (
        kind_said claim.kind,
        joined (pair_lines claim) (tree_lines nodes) (joined (map size_line claim.sizes) (map at_line claim.placement.at) (sizes_said claim.sizes is.names) (placed_said claim.placement.at))
            ((refl, tt), joined (map node_line nodes) ((Piece.Fixed (codes "end") ∷ []) ∷ []) (nodes_said nodes) ((refl, tt), tt)),
      ),
    )

pub certificate_is : (text after : List ℕ) (claim : Claim) (tree : Tree) → IsWritable claim tree → FitLines (certificate_lines claim tree.nodes) → after ≡ with_lines [] (certificate_lines claim tree.nodes) → text ≡ after
    → IsCertificate text claim tree
certificate_is text after claim tree writable fit after_is text_is = record {
  writable = writable;
  lines = subst (IsText (certificate_lines claim tree.nodes)) (sym (text_is ∙ after_is)) (certificate_written claim tree.nodes writable.claim_is fit);
}
