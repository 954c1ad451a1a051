-- The text of a certificate: a claim about the sizes of a program on a target, and the tree of cases that shows it; this project's own.
use Rattle.std.specs.Prelude.{◌≡◌, ℕ, pos, ◌<◌, ◌≤◌, List, [], ◌∷◌, ◌++◌, length, map, codes, All, Some, None}
use Rattle.elastic_ast.specs.declared.flat.At.{At}
use Rattle.elastic_ast.specs.Tree.{Name}
use Rattle.p4_lexer.specs.Pieces.{IsNamePiece}
use Rattle.int_program.specs.declared.program.Tree.{Tree}
use Rattle.int_program.specs.declared.program.Weight.{Weight}
use Rattle.int_program.specs.declared.program.Node.{Node}
use Rattle.int_program.specs.declared.program.Node.TheVariants.{Split, Tight, RowLeaf, GoalLeaf, Dual, Far, Unsolved}
use Rattle.int_program.specs.Cases.{IsWhole}
use Rattle.cert_text.specs.Pieces.{Piece, IsText}
use Rattle.cert_text.specs.declared.claim.Claim.{Claim}
use Rattle.cert_text.specs.declared.claim.ClaimKind.{ClaimKind}
use Rattle.cert_text.specs.declared.claim.ClaimKind.TheVariants as kind

abbrev pub word : List ℕ → Piece
word = Piece.Fixed

-- the line of what is claimed
abbrev pub kind_line : ClaimKind → List Piece
kind_line (kind.Best value) = word (codes "best") ∷ Piece.Number value ∷ []
kind_line kind.Infeasible = word (codes "infeasible") ∷ []
kind_line (kind.Unfinished (Some value)) = word (codes "unfinished") ∷ Piece.Number value ∷ []
kind_line (kind.Unfinished None) = word (codes "unfinished") ∷ word (codes "none") ∷ []

-- the line of a symbol with its size, and of an instance with its stage
abbrev pub size_line : Name × ℕ → List Piece
size_line size = word (codes "size") ∷ Piece.Named size.0 ∷ Piece.Number (pos size.1) ∷ []

abbrev pub at_line : At → List Piece
at_line at = word (codes "at") ∷ Piece.Number (pos at.unit) ∷ Piece.Number (pos at.index) ∷ Piece.Number (pos at.stage) ∷ []

abbrev pub weighted : Weight → Piece
weighted weight = Piece.Weighted weight.row weight.by

-- the line of a node
abbrev pub node_line : Node → List Piece
node_line (Split var at) = word (codes "s") ∷ Piece.Number (pos var) ∷ Piece.Number at ∷ []
node_line (Tight var row) = word (codes "t") ∷ Piece.Number (pos var) ∷ Piece.Number (pos row) ∷ []
node_line (RowLeaf row) = word (codes "r") ∷ Piece.Number (pos row) ∷ []
node_line GoalLeaf = word (codes "o") ∷ []
node_line (Dual over weights) = word (codes "d") ∷ Piece.Number over ∷ map weighted weights
node_line (Far weights) = word (codes "f") ∷ map weighted weights
node_line Unsolved = word (codes "?") ∷ []

-- the lines up to the tree, those from the tree on, and all lines
abbrev pub tree_lines : List Node → List (List Piece)
tree_lines nodes = (word (codes "tree") ∷ []) ∷ (map node_line nodes ++ (word (codes "end") ∷ []) ∷ [])

abbrev pub pair_lines : Claim → List (List Piece)
pair_lines claim = map size_line claim.sizes ++ map at_line claim.placement.at

abbrev pub certificate_lines : Claim → List Node → List (List Piece)
certificate_lines claim nodes =
    (word (codes "p4all-cert 1") ∷ []) ∷ kind_line claim.kind ∷ (pair_lines claim ++ tree_lines nodes)

-- the greatest size that may be claimed
abbrev pub most_size : ℕ
most_size = 4294967296

-- no value is claimed
abbrev pub HasNoValue : ClaimKind → Type 0
HasNoValue (kind.Best value) = ⊥
HasNoValue kind.Infeasible = Unit {0}
HasNoValue (kind.Unfinished (Some value)) = ⊥
HasNoValue (kind.Unfinished None) = Unit {0}

-- names are names, sizes are small, and a claim without a value has no sizes and no placement
pub record IsClaim (claim : Claim) : Type 0 where
  pub names : All (λ size. IsNamePiece size.0) claim.sizes
  pub small : All (λ size. size.1 ≤ most_size) claim.sizes
  pub no_sizes : HasNoValue claim.kind → claim.sizes ≡ []
  pub no_placement : HasNoValue claim.kind → claim.placement.at ≡ []

-- there are fewer lines than this
abbrev pub most_lines : ℕ
most_lines = 4294967295

-- a claim and a whole tree that can be written
pub record IsWritable (claim : Claim) (tree : Tree) : Type 0 where
  pub claim_is : IsClaim claim
  pub whole : IsWhole tree
  pub few : length (certificate_lines claim tree.nodes) < most_lines

-- the text is the certificate of this claim with this tree
pub record IsCertificate (text : List ℕ) (claim : Claim) (tree : Tree) : Type 0 where
  pub writable : IsWritable claim tree
  pub lines : IsText (certificate_lines claim tree.nodes) text
