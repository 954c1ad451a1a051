-- Trees of cases as trees, and what holds of each of their nodes, by recursion on them; this project's own.
use Rattle.std.specs.Prelude.{◌≡◌, ℕ, ◌+◌, ℤ, List, [], ◌∷◌, ◌++◌, Option, slice_get}
use Rattle.int_program.specs.declared.program.Ip.{Ip}
use Rattle.int_program.specs.declared.program.Place.{Place}
use Rattle.int_program.specs.declared.program.Weight.{Weight}
use Rattle.int_program.specs.declared.program.Tree.{Tree}
use Rattle.int_program.specs.declared.program.Node.{Node}
use Rattle.int_program.specs.declared.program.Node.TheVariants.{Split, Tight, RowLeaf, GoalLeaf, Dual, Far, Unsolved}
use Rattle.int_program.specs.Boxes.{root_of}
use Rattle.int_program.specs.Accepts.{IsAccepted, lower_half, upper_half, tight_child}
use Rattle.int_program.specs.Places.{place}

pub data Cases : Type 0 where
  split : ℕ → ℤ → Cases → Cases → Cases
  tight : ℕ → ℕ → Cases → Cases
  row_leaf : ℕ → Cases
  goal_leaf : Cases
  dual : ℤ → List Weight → Cases
  far : List Weight → Cases
  unsolved : Cases

abbrev pub preorder : Cases → List Node
preorder (split v k s t) = Split v k ∷ (preorder s ++ preorder t)
preorder (tight v r s) = Tight v r ∷ preorder s
preorder (row_leaf r) = RowLeaf r ∷ []
preorder goal_leaf = GoalLeaf ∷ []
preorder (dual over ws) = Dual over ws ∷ []
preorder (far ws) = Far ws ∷ []
preorder unsolved = Unsolved ∷ []

-- the top node is at its place as G says, and so is each node of the cases that it leaves, at the places that it opens
abbrev pub AreAll : Ip → (Place → Node → Type 0) → Place → Cases → Type 0
AreAll ip G p (split v k s t) =
    G p (Split v k) × AreAll ip G (place (lower_half p.within v k) 0) s × AreAll ip G (place (upper_half p.within v k) 0) t
AreAll ip G p (tight v r s) =
    G p (Tight v r) × AreAll ip G (place (tight_child p.within v (slice_get ip.rows r)) (p.above + 1)) s
AreAll ip G p (row_leaf r) = G p (RowLeaf r)
AreAll ip G p goal_leaf = G p GoalLeaf
AreAll ip G p (dual over ws) = G p (Dual over ws)
AreAll ip G p (far ws) = G p (Far ws)
AreAll ip G p unsolved = G p Unsolved

-- the nodes are those of some tree, and each is at its place from the root box on as G says
pub record AreCases (ip : Ip) (G : Place → Node → Type 0) (tree : Tree) : Type 0 where
  pub cases : Cases
  pub listed : preorder cases ≡ tree.nodes
  pub all : AreAll ip G (place (root_of ip) 0) cases

-- the nodes are those of some tree that is accepted on the root box
abbrev pub AreAccepted : Ip → Option ℤ → Tree → Type 0
AreAccepted ip known tree = AreCases ip (λ p node. IsAccepted ip known p.within node) tree

-- the nodes are those of some tree, in preorder
pub record IsWhole (tree : Tree) : Type 0 where
  pub cases : Cases
  pub listed : preorder cases ≡ tree.nodes
