-- Open places, and the nodes of a tree in preorder that fill them one after the other; this project's own.
use Rattle.std.specs.Prelude.{◌≡◌, ℕ, ◌+◌, List, [], ◌∷◌, ◌++◌, slice_get}
use Rattle.int_program.specs.declared.program.Ip.{Ip}
use Rattle.int_program.specs.declared.program.IpBox.{IpBox}
use Rattle.int_program.specs.declared.program.Place.{Place}
use Rattle.int_program.specs.declared.program.Tree.{Tree}
use Rattle.int_program.specs.declared.program.Node.{Node}
use Rattle.int_program.specs.declared.program.Node.TheVariants.{Split, Tight, RowLeaf, GoalLeaf, Dual, Far, Unsolved}
use Rattle.int_program.specs.Boxes.{root_of}
use Rattle.int_program.specs.Accepts.{lower_half, upper_half, tight_child}

abbrev pub place : IpBox → ℕ → Place
place b n = record { within = b; above = n }

-- the places that a node opens, the first case first: no tightening stands directly above the two of a split, and one more than
-- above a tightening above what it leaves
abbrev pub opened : Ip → Place → Node → List Place
opened ip p (Split v k) = place (lower_half p.within v k) 0 ∷ place (upper_half p.within v k) 0 ∷ []
opened ip p (Tight v r) = place (tight_child p.within v (slice_get ip.rows r)) (p.above + 1) ∷ []
opened ip p (RowLeaf r) = []
opened ip p GoalLeaf = []
opened ip p (Dual over ws) = []
opened ip p (Far ws) = []
opened ip p Unsolved = []

-- the nodes, each at the first open place and as G says of it, lead from the open places to those that are open after them
abbrev pub Fills : Ip → (Place → Node → Type 0) → List Place → List Node → List Place → Type 0
Fills ip G ps [] rest = ps ≡ rest
Fills ip G [] (node ∷ nodes) rest = ⊥
Fills ip G (p ∷ ps) (node ∷ nodes) rest = G p node × Fills ip G (opened ip p node ++ ps) nodes rest

-- the tree is whole, and each of its nodes is at its place as G says
abbrev pub OfEachNode : Ip → (Place → Node → Type 0) → Tree → Type 0
OfEachNode ip G tree = Fills ip G (place (root_of ip) 0 ∷ []) tree.nodes []

-- the nodes fill the root box: each stands at an open place, and none is left open
abbrev pub FillsRoot : Ip → Tree → Type 0
FillsRoot ip tree = OfEachNode ip (λ p node. Unit {0}) tree
