-- What an accepted tree of cases tells, and what fair nodes are; statements of this project's own, each proved as a law.
use Rattle.std.specs.Prelude.{◌≡◌, ◌↔◌, ℕ, ℤ, pos, ◌+◌, ◌*◌, ◌<◌, ◌≤◌, ◌≤ℤ◌, List, length, Bool, IsTrue, true, false, Option, Some, None, All}
use Rattle.int_program.specs.declared.program.Ip.{Ip}
use Rattle.int_program.specs.declared.program.IpBox.{IpBox}
use Rattle.int_program.specs.declared.program.Node.{Node}
use Rattle.int_program.specs.declared.program.Tree.{Tree}
use Rattle.int_program.specs.declared.program.Weight.{Weight}
use Rattle.int_program.specs.Boxes.{IsNonempty, IsInside, root_of}
use Rattle.int_program.specs.Limits.{AreSmall, IsInLimits}
use Rattle.int_program.specs.Points.{IsPoint, value_of}
use Rattle.int_program.specs.Weighted.{dual_bound, right_side, rows_least}
use Rattle.int_program.specs.Stopping.{tried_dual, tried_far}
use Rattle.int_program.specs.Numbers.{dual_numbers, far_numbers, where_all_fit}
use Rattle.int_program.specs.Accepts.{IsAccepted, Accepts}
use Rattle.int_program.specs.Cases.{AreCases, AreAccepted, IsWhole}
use Rattle.int_program.specs.Counting.{root_points, split_count, IsCut, IsCutTree}
use Rattle.int_program.specs.Fair.{IsFairSplit, IsFair, most_above}
use Rattle.int_program.specs.Places.{OfEachNode, FillsRoot}
use Rattle.int_program.specs.FairTrees.{IsFairNode, IsFairTree, IsAcceptedButOpen}
use Rattle.int_program.specs.FirstUnfair.{is_fair_node, first_unfair, IsFirstUnfair}
use Rattle.int_program.specs.declared.program.Place.{Place}

-- a tree that is accepted for a value leaves no point with a greater value
abbrev pub NoPointIsBetter : Type 0
NoPointIsBetter = (ip : Ip) (known : ℤ) (tree : Tree) → Accepts ip (Some known) tree → (x : List ℤ) → IsPoint ip x → value_of ip x ≤ℤ known

-- a tree that is accepted for none leaves no point
abbrev pub NoPointIsLeft : Type 0
NoPointIsLeft = (ip : Ip) (tree : Tree) → Accepts ip None tree → (x : List ℤ) → IsPoint ip x → ⊥

-- what is accepted for a value is accepted for each greater one
abbrev pub AcceptedForGreaterValues : Type 0
AcceptedForGreaterValues = (ip : Ip) (known more : ℤ) (tree : Tree) → known ≤ℤ more → Accepts ip (Some known) tree → Accepts ip (Some more) tree

-- what is accepted for none is accepted for each value
abbrev pub AcceptedForEachValue : Type 0
AcceptedForEachValue = (ip : Ip) (known : ℤ) (tree : Tree) → Accepts ip None tree → Accepts ip (Some known) tree

-- an accepted tree has fewer splits than its root box has points
abbrev pub AcceptedTreesAreShort : Type 0
AcceptedTreesAreShort = (ip : Ip) (known : Option ℤ) (tree : Tree) → IsNonempty (root_of ip) → Accepts ip known tree → split_count tree.nodes < root_points ip

-- so has a tree whose splits cut and whose tightenings are accepted
abbrev pub CuttingTreesAreShort : Type 0
CuttingTreesAreShort = (ip : Ip) (tree : Tree) → IsNonempty (root_of ip) → IsCutTree ip tree → split_count tree.nodes < root_points ip

-- the recursion on the list of nodes accepts what the recursion on the tree accepts
abbrev pub ListsAcceptAsTrees : Type 0
ListsAcceptAsTrees = (ip : Ip) (known : Option ℤ) (tree : Tree) → Accepts ip known tree ↔ AreAccepted ip known tree

-- and it finds those trees fair that the recursion on the tree does
abbrev pub ListsAreFairAsTrees : Type 0
ListsAreFairAsTrees = (ip : Ip) (known : Option ℤ) (tree : Tree) → IsFairTree ip known tree ↔ AreCases ip (IsFairNode ip known) tree

-- the sum of weighted rows that bounds the objective stops exactly where one of its numbers leaves 128 bits
abbrev pub DualSumsStop : Type 0
DualSumsStop = (ip : Ip) (b : IpBox) (over : ℤ) (ws : List Weight) → tried_dual ip b over ws ≡ where_all_fit (dual_numbers ip b over ws) (dual_bound ip b over ws)

-- so does the sum of weighted rows that leaves no point
abbrev pub FarSumsStop : Type 0
FarSumsStop = (ip : Ip) (b : IpBox) (ws : List Weight) → tried_far ip b ws ≡ where_all_fit (far_numbers ip b ws) (right_side ip ws, rows_least ip b ws)

-- the rows of a program in its limits are small over each box inside the root box
abbrev pub RowsAreSmall : Type 0
RowsAreSmall = (ip : Ip) (b : IpBox) → IsInLimits ip → IsInside ip b → All (λ row. AreSmall row.parts row.most b.high) ip.rows

-- so is its objective
abbrev pub GoalIsSmall : Type 0
GoalIsSmall = (ip : Ip) (b : IpBox) → IsInLimits ip → IsInside ip b → AreSmall ip.goal (pos 0) b.high

-- a fair split of a box with the variables of the program cuts it
abbrev pub FairSplitsCut : Type 0
FairSplitsCut = (owed : Bool) (above : ℕ) (ip : Ip) (b : IpBox) (v : ℕ) (k : ℤ) → length b.low ≡ length ip.tops → IsFairSplit owed above ip b v k → IsCut b v k

-- a node that is fair where tightening is owed is fair where it isn't
abbrev pub FairWithoutTightening : Type 0
FairWithoutTightening = (above : ℕ) (ip : Ip) (known : Option ℤ) (b : IpBox) (node : Node) → IsFair true above ip known b node → IsFair false above ip known b node

-- the places of a tree have the boxes of the list of open boxes
abbrev pub PlacesHaveTheBoxes : Type 0
PlacesHaveTheBoxes = (ip : Ip) (known : Option ℤ) (tree : Tree) → OfEachNode ip (λ p node. IsAccepted ip known p.within node) tree ↔ Accepts ip known tree

-- a tree that is accepted but for its open leaves has fewer splits than its root box has points
abbrev pub OpenTreesAreShort : Type 0
OpenTreesAreShort = (ip : Ip) (known : Option ℤ) (tree : Tree) → IsNonempty (root_of ip) → IsAcceptedButOpen ip known tree → split_count tree.nodes < root_points ip

-- a tree is whole exactly where its nodes fill the root box
abbrev pub WholeTreesFillTheRoot : Type 0
WholeTreesFillTheRoot = (ip : Ip) (tree : Tree) → FillsRoot ip tree ↔ IsWhole tree

-- so is one that is accepted, but for its open leaves or not, and one that is fair
abbrev pub AcceptedTreesAreWhole : Type 0
AcceptedTreesAreWhole = (ip : Ip) (known : Option ℤ) (tree : Tree) → Accepts ip known tree → IsWhole tree

abbrev pub OpenTreesAreWhole : Type 0
OpenTreesAreWhole = (ip : Ip) (known : Option ℤ) (tree : Tree) → IsAcceptedButOpen ip known tree → IsWhole tree

abbrev pub FairTreesAreWhole : Type 0
FairTreesAreWhole = (ip : Ip) (known : Option ℤ) (tree : Tree) → IsFairTree ip known tree → IsWhole tree

-- a fair tree has no more nodes than its splits, their cases and the tightenings that may stand above each of these
abbrev pub FairTreesAreShort : Type 0
FairTreesAreShort = (ip : Ip) (known : Option ℤ) (tree : Tree) → IsFairTree ip known tree → length tree.nodes ≤ (2 * split_count tree.nodes + 1) * (most_above + 1)

-- the test of a node says whether it is fair
abbrev pub FairNodesAreTested : Type 0
FairNodesAreTested = (ip : Ip) (known : Option ℤ) (p : Place) (node : Node) → IsTrue (is_fair_node ip known p node) ↔ IsFairNode ip known p node

-- there is no first node that isn't fair exactly where the tree is whole and fair
abbrev pub FairTreesHaveNoFirst : Type 0
FairTreesHaveNoFirst = (ip : Ip) (known : Option ℤ) (tree : Tree) → first_unfair ip known tree ≡ None ↔ IsFairTree ip known tree

-- and of a whole tree it is the first node that isn't fair at its place
abbrev pub FirstUnfairIsFound : Type 0
FirstUnfairIsFound = (ip : Ip) (known : Option ℤ) (tree : Tree) (k : ℕ) → IsWhole tree → first_unfair ip known tree ≡ Some k ↔ IsFirstUnfair ip known tree k
