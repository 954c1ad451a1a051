-- A fair tree has few nodes beside its splits.
use Rattle.std.proofs.Common.{ℕ, ◌+◌, ◌*◌, ◌≤◌, ℤ, List, [], ◌∷◌, ◌++◌, length, Option, cond, arith}
use Rattle.std.proofs.lemmas.List.Sums.{sum_by-cons}
use Rattle.int_program.specs.Boxes.{root_of}
use Rattle.int_program.specs.Places.{place, opened, Fills}
use Rattle.int_program.specs.Counting.{is_split, split_count}
use Rattle.int_program.specs.Fair.{most_above}
use Rattle.int_program.specs.FairTrees.{HasFewAbove, IsFairNode, IsFairTree}
use Rattle.int_program.specs.declared.program.Ip.{Ip}
use Rattle.int_program.specs.declared.program.Place.{Place}
use Rattle.int_program.specs.declared.program.Tree.{Tree}
use Rattle.int_program.specs.declared.program.Node.{Node}
use Rattle.int_program.specs.declared.program.Node.TheVariants.{Split, Tight, RowLeaf, GoalLeaf, Dual, Far, Unsolved}

-- the tightenings above all open places
abbrev above_all : List Place → ℕ
above_all [] = 0
above_all (p ∷ ps) = p.above + above_all ps

-- nodes from the open places on: each place takes a node with its tightenings, and each split opens one more
abbrev AreFew : List Place → List Node → Type 0
AreFew ps nodes = length nodes + above_all ps ≤ (2 * split_count nodes + length ps) * (most_above + 1)

few_more : (ip : Ip) (p : Place) (ps : List Place) (node : Node) (nodes : List Node) → HasFewAbove p node → AreFew (opened ip p node ++ ps) nodes → AreFew (p ∷ ps) (node ∷ nodes)
few_more ip p ps (Split v k) nodes h few = omega (arith, sum_by-cons (λ x. cond (is_split x) 1 0) (Split v k) nodes)
few_more ip p ps (Tight v r) nodes h few = omega (arith, sum_by-cons (λ x. cond (is_split x) 1 0) (Tight v r) nodes)
few_more ip p ps (RowLeaf r) nodes h few = omega (arith, sum_by-cons (λ x. cond (is_split x) 1 0) (RowLeaf r) nodes)
few_more ip p ps GoalLeaf nodes h few = omega (arith, sum_by-cons (λ x. cond (is_split x) 1 0) GoalLeaf nodes)
few_more ip p ps (Dual over ws) nodes h few = omega (arith, sum_by-cons (λ x. cond (is_split x) 1 0) (Dual over ws) nodes)
few_more ip p ps (Far ws) nodes h few = omega (arith, sum_by-cons (λ x. cond (is_split x) 1 0) (Far ws) nodes)
few_more ip p ps Unsolved nodes h few = omega (arith, sum_by-cons (λ x. cond (is_split x) 1 0) Unsolved nodes)

few_nodes : (ip : Ip) (G : Place → Node → Type 0) → ((p : Place) (node : Node) → G p node → HasFewAbove p node) → (ps : List Place) (nodes : List Node) → Fills ip G ps nodes [] → AreFew ps nodes
few_nodes ip G f [] [] l = omega arith
few_nodes ip G f (p ∷ ps) [] l = cc
few_nodes ip G f [] (node ∷ nodes) l = absurd l
few_nodes ip G f (p ∷ ps) (node ∷ nodes) l =
    few_more ip p ps node nodes (f p node l.0) (few_nodes ip G f (opened ip p node ++ ps) nodes l.1)

pub fair_short : (ip : Ip) (known : Option ℤ) (tree : Tree) → IsFairTree ip known tree → length tree.nodes ≤ (2 * split_count tree.nodes + 1) * (most_above + 1)
fair_short ip known tree a =
    let few = few_nodes ip (IsFairNode ip known) (λ p node g. g.few) (place (root_of ip) 0 ∷ []) tree.nodes a in
    omega arith
