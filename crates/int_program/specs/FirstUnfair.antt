-- The first node of a tree that isn't fair at its place, as a function that computes; this project's own.
use Rattle.std.specs.Prelude.{◌≡◌, ℕ, ℤ, pos, ◌+◌, Bool, true, false, not, ◌&&◌, ◌||◌, List, [], ◌∷◌, ◌++◌, length, map, take, Option, Some, None, is_some, nat_lt, nat_le, int_lt, int_le, slice_get, if◌then◌else◌}
use Rattle.std.specs.List.{list_all, range_with_len}
use Rattle.int_program.specs.declared.program.Ip.{Ip}
use Rattle.int_program.specs.declared.program.IpBox.{IpBox}
use Rattle.int_program.specs.declared.program.Place.{Place}
use Rattle.int_program.specs.declared.program.Tree.{Tree}
use Rattle.int_program.specs.declared.program.Node.{Node}
use Rattle.int_program.specs.declared.program.Node.TheVariants.{Split, Tight, Unsolved}
use Rattle.int_program.specs.Sums.{sum_at}
use Rattle.int_program.specs.Boxes.{root_of}
use Rattle.int_program.specs.Points.{value_of}
use Rattle.int_program.specs.Accepts.{lower_half, upper_half, tight_fault, row_fault, goal_fault}
use Rattle.int_program.specs.Fair.{most_above}
use Rattle.int_program.specs.Places.{place, opened, Fills}
use Rattle.int_program.specs.FairTrees.{IsFairNode}

-- the lists are of one length, and no number is above the one beside it
abbrev pub in_order : List ℤ → List ℤ → Bool
in_order [] [] = true
in_order [] (h ∷ high) = false
in_order (l ∷ low) [] = false
in_order (l ∷ low) (h ∷ high) = int_le l h && in_order low high

abbrev pub is_filled : IpBox → Bool
is_filled b = in_order b.low b.high

-- no row leaf is accepted on the box
abbrev pub no_row_leaf : Ip → IpBox → Bool
no_row_leaf ip b = list_all (λ row. is_some (row_fault b (Some row))) ip.rows

-- no tightening is
abbrev pub no_tightening : Ip → IpBox → Bool
no_tightening ip b =
    list_all (λ v. list_all (λ row. is_some (tight_fault (length ip.tops) b v (Some row))) ip.rows) (range_with_len 0 (length ip.tops))

abbrev pub is_fair_split : ℕ → Ip → IpBox → ℕ → ℤ → Bool
is_fair_split above ip b v k =
    is_filled b && (no_row_leaf ip b && (nat_lt v (length ip.tops) && (is_filled (lower_half b v k) && (is_filled (upper_half b v k) && (no_tightening ip b || nat_le most_above above)))))

-- the numbers are a point of the program whose value is above the known one
abbrev pub is_point : Ip → List ℤ → Bool
is_point ip x = in_order (map (λ _. pos 0) ip.tops) x && (in_order x ip.tops && list_all (λ row. int_le (sum_at row.parts x) row.most) ip.rows)

abbrev pub is_above : Option ℤ → ℤ → Bool
is_above None z = true
is_above (Some u) z = int_lt u z

abbrev pub is_better : Ip → Option ℤ → List ℤ → Bool
is_better ip known x = is_point ip x && is_above known (value_of ip x)

abbrev pub is_fair_open : Ip → Option ℤ → IpBox → Bool
is_fair_open ip known b = no_row_leaf ip b && (is_some (goal_fault ip b known) && not (is_better ip known b.low))

abbrev pub has_few_above : ℕ → Bool
has_few_above above = nat_le above most_above

-- the node is fair at its place, for the known value or for none
abbrev pub is_fair_node : Ip → Option ℤ → Place → Node → Bool
is_fair_node ip known p (Split v k) = is_fair_split p.above ip p.within v k && has_few_above p.above
is_fair_node ip known p (Tight v r) = true
is_fair_node ip known p Unsolved = is_fair_open ip known p.within && has_few_above p.above
is_fair_node ip known p node = has_few_above p.above

-- counted from n: the first node that fails the test at its place, or that has no place left, or that is missing at an open place
abbrev pub first_failing : Ip → (Place → Node → Bool) → List Place → ℕ → List Node → Option ℕ
first_failing ip test [] n [] = None
first_failing ip test [] n (node ∷ nodes) = Some n
first_failing ip test (p ∷ ps) n [] = Some n
first_failing ip test (p ∷ ps) n (node ∷ nodes) =
    if test p node then first_failing ip test (opened ip p node ++ ps) (n + 1) nodes else Some n

abbrev pub first_unfair : Ip → Option ℤ → Tree → Option ℕ
first_unfair ip known tree = first_failing ip (is_fair_node ip known) (place (root_of ip) 0 ∷ []) 0 tree.nodes

-- the nodes before number k are fair at their places, and the node of that number isn't at its own
pub record IsFirstUnfair (ip : Ip) (known : Option ℤ) (tree : Tree) (k : ℕ) : Type 0 where
  pub here : Place
  pub later : List Place
  pub node : Node
  pub before : Fills ip (IsFairNode ip known) (place (root_of ip) 0 ∷ []) (take k tree.nodes) (here ∷ later)
  pub is : slice_get tree.nodes k ≡ Some node
  pub unfair : IsFairNode ip known here node → ⊥
