-- A small program worked by hand: the places of a tree, and what is asked at each. Each line is computed.
use Rattle.std.proofs.Common.{◌≡◌, ℕ, zero, suc, pos, negsuc, List, [], ◌∷◌, Some, None, refl, arith}
use Rattle.int_program.specs.Accepts.{lower_half, upper_half}
use Rattle.int_program.specs.Places.{place, opened}
use Rattle.int_program.specs.FairTrees.{HasFewAbove, IsAcceptedButOpen}
use Rattle.int_program.specs.FirstUnfair.{first_unfair}
use Rattle.int_program.specs.Counting.{split_count, open_count}
use Rattle.int_program.specs.declared.program.Ip.{Ip}
use Rattle.int_program.specs.declared.program.Node.{Node}
use Rattle.int_program.specs.declared.program.Node.TheVariants.{Split, Tight, RowLeaf, GoalLeaf, Unsolved}
use Rattle.int_program.proofs.Examples.{part, ip, b}

-- a split begins the count again, a tightening goes on with it
split_opens : opened ip (place b 7) (Split 0 (pos 2)) ≡ place (lower_half b 0 (pos 2)) 0 ∷ place (upper_half b 0 (pos 2)) 0 ∷ []
split_opens = refl

tight_opens : opened ip (place b 7) (Tight 0 0) ≡ place (record { low = pos 1 ∷ pos 0 ∷ []; high = pos 3 ∷ pos 3 ∷ [] }) 8 ∷ []
tight_opens = refl

leaf_opens : opened ip (place b 7) (RowLeaf 2) ≡ []
leaf_opens = refl

-- a hundred tightenings may stand above a leaf, and a hundred and one may not
hundred_above : HasFewAbove (place b 100) (RowLeaf 2)
hundred_above = omega arith

more_above : HasFewAbove (place b 101) (RowLeaf 2) → ⊥
more_above h = omega arith

-- one half is open, and row 2 closes the other
half_open : IsAcceptedButOpen ip None (record { nodes = Split 1 (pos 0) ∷ RowLeaf 2 ∷ Unsolved ∷ [] })
half_open = (refl, (refl, (tt, refl)))

counts : (split_count (Split 1 (pos 0) ∷ RowLeaf 2 ∷ Unsolved ∷ []) ≡ 1) × (open_count (Split 1 (pos 0) ∷ RowLeaf 2 ∷ Unsolved ∷ []) ≡ 1)
counts = (refl, refl)

-- two variables up to 200; the rows x - y <= -1 and y - x <= 0, by which each tightening takes one number of a variable at a time;
-- the objective x
abbrev creeping : Ip
creeping =
    record {
      tops = pos 200 ∷ pos 200 ∷ [];
      rows = record { parts = part 0 (pos 1) ∷ part 1 (negsuc 0) ∷ []; most = negsuc 0 } ∷ record { parts = part 0 (negsuc 0) ∷ part 1 (pos 1) ∷ []; most = pos 0 } ∷ [];
      goal = part 0 (pos 1) ∷ [];
      base = pos 0;
    }

-- n pairs of tightenings, each of which is accepted, and then some nodes
abbrev pairs : ℕ → List Node → List Node
pairs zero nodes = nodes
pairs (suc n) nodes = Tight 1 0 ∷ Tight 0 1 ∷ pairs n nodes

abbrev split_open : List Node
split_open = Split 0 (pos 100) ∷ Unsolved ∷ Unsolved ∷ []

-- a split is not fair while a tightening is accepted on its box, and fair with a hundred above it
split_too_soon : first_unfair creeping None (record { nodes = split_open }) ≡ Some 0
split_too_soon = refl

split_after_98 : first_unfair creeping None (record { nodes = pairs 49 split_open }) ≡ Some 98
split_after_98 = refl

split_after_100 : first_unfair creeping None (record { nodes = pairs 50 split_open }) ≡ None
split_after_100 = refl

-- the tightening after the hundredth is one too many: the node under it is not fair
split_after_101 : first_unfair creeping None (record { nodes = pairs 50 (Tight 1 0 ∷ split_open) }) ≡ Some 101
split_after_101 = refl

each_accepted : IsAcceptedButOpen creeping None (record { nodes = pairs 2 split_open })
each_accepted = (refl, (refl, (refl, (refl, (refl, (tt, (tt, refl)))))))

-- an open leaf is fair where no row closes its box, the objective doesn't close it for the known value, and its lows are no better
-- point. Here the lows are (0, 0), which breaks row 0, and the objective is at most 200
open_for_none : first_unfair creeping None (record { nodes = Unsolved ∷ [] }) ≡ None
open_for_none = refl

open_for_199 : first_unfair creeping (Some (pos 199)) (record { nodes = Unsolved ∷ [] }) ≡ None
open_for_199 = refl

open_for_200 : first_unfair creeping (Some (pos 200)) (record { nodes = Unsolved ∷ [] }) ≡ Some 0
open_for_200 = refl

-- row 2 closes the root box of the program above
open_though_closed : first_unfair ip None (record { nodes = Unsolved ∷ [] }) ≡ Some 0
open_though_closed = refl

-- one variable up to 3, no rows, the objective x: the lows are a point of value 0
abbrev alone : Ip
alone = record { tops = pos 3 ∷ []; rows = []; goal = part 0 (pos 1) ∷ []; base = pos 0 }

open_at_point : first_unfair alone None (record { nodes = Unsolved ∷ [] }) ≡ Some 0
open_at_point = refl

open_for_zero : first_unfair alone (Some (pos 0)) (record { nodes = Unsolved ∷ [] }) ≡ None
open_for_zero = refl

-- splits: into two parts with room, of a variable that is there, on a box that no row closes
split_fair : first_unfair alone (Some (pos 0)) (record { nodes = Split 0 (pos 1) ∷ Unsolved ∷ Split 0 (pos 2) ∷ GoalLeaf ∷ GoalLeaf ∷ [] }) ≡ None
split_fair = refl

split_at_top : first_unfair alone (Some (pos 0)) (record { nodes = Split 0 (pos 1) ∷ Unsolved ∷ Split 0 (pos 3) ∷ GoalLeaf ∷ GoalLeaf ∷ [] }) ≡ Some 2
split_at_top = refl

split_of_no_variable : first_unfair alone None (record { nodes = Split 1 (pos 1) ∷ GoalLeaf ∷ GoalLeaf ∷ [] }) ≡ Some 0
split_of_no_variable = refl

split_though_closed : first_unfair ip None (record { nodes = Split 0 (pos 2) ∷ RowLeaf 2 ∷ RowLeaf 2 ∷ [] }) ≡ Some 0
split_though_closed = refl

-- a node that is missing, and one that is too many
missing : first_unfair alone None (record { nodes = Split 0 (pos 1) ∷ GoalLeaf ∷ [] }) ≡ Some 2
missing = refl

left_over : first_unfair alone None (record { nodes = GoalLeaf ∷ GoalLeaf ∷ [] }) ≡ Some 1
left_over = refl
