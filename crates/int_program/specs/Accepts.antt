-- When a tree of cases is accepted, and why one of its nodes is not; this project's own.
use Rattle.std.specs.Prelude.{◌≡◌, ℕ, ℤ, pos, ◌+ℤ◌, ◌&&◌, List, [], ◌∷◌, ◌++◌, length, Option, Some, None, nat_lt, int_lt, int_le, slice_get, slice_set, if◌then◌else◌}
use Rattle.int_program.specs.declared.program.Ip.{Ip}
use Rattle.int_program.specs.declared.program.IpBox.{IpBox}
use Rattle.int_program.specs.declared.program.Row.{Row}
use Rattle.int_program.specs.declared.program.Weight.{Weight}
use Rattle.int_program.specs.declared.program.Tree.{Tree}
use Rattle.int_program.specs.declared.program.Node.{Node}
use Rattle.int_program.specs.declared.program.Node.TheVariants.{Split, Tight, RowLeaf, GoalLeaf, Dual, Far, Unsolved}
use Rattle.int_program.specs.declared.program.Why.{Why}
use Rattle.int_program.specs.declared.program.Why.TheVariants as why
use Rattle.int_program.specs.Sums.{at}
use Rattle.int_program.specs.Boxes.{root_of}
use Rattle.int_program.specs.Bounds.{least_of, most_of}
use Rattle.int_program.specs.Tightening.{floor, tight_ends}
use Rattle.int_program.specs.Weighted.{rows_there, none_negative}
use Rattle.int_program.specs.Stopping.{tried_dual, tried_far}

-- the two halves of a box: the variable at most k, and from k + 1 on
abbrev pub lower_half : IpBox → ℕ → ℤ → IpBox
lower_half b v k = record b { high = slice_set b.high v k }

abbrev pub upper_half : IpBox → ℕ → ℤ → IpBox
upper_half b v k = record b { low = slice_set b.low v (k +ℤ pos 1) }

-- the box with other ends of one variable
abbrev pub with_ends : IpBox → ℕ → ℤ × ℤ → IpBox
with_ends b v ends = record { low = slice_set b.low v ends.0; high = slice_set b.high v ends.1 }

-- a split: the variable exists, and both halves have room
abbrev pub split_fault : ℕ → IpBox → ℕ → ℤ → Option Why
split_fault n b v k =
    if nat_lt v n
    then if int_le (at b.low v) k && int_lt k (at b.high v) then None else Some why.BadSplit
    else Some why.BadVar

-- a tightening: the variable and the row exist, and the row shrinks the variable's ends
abbrev pub tight_fault : ℕ → IpBox → ℕ → Option Row → Option Why
tight_fault n b v None = Some why.BadVar
tight_fault n b v (Some row) =
    if nat_lt v n
    then elim (tight_ends row v b) [ Some _ ↦ None | None ↦ Some why.NotTight ]
    else Some why.BadVar

-- a row leaf: the row exists, and its least value on the box is above its right side
abbrev pub row_fault : IpBox → Option Row → Option Why
row_fault b None = Some why.BadVar
row_fault b (Some row) = if int_lt row.most (least_of row.parts b) then None else Some why.RowHolds

-- a goal leaf: a value is known, and the objective's greatest value on the box is at most it
abbrev pub goal_fault : Ip → IpBox → Option ℤ → Option Why
goal_fault ip b None = Some why.ObjAbove
goal_fault ip b (Some u) = if int_le (most_of ip.goal b +ℤ ip.base) u then None else Some why.ObjAbove

-- a dual leaf: the rows exist; a value is known, `over` is at least 1 and no weight is below 0; no number leaves 128 bits; and the
-- bound divided by `over`, rounded down, is at most the value
abbrev pub dual_short : ℤ → ℤ → Option ℤ → Option Why
dual_short u over None = Some why.Wide
dual_short u over (Some bound) = if int_le (floor bound over) u then None else Some why.DualShort

abbrev pub dual_fault : Ip → IpBox → Option ℤ → ℤ → List Weight → Option Why
dual_fault ip b None over ws = if rows_there ip ws then Some why.DualShort else Some why.BadVar
dual_fault ip b (Some u) over ws =
    if rows_there ip ws
    then if int_le (pos 1) over && none_negative ws then dual_short u over (tried_dual ip b over ws) else Some why.DualShort
    else Some why.BadVar

-- a far leaf: the rows exist; no weight is below 0; no number leaves 128 bits; and the least value of the weighted rows on the box
-- is above their weighted right sides
abbrev pub far_short : Option (ℤ × ℤ) → Option Why
far_short None = Some why.Wide
far_short (Some sums) = if int_lt sums.0 sums.1 then None else Some why.DualShort

abbrev pub far_fault : Ip → IpBox → List Weight → Option Why
far_fault ip b ws =
    if rows_there ip ws
    then if none_negative ws then far_short (tried_far ip b ws) else Some why.DualShort
    else Some why.BadVar

-- why a node is not accepted on its box for the known value, if it is not
abbrev pub fault_of : Ip → Option ℤ → IpBox → Node → Option Why
fault_of ip known b (Split v k) = split_fault (length ip.tops) b v k
fault_of ip known b (Tight v r) = tight_fault (length ip.tops) b v (slice_get ip.rows r)
fault_of ip known b (RowLeaf r) = row_fault b (slice_get ip.rows r)
fault_of ip known b GoalLeaf = goal_fault ip b known
fault_of ip known b (Dual over ws) = dual_fault ip b known over ws
fault_of ip known b (Far ws) = far_fault ip b ws
fault_of ip known b Unsolved = Some why.Unsolved

abbrev pub IsAccepted : Ip → Option ℤ → IpBox → Node → Type 0
IsAccepted ip known b node = fault_of ip known b node ≡ None

-- the box under a tightening
abbrev pub tight_child : IpBox → ℕ → Option Row → IpBox
tight_child b v None = b
tight_child b v (Some row) = elim (tight_ends row v b) [ Some ends ↦ with_ends b v ends | None ↦ b ]

-- the boxes that a node opens, the first case first
abbrev pub children : Ip → IpBox → Node → List IpBox
children ip b (Split v k) = lower_half b v k ∷ upper_half b v k ∷ []
children ip b (Tight v r) = tight_child b v (slice_get ip.rows r) ∷ []
children ip b (RowLeaf r) = []
children ip b GoalLeaf = []
children ip b (Dual over ws) = []
children ip b (Far ws) = []
children ip b Unsolved = []

-- the nodes, each on the first open box and as G says of it, lead from the open boxes to those that are open after them
abbrev pub Leads : Ip → (IpBox → Node → Type 0) → List IpBox → List Node → List IpBox → Type 0
Leads ip G bs [] rest = bs ≡ rest
Leads ip G [] (node ∷ nodes) rest = ⊥
Leads ip G (b ∷ bs) (node ∷ nodes) rest = G b node × Leads ip G (children ip b node ++ bs) nodes rest

-- the tree is whole, and each node is accepted on its box: for a known value, or for none, that no point is there
abbrev pub Accepts : Ip → Option ℤ → Tree → Type 0
Accepts ip known tree = Leads ip (IsAccepted ip known) (root_of ip ∷ []) tree.nodes []
