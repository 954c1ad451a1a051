-- Splits and open leaves that a search may leave in a tree; this project's own.
use Rattle.std.specs.Prelude.{ℕ, ℤ, ◌<◌, ◌≤◌, Bool, ◌⊎◌, IsTrue, length, Option, None}
use Rattle.int_program.specs.declared.program.Ip.{Ip}
use Rattle.int_program.specs.declared.program.IpBox.{IpBox}
use Rattle.int_program.specs.declared.program.Node.{Node}
use Rattle.int_program.specs.declared.program.Node.TheVariants.{Split, Tight, RowLeaf, GoalLeaf, Unsolved}
use Rattle.int_program.specs.Boxes.{IsNonempty}
use Rattle.int_program.specs.Points.{IsBetter}
use Rattle.int_program.specs.Accepts.{IsAccepted, lower_half, upper_half}

-- no row leaf, and no tightening, is accepted on the box
abbrev pub NoRowLeaf : Ip → IpBox → Type 0
NoRowLeaf ip b = (r : ℕ) → IsAccepted ip None b (RowLeaf r) → ⊥

abbrev pub NoTightening : Ip → IpBox → Type 0
NoTightening ip b = (v r : ℕ) → IsAccepted ip None b (Tight v r) → ⊥

-- how many tightenings may stand directly above another node
abbrev pub most_above : ℕ
most_above = 100

-- a fair split: of a nonempty box that no row leaf closes, in a variable of the program, into two nonempty boxes. Where
-- tightening is owed, no tightening is accepted on the box either, or as many as may stand directly above the split
pub record IsFairSplit (owed : Bool) (above : ℕ) (ip : Ip) (b : IpBox) (v : ℕ) (k : ℤ) : Type 0 where
  pub nonempty : IsNonempty b
  pub no_row : NoRowLeaf ip b
  pub var : v < length ip.tops
  pub lower : IsNonempty (lower_half b v k)
  pub upper : IsNonempty (upper_half b v k)
  pub narrow : IsTrue owed → NoTightening ip b ⊎ (most_above ≤ above)

-- a fair open leaf for the known value or for none: no row leaf and no goal leaf is accepted on its box, and the point of all
-- lows of the box is no better point
pub record IsFairOpen (ip : Ip) (known : Option ℤ) (b : IpBox) : Type 0 where
  pub no_row : NoRowLeaf ip b
  pub no_goal : IsAccepted ip known b GoalLeaf → ⊥
  pub low_point : IsBetter ip known b.low → ⊥

-- a node's part: a split and an open leaf are fair. `owed` says whether tightening is owed, `above` counts the tightenings directly
-- above the node; an open leaf is fair in both wordings alike
abbrev pub IsFair : Bool → ℕ → Ip → Option ℤ → IpBox → Node → Type 0
IsFair owed above ip known b (Split v k) = IsFairSplit owed above ip b v k
IsFair owed above ip known b Unsolved = IsFairOpen ip known b
IsFair owed above ip known b node = Unit {0}
