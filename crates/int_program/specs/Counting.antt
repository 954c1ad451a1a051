-- How many points the root box has, and how many splits a tree; this project's own.
use Rattle.std.specs.Prelude.{ℕ, ℤ, ◌+◌, ◌*◌, ◌<◌, Bool, true, false, List, [], ◌∷◌, length, None, unsigned_abs}
use Rattle.std.specs.List.{count_by}
use Rattle.int_program.specs.declared.program.Ip.{Ip}
use Rattle.int_program.specs.declared.program.IpBox.{IpBox}
use Rattle.int_program.specs.declared.program.Tree.{Tree}
use Rattle.int_program.specs.declared.program.Node.{Node}
use Rattle.int_program.specs.declared.program.Node.TheVariants.{Split, Tight, Unsolved}
use Rattle.int_program.specs.Boxes.{IsNonempty, root_of}
use Rattle.int_program.specs.Accepts.{IsAccepted, lower_half, upper_half, Leads}

-- the product over the tops, none of them below 0, of the top plus 1
abbrev pub tops_product : List ℤ → ℕ
tops_product [] = 1
tops_product (top ∷ tops) = (unsigned_abs top + 1) * tops_product tops

abbrev pub root_points : Ip → ℕ
root_points ip = tops_product ip.tops

abbrev pub is_split : Node → Bool
is_split (Split v k) = true
is_split node = false

abbrev pub split_count : List Node → ℕ
split_count nodes = count_by is_split nodes

abbrev pub is_open : Node → Bool
is_open Unsolved = true
is_open node = false

abbrev pub open_count : List Node → ℕ
open_count nodes = count_by is_open nodes

-- a split that cuts a nonempty box in a variable of it into two nonempty ones
pub record IsCut (b : IpBox) (v : ℕ) (k : ℤ) : Type 0 where
  pub nonempty : IsNonempty b
  pub var : v < length b.low
  pub lower : IsNonempty (lower_half b v k)
  pub upper : IsNonempty (upper_half b v k)

-- splits cut, and tightenings are accepted; nothing is asked of leaves
abbrev pub CutsOnly : Ip → IpBox → Node → Type 0
CutsOnly ip b (Split v k) = IsCut b v k
CutsOnly ip b (Tight v r) = IsAccepted ip None b (Tight v r)
CutsOnly ip b node = Unit {0}

-- a whole tree all of whose splits cut and all of whose tightenings are accepted
abbrev pub IsCutTree : Ip → Tree → Type 0
IsCutTree ip tree = Leads ip (CutsOnly ip) (root_of ip ∷ []) tree.nodes []
