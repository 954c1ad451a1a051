-- Trees that a search may leave: what is asked of each of their nodes; this project's own.
use Rattle.std.specs.Prelude.{ℤ, ◌≤◌, true, Option}
use Rattle.int_program.specs.declared.program.Ip.{Ip}
use Rattle.int_program.specs.declared.program.Place.{Place}
use Rattle.int_program.specs.declared.program.Tree.{Tree}
use Rattle.int_program.specs.declared.program.Node.{Node}
use Rattle.int_program.specs.declared.program.Node.TheVariants.{Tight, Unsolved}
use Rattle.int_program.specs.Accepts.{IsAccepted}
use Rattle.int_program.specs.Fair.{IsFair, most_above}
use Rattle.int_program.specs.Places.{OfEachNode}

-- no more tightenings than may stand directly above a node that is none itself
abbrev pub HasFewAbove : Place → Node → Type 0
HasFewAbove p (Tight v r) = Unit {0}
HasFewAbove p node = p.above ≤ most_above

-- each split is fair, tightening being owed; each open leaf is fair for the known value or for none; and few tightenings stand
-- directly above each other node
pub record IsFairNode (ip : Ip) (known : Option ℤ) (p : Place) (node : Node) : Type 0 where
  pub fair : IsFair true p.above ip known p.within node
  pub few : HasFewAbove p node

abbrev pub IsFairTree : Ip → Option ℤ → Tree → Type 0
IsFairTree ip known tree = OfEachNode ip (IsFairNode ip known) tree

-- an open leaf, or a node that is accepted for the known value or for none
abbrev pub IsOpenOrAccepted : Ip → Option ℤ → Place → Node → Type 0
IsOpenOrAccepted ip known p Unsolved = Unit {0}
IsOpenOrAccepted ip known p node = IsAccepted ip known p.within node

-- a whole tree in which each node but the open leaves is accepted
abbrev pub IsAcceptedButOpen : Ip → Option ℤ → Tree → Type 0
IsAcceptedButOpen ip known tree = OfEachNode ip (IsOpenOrAccepted ip known) tree
