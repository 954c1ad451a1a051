-- What a search answers, and what its tree shows of the answer; this project's own.
use Rattle.std.specs.Prelude.{◌≡◌, ℕ, ℤ, ◌<◌, ◌≤◌, Option, Some, None}
use Rattle.std.specs.Option.{ForSome}
use Rattle.int_program.specs.declared.program.Ip.{Ip}
use Rattle.int_program.specs.declared.program.Point.{Point}
use Rattle.int_program.specs.declared.program.Tree.{Tree}
use Rattle.int_program.specs.Points.{IsPoint, value_of}
use Rattle.int_program.specs.Accepts.{Accepts}
use Rattle.int_program.specs.Counting.{root_points, split_count, open_count}
use Rattle.int_program.specs.FairTrees.{IsFairTree, IsAcceptedButOpen}
use Rattle.branch_bound.specs.declared.found.Found.{Found}
use Rattle.branch_bound.specs.declared.found.Found.TheVariants.{Best, NoPoint, Unfinished}

-- the most splits that may be asked for
abbrev pub most_splits : ℕ
most_splits = 10000000

-- the value of the best point, or none
abbrev pub known_by : Ip → Option Point → Option ℤ
known_by ip None = None
known_by ip (Some best) = Some (value_of ip best.values)

-- a tree with few splits, each of them fair, as each open leaf is for the known value or for none, and with few tightenings
-- directly above each other node
pub record IsSearched (ip : Ip) (limit : ℕ) (known : Option ℤ) (tree : Tree) : Type 0 where
  pub splits : split_count tree.nodes ≤ limit
  pub fair : IsFairTree ip known tree

-- a point, and a tree that is accepted for its value
pub record IsBest (ip : Ip) (limit : ℕ) (point : Point) (tree : Tree) : Type 0 where
  pub is_point : IsPoint ip point.values
  pub accepted : Accepts ip (Some (value_of ip point.values)) tree
  pub searched : IsSearched ip limit (Some (value_of ip point.values)) tree

-- a tree that is accepted for none
pub record IsNoPoint (ip : Ip) (limit : ℕ) (tree : Tree) : Type 0 where
  pub accepted : Accepts ip None tree
  pub searched : IsSearched ip limit None tree

-- exactly as many splits as were allowed, fewer than the root box has points, and some open leaf; each other node is accepted for
-- the value of the best point or for none, and the best point, where there is one, is a point
pub record IsUnfinished (ip : Ip) (limit : ℕ) (best : Option Point) (tree : Tree) : Type 0 where
  pub is_point : ForSome best (λ x. IsPoint ip x.values)
  pub splits : split_count tree.nodes ≡ limit
  pub few : limit < root_points ip
  pub some_open : 0 < open_count tree.nodes
  pub accepted : IsAcceptedButOpen ip (known_by ip best) tree
  pub searched : IsSearched ip limit (known_by ip best) tree

-- each answer is what it says
abbrev pub IsFound : Ip → ℕ → Found → Type 0
IsFound ip limit (Best point tree) = IsBest ip limit point tree
IsFound ip limit (NoPoint tree) = IsNoPoint ip limit tree
IsFound ip limit (Unfinished best tree) = IsUnfinished ip limit best tree
