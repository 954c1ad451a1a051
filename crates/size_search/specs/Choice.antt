-- What becomes of a program on a target by a search of its integer program, with the tree that shows it; this project's own.
use Rattle.std.specs.Prelude.{◌≡◌, ℕ, ℤ, ◌<◌, ◌^◌, List, Option, Some, None}
use Rattle.std.specs.Option.{ForSome}
use Rattle.elastic_ast.specs.Tree.{PlainDecl}
use Rattle.elastic_ast.specs.Sizes.SizeSums.{utility}
use Rattle.elastic_ast.specs.Units.Instances.{nth_size}
use Rattle.target_desc.specs.declared.target.Target.{Target}
use Rattle.dep_graph.specs.Feasible.{Feasible}
use Rattle.dep_graph.specs.Optimum.{Best, Infeasible}
use Rattle.int_program.specs.declared.program.Ip.{Ip}
use Rattle.int_program.specs.declared.program.Tree.{Tree}
use Rattle.int_program.specs.Accepts.{Accepts}
use Rattle.int_program.specs.Counting.{root_points, split_count, open_count}
use Rattle.int_program.specs.FairTrees.{IsAcceptedButOpen}
use Rattle.branch_bound.specs.Found.{IsSearched}
use Rattle.unroll_bound.specs.BoundAnswers.{AreBoundsWithin, IsFirstUnbounded, IsTooMuch}
use Rattle.unroll_bound.specs.ProgramUnits.{units_of_program}
use Rattle.unroll_bound.specs.declared.unit_bounds.What.{What}
use Rattle.ilp_model.specs.IpOf.{ip_of}
use Rattle.size_search.specs.declared.choosing.Choice.{Choice}
use Rattle.size_search.specs.declared.choosing.Choice.TheVariants as choice
use Rattle.size_search.specs.declared.choosing.Placed.{Placed}

-- the bounds of a program on a target, within their numbers
abbrev pub AreBoundsOf : List PlainDecl → Target → List ℕ → Type 0
AreBoundsOf decls target bounds = AreBoundsWithin (units_of_program decls) target bounds

-- the first symbol of a program that has no bound on a target
abbrev pub IsUnbounded : List PlainDecl → Target → ℕ → Type 0
IsUnbounded decls target symbol = IsFirstUnbounded (units_of_program decls) target symbol

-- at the bounds of a program on a target this is the first that is too large, and how large it is
abbrev pub IsLarge : List PlainDecl → Target → What → ℕ → Type 0
IsLarge decls target what count = IsTooMuch (units_of_program decls) target what count

-- the integer program of a program on a target, within bounds
abbrev pub ip_of_program : List PlainDecl → Target → List ℕ → Ip
ip_of_program decls target bounds = ip_of (units_of_program decls) target (nth_size bounds)

-- sizes and a placement are feasible, and this is their utility
pub record IsFeasiblePair (decls : List PlainDecl) (target : Target) (placed : Placed) : Type 0 where
  pub feasible : Feasible decls target placed.sizes.values placed.placement.at
  pub value : placed.utility ≡ utility decls placed.sizes.values

-- best: no feasible sizes and placement have a greater utility, as the tree shows within the bounds
pub record IsBestChoice (decls : List PlainDecl) (target : Target) (limit : ℕ) (placed : Placed) (tree : Tree) : Type 0 where
  pub bounds : List ℕ
  pub are_bounds : AreBoundsOf decls target bounds
  pub best : Best decls target placed.sizes.values placed.placement.at
  pub value : placed.utility ≡ utility decls placed.sizes.values
  pub accepted : Accepts (ip_of_program decls target bounds) (Some placed.utility) tree
  pub searched : IsSearched (ip_of_program decls target bounds) limit (Some placed.utility) tree

-- infeasible: there are no feasible sizes and placement, as the tree shows within the bounds
pub record IsInfeasibleChoice (decls : List PlainDecl) (target : Target) (limit : ℕ) (tree : Tree) : Type 0 where
  pub bounds : List ℕ
  pub are_bounds : AreBoundsOf decls target bounds
  pub none : Infeasible decls target
  pub accepted : Accepts (ip_of_program decls target bounds) None tree
  pub searched : IsSearched (ip_of_program decls target bounds) limit None tree

-- the greatest utility that was found, or none
abbrev pub known_of : Option Placed → Option ℤ
known_of None = None
known_of (Some placed) = Some placed.utility

-- unfinished: exactly as many splits as were allowed, fewer than the program has points, and some open leaf. Each split is fair, as each
-- open leaf is for the greatest utility that was found or for none; each other node is accepted for it; and what was found is feasible
pub record IsUnfinishedChoice (decls : List PlainDecl) (target : Target) (limit : ℕ) (best : Option Placed) (tree : Tree)
    : Type 0 where
  pub bounds : List ℕ
  pub are_bounds : AreBoundsOf decls target bounds
  pub feasible : ForSome best (IsFeasiblePair decls target)
  pub splits : split_count tree.nodes ≡ limit
  pub few : limit < root_points (ip_of_program decls target bounds)
  pub some_open : 0 < open_count tree.nodes
  pub accepted : IsAcceptedButOpen (ip_of_program decls target bounds) (known_of best) tree
  pub searched : IsSearched (ip_of_program decls target bounds) limit (known_of best) tree

-- what becomes of a program on a target
abbrev pub IsChoice : List PlainDecl → Target → ℕ → Choice → Type 0
IsChoice decls target limit (choice.Best placed tree) = IsBestChoice decls target limit placed tree
IsChoice decls target limit (choice.Infeasible tree) = IsInfeasibleChoice decls target limit tree
IsChoice decls target limit (choice.Unfinished best tree) = IsUnfinishedChoice decls target limit best tree
IsChoice decls target limit (choice.Unbounded symbol) = IsUnbounded decls target symbol
IsChoice decls target limit (choice.Large what count) = IsLarge decls target what count

-- a count that is named can be printed
abbrev pub IsPrintable : Choice → Type 0
IsPrintable (choice.Large what count) = count < 2 ^ 127
IsPrintable _ = Unit {0}
