-- How a run of a command must end, by what the files that it reads hold, unless want of memory or a fault ends it; this
-- project's own.
use Rattle.std.specs.Prelude.{◌≡◌, ◌≤◌, ◌<◌, ℕ, List, [], ◌∷◌, length}
use Rattle.elastic_ast.specs.declared.flat.At.{At}
use Rattle.elastic_ast.specs.Tree.{PlainProgram}
use Rattle.elastic_ast.specs.Units.UnitsOf.{OpsFit}
use Rattle.target_desc.specs.declared.target.Target.{Target}
use Rattle.p4all_top.specs.declared.status.Status.{Status}
use Rattle.p4all_top.specs.declared.status.Status.TheVariants as status
use Rattle.unroll_bound.specs.declared.unit_bounds.What.{What}
use Rattle.int_program.specs.Counting.{root_points}
use Rattle.size_search.specs.Choice.{AreBoundsOf, IsUnbounded, IsLarge, ip_of_program}
use Rattle.p4all_top.specs.Command.{Command, Size}
use Rattle.p4all_top.specs.Description.{IsDescription, IsNoDescription}
use Rattle.dep_graph.specs.Feasible.{Feasible}
use Rattle.p4all_top.specs.Limits.{most_source, size_splits}
use Rattle.dep_graph.specs.Optimum.{Infeasible}
use Rattle.p4all_top.specs.Source.{IsProgram, IsNoSource}

-- a run ends so, or for want of memory or by a fault
abbrev pub MustEnd : Status → Status → Type 0
MustEnd expected status.Memory = Unit {0}
MustEnd expected status.Fault = Unit {0}
MustEnd expected ended = ended ≡ expected

-- a run ends so, or unfinished where there are more points than splits, or for want of memory or by a fault
abbrev pub MustEndWithin : ℕ → Status → Status → Type 0
MustEndWithin points expected status.Unfinished = size_splits < points
MustEndWithin points expected ended = MustEnd expected ended

-- what a program and a target make of the end. Sizes are chosen where no unit has more operators than the target allows
pub record EndsOn (decls : PlainProgram) (on : Target) (ended : Status) : Type 0 where
  pub too_large : (OpsFit decls on.ops → ⊥) → MustEnd status.Refused ended
  pub unbounded : (place : ℕ) → IsUnbounded decls on place → MustEnd status.Refused ended
  pub large : (what : What) (count : ℕ) → IsLarge decls on what count → MustEnd status.Refused ended
  pub best : OpsFit decls on.ops → (bounds : List ℕ) → AreBoundsOf decls on bounds → (sizes : List ℕ) (placement : List At) → Feasible decls on sizes placement
      → MustEndWithin (root_points (ip_of_program decls on bounds)) status.Done ended
  pub none : OpsFit decls on.ops → (bounds : List ℕ) → AreBoundsOf decls on bounds → Infeasible decls on
      → MustEndWithin (root_points (ip_of_program decls on bounds)) status.Infeasible ended

-- what a source and a description make of it: each way to end comes wherever its cause is there
pub record EndsBy (source target : List ℕ) (ended : Status) : Type 0 where
  pub no_source : IsNoSource source → MustEnd status.Refused ended
  pub no_target : IsNoDescription target → MustEnd status.Refused ended
  pub both : (decls : PlainProgram) (on : Target) → length source ≤ most_source → IsProgram source decls → IsDescription target on → EndsOn decls on ended

-- the same of each command
abbrev pub MustEndOn : Command → List (List ℕ) → Status → Type 0
MustEndOn (Size _ _) (source ∷ target ∷ []) ended = EndsBy source target ended
MustEndOn (Size _ _) _ ended = ⊥
