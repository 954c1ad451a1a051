-- The answer of each command: for what the files that it reads hold, the status that it ends with, the files that it sets
-- and the text that it prints, with the cause; this project's own.
use Rattle.std.specs.Prelude.{◌≡◌, ◌⊎◌, ℕ, List, [], ◌∷◌, slice_get, Option, Some}
use Rattle.elastic_ast.specs.Tree.{Name, PlainProgram}
use Rattle.elastic_ast.specs.Sizes.SizeSums.{symbols_of}
use Rattle.elastic_ast.specs.Units.UnitsOf.{OpsFit, units_of}
use Rattle.target_desc.specs.declared.target.Target.{Target}
use Rattle.unroll_bound.specs.declared.unit_bounds.What.{What}
use Rattle.p4all_top.specs.declared.parsing.Refusal.{Refusal}
use Rattle.p4all_top.specs.declared.status.Status.{Status}
use Rattle.p4all_top.specs.declared.status.Status.TheVariants as status
use Rattle.cert_text.specs.declared.claim.Claim.{Claim}
use Rattle.int_program.specs.declared.program.Tree.{Tree}
use Rattle.size_search.specs.declared.choosing.Placed.{Placed}
use Rattle.size_search.specs.Choice.{known_of, IsBestChoice, IsInfeasibleChoice, IsUnfinishedChoice, IsUnbounded, IsLarge}
use Rattle.unit_flow.specs.TooLarge.{IsFirstAbove}
use Rattle.p4all_top.specs.Command.{Command, Size}
use Rattle.p4all_top.specs.Description.{IsDescription, IsTargetRefused}
use Rattle.p4all_top.specs.Limits.{size_splits}
use Rattle.p4all_top.specs.Unfinished.{IsUnfinishedClaim, unfinished_text}
use Rattle.p4all_top.specs.Printed.{sizes_text, infeasible_text, unit_text, unbounded_text, large_text, refusal_text}
use Rattle.p4all_top.specs.Source.{IsSource, IsSourceRefused}

-- the source is taken, with this program, and so is the description, with this target
pub record AreTaken (source target : List ℕ) (decls : PlainProgram) (on : Target) : Type 0 where
  pub source_is : IsSource source decls
  pub target_is : IsDescription target on

-- best: the lines show feasible sizes that no feasible ones exceed in utility, and their utility
pub record PrintsBest (source target printed : List ℕ) : Type 0 where
  pub decls : PlainProgram
  pub on : Target
  pub taken : AreTaken source target decls on
  pub fits : OpsFit decls on.ops
  pub placed : Placed
  pub tree : Tree
  pub best : IsBestChoice decls on size_splits placed tree
  pub lines : printed ≡ sizes_text (symbols_of decls) placed.sizes.values placed.utility

-- infeasible: the line says that no sizes are feasible, and none are
pub record PrintsInfeasible (source target printed : List ℕ) : Type 0 where
  pub decls : PlainProgram
  pub on : Target
  pub taken : AreTaken source target decls on
  pub fits : OpsFit decls on.ops
  pub tree : Tree
  pub none : IsInfeasibleChoice decls on size_splits tree
  pub line : printed ≡ infeasible_text

-- unfinished: the lines show how many splits were made, the greatest utility that was found, and the certificate of this
pub record PrintsUnfinished (source target printed : List ℕ) : Type 0 where
  pub decls : PlainProgram
  pub on : Target
  pub taken : AreTaken source target decls on
  pub fits : OpsFit decls on.ops
  pub best : Option Placed
  pub tree : Tree
  pub unfinished : IsUnfinishedChoice decls on size_splits best tree
  pub claim : Claim
  pub claimed : IsUnfinishedClaim (symbols_of decls) best claim
  pub lines : printed ≡ unfinished_text size_splits (known_of best) claim tree

-- a unit is too large: the line names the first unit of the program that has more operators than the target allows, and how many
-- it has
pub record RefusesUnit (source target printed : List ℕ) : Type 0 where
  pub decls : PlainProgram
  pub on : Target
  pub taken : AreTaken source target decls on
  pub unit : ℕ
  pub ops : ℕ
  pub first : IsFirstAbove (units_of decls) on.ops unit ops
  pub line : printed ≡ unit_text unit ops

-- unbounded: the line names the first symbol that has no bound
pub record RefusesUnbounded (source target printed : List ℕ) : Type 0 where
  pub decls : PlainProgram
  pub on : Target
  pub taken : AreTaken source target decls on
  pub fits : OpsFit decls on.ops
  pub place : ℕ
  pub unbounded : IsUnbounded decls on place
  pub symbol : Name
  pub named : slice_get (symbols_of decls) place ≡ Some symbol
  pub line : printed ≡ unbounded_text symbol

-- large: the symbols have bounds, and the line names what is too large at them, with its number
pub record RefusesLarge (source target printed : List ℕ) : Type 0 where
  pub decls : PlainProgram
  pub on : Target
  pub taken : AreTaken source target decls on
  pub fits : OpsFit decls on.ops
  pub what : What
  pub count : ℕ
  pub large : IsLarge decls on what count
  pub line : printed ≡ large_text what count

-- the line refuses the source, which isn't taken for this cause
pub record RefusesSource (source printed : List ℕ) : Type 0 where
  pub why : Refusal
  pub cause : IsSourceRefused source why
  pub line : printed ≡ refusal_text why

-- the source is taken, and the line refuses the description, which isn't taken for this cause
pub record RefusesTarget (source target printed : List ℕ) : Type 0 where
  pub decls : PlainProgram
  pub source_is : IsSource source decls
  pub why : Refusal
  pub cause : IsTargetRefused target why
  pub line : printed ≡ refusal_text why

-- the answer of each command, by its status. `size` sets no file
abbrev pub Answer : Command → List (List ℕ) → Status → List (List ℕ × List ℕ) → List ℕ → Type 0
Answer (Size _ _) (source ∷ target ∷ []) status.Done set printed = (set ≡ []) × PrintsBest source target printed
Answer (Size _ _) (source ∷ target ∷ []) status.Infeasible set printed = (set ≡ []) × PrintsInfeasible source target printed
Answer (Size _ _) (source ∷ target ∷ []) status.Unfinished set printed = (set ≡ []) × PrintsUnfinished source target printed
Answer (Size _ _) (source ∷ target ∷ []) status.Refused set printed =
    (set ≡ [])
    × (RefusesSource source printed ⊎ RefusesTarget source target printed ⊎ RefusesUnit source target printed ⊎ RefusesUnbounded source target printed ⊎ RefusesLarge source target printed)
Answer (Size _ _) _ _ set printed = ⊥
