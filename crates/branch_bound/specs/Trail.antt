-- The places that are still open, as a search keeps them: the box where a line is written, and the steps that led to it, the last one
-- first; this project's own.
use Rattle.std.specs.Prelude.{ℕ, ◌<◌, List, [], ◌∷◌, Option, Some, None}
use Rattle.std.specs.List.{AllByRecursion}
use Rattle.int_program.specs.declared.program.IpBox.{IpBox}
use Rattle.int_program.specs.declared.program.Place.{Place}
use Rattle.int_program.specs.Accepts.{with_ends}
use Rattle.int_program.specs.Places.{place}
use Rattle.branch_bound.specs.declared.open.Step.{Step}
use Rattle.branch_bound.specs.declared.open.Step.TheVariants.{Changed, Waits}

-- the places that wait behind a box
abbrev pub behind : IpBox → List Step → List Place
behind b [] = []
behind b (Changed v ends ∷ steps) = behind (with_ends b v ends) steps
behind b (Waits v ends ∷ steps) = place (with_ends b v ends) 0 ∷ behind b steps

-- the open places: the one where a line is written, and those behind it
abbrev pub open_places : Option Place → List Step → List Place
open_places None steps = []
open_places (Some p) steps = p ∷ behind p.within steps

-- the variable of a step is one of so many
abbrev pub IsStepOf : ℕ → Step → Type 0
IsStepOf n (Changed v ends) = v < n
IsStepOf n (Waits v ends) = v < n

abbrev pub AreStepsOf : ℕ → List Step → Type 0
AreStepsOf n steps = AllByRecursion (IsStepOf n) steps
