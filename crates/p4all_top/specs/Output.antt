-- What a put of the lines of an outcome does; this project's own.
use Rattle.std.specs.Prelude.{◌≡◌, ℕ, ◌≤◌, List, Option}
use Rattle.elx_io.specs.Appends.{Appends, AppendsFront}
use Rattle.elx_io.specs.Counts.{Rose}
use Rattle.p4all_top.specs.declared.status.Status.{Status}
use Rattle.p4all_top.specs.declared.status.Status.TheVariants as status

-- a put of lines shows them whole, or a front of them, and gives the status
abbrev pub IsShown : List ℕ → Status → Status → Option (List ℕ) → Option (List ℕ) → Type 0
IsShown lines ended status.Fault before now = AppendsFront lines before now
IsShown lines ended status.Memory before now = AppendsFront lines before now
IsShown lines ended shown before now = (shown ≡ ended) × Appends lines before now

-- the count of faults rose where a fault is the status, and stays else
abbrev pub StatusCounts : ℕ → ℕ → Status → Type 0
StatusCounts before now status.Fault = (before ≤ now) × Rose before now
StatusCounts before now _ = now ≡ before
