-- What stops a run, and how the count of faults moves in a step that may be stopped; this project's own.
use Rattle.std.specs.Prelude.{◌≡◌, ℕ, ◌≤◌, Result, Ok, Err}
use Rattle.elx_io.specs.Counts.{Rose}
use Rattle.elx_io.specs.declared.shelf.ShelfErr.{ShelfErr}
use Rattle.elx_io.specs.declared.shelf.ShelfErr.TheVariants as shelf_err
use Rattle.p4all_top.specs.declared.status.Status.{Status}
use Rattle.p4all_top.specs.declared.status.Status.TheVariants as status
use Rattle.p4all_top.specs.declared.stopping.Stop.{Stop}
use Rattle.p4all_top.specs.declared.stopping.Stop.TheVariants as stop

-- a step is stopped by a fault only where the count rose in it, and leaves the count else
abbrev pub StopCounts : {T : Type 0} → ℕ → ℕ → Result T Stop → Type 0
StopCounts before now (Ok _) = now ≡ before
StopCounts before now (Err stop.Fault) = (before ≤ now) × Rose before now
StopCounts before now (Err stop.Memory) = now ≡ before

-- what an error of the shelf stops a run by
abbrev pub stop_of : ShelfErr → Stop
stop_of shelf_err.Failed = stop.Fault
stop_of shelf_err.Memory = stop.Memory

-- a run ended by itself: neither a fault nor want of memory stopped it
abbrev pub IsEnd : Status → Type 0
IsEnd status.Memory = ⊥
IsEnd status.Fault = ⊥
IsEnd _ = Unit {0}

-- a fault or want of memory stopped the run
abbrev pub IsStop : Status → Type 0
IsStop status.Memory = Unit {0}
IsStop status.Fault = Unit {0}
IsStop _ = ⊥

-- the status of a run that was stopped
abbrev pub stopped_status : Stop → Status
stopped_status stop.Fault = status.Fault
stopped_status stop.Memory = status.Memory
