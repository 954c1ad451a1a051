-- How the count of faults moves in a call of a shelf or a sink. This project's own.
use Rattle.std.specs.Prelude.{◌≡◌, ◌⊎◌, ℕ, ◌+◌, ◌-◌, ◌^◌, ◌<◌, ◌≤◌, min, Bool, true, false, Result, Ok, Err}
use Rattle.elx_io.specs.declared.shelf.ShelfErr.{ShelfErr}
use Rattle.elx_io.specs.declared.shelf.ShelfErr.TheVariants as shelf_err
use Rattle.elx_io.specs.declared.sink.SinkErr.{SinkErr}
use Rattle.elx_io.specs.declared.sink.SinkErr.TheVariants as sink_err

-- the last value of a counter of 64 bits, where it stops
abbrev pub last_count : ℕ
last_count = 2 ^ 64 - 1

-- such a counter after one more
abbrev pub counted : ℕ → ℕ
counted count = min (count + 1) last_count

-- a count rose: it is greater than before, or stands at the last value of a counter
abbrev pub Rose : ℕ → ℕ → Type 0
Rose before now = (before < now) ⊎ (now ≡ last_count)

-- a call of a shelf answers `Failed` only where the count rose in it, and every other answer leaves the count
abbrev pub ShelfCounts : {T : Type 0} → ℕ → ℕ → Result T ShelfErr → Type 0
ShelfCounts before now (Ok _) = now ≡ before
ShelfCounts before now (Err shelf_err.Failed) = (before ≤ now) × Rose before now
ShelfCounts before now (Err shelf_err.Memory) = now ≡ before

-- the same for a call of a sink
abbrev pub SinkCounts : {T : Type 0} → ℕ → ℕ → Result T SinkErr → Type 0
SinkCounts before now (Ok _) = now ≡ before
SinkCounts before now (Err sink_err.Failed) = (before ≤ now) × Rose before now
SinkCounts before now (Err sink_err.Memory) = now ≡ before

-- a fault is counted, or none
abbrev pub FaultCounts : ℕ → ℕ → Bool → Type 0
FaultCounts before now true = (now ≡ counted before) × (before ≤ now) × Rose before now
FaultCounts before now false = now ≡ before

-- a call of a shelf answers `Failed` exactly where a fault is counted in it
abbrev pub ShelfCountsEach : {T : Type 0} → ℕ → ℕ → Result T ShelfErr → Type 0
ShelfCountsEach before now (Ok _) = FaultCounts before now false
ShelfCountsEach before now (Err shelf_err.Failed) = FaultCounts before now true
ShelfCountsEach before now (Err shelf_err.Memory) = FaultCounts before now false

-- the same for a call of a sink
abbrev pub SinkCountsEach : {T : Type 0} → ℕ → ℕ → Result T SinkErr → Type 0
SinkCountsEach before now (Ok _) = FaultCounts before now false
SinkCountsEach before now (Err sink_err.Failed) = FaultCounts before now true
SinkCountsEach before now (Err sink_err.Memory) = FaultCounts before now false
