-- The exit code of each status; this project's own.
use Rattle.std.specs.Prelude.{ℕ}
use Rattle.p4all_top.specs.declared.status.Status.{Status}
use Rattle.p4all_top.specs.declared.status.Status.TheVariants as status

abbrev pub status_code : Status → ℕ
status_code status.Done = 0
status_code status.Refused = 1
status_code status.Words = 2
status_code status.Infeasible = 3
status_code status.Unfinished = 4
status_code status.Memory = 5
status_code status.Fault = 6
status_code status.No = 7
