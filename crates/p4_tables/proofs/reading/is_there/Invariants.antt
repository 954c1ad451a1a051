use Rattle.std.proofs.Common.{◌≢◌, All, map, take}
use Rattle.p4_tables.specs.Seen.{seen_part}
use Rattle.p4_tables.specs.Tables.{kind_of}
use Rattle.p4_tables.proofs.reading.is_there.Given as goal

abbrev pub invariant-loop-part : goal.invariant-loop-part
invariant-loop-part l = All (λ one. kind_of one ≢ l.kind) (map seen_part (take l.part-index l.parts))
