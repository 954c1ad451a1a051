use Rattle.std.proofs.Common.{drop}
use Rattle.unit_flow.specs.declared.header.HeaderBits.{HeaderBits}
use Rattle.unit_flow.specs.HeaderCounts.{CountsFields}
use Rattle.unit_flow.specs.Knowing.{known_decls}
use Rattle.unit_flow.proofs.header.add_fields.Given as goal

abbrev pub invariant-loop-field : goal.invariant-loop-field
invariant-loop-field l = (new : HeaderBits) → CountsFields (known_decls l.known) l.bits new (drop l.field-index l.fields) → CountsFields (known_decls l.known) l.initial.bits new l.fields
