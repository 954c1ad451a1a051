use Rattle.std.proofs.Common.{◌≡◌, ◌+◌, drop}
use Rattle.elastic_ast.specs.Typing.LookUps.{bits_of_fields}
use Rattle.unit_flow.proofs.header.bits_of_fields.Given as goal

abbrev pub invariant-loop-field : goal.invariant-loop-field
invariant-loop-field l = l.bits + bits_of_fields (drop l.field-index l.fields) ≡ bits_of_fields l.fields
