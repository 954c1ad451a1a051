use Rattle.std.proofs.Common.{◌≡◌, ◌<◌, ◌+◌, ◌%◌, drop}
use Rattle.elastic_ast.specs.Typing.LookUps.{bits_of_fields}
use Rattle.decl_check.proofs.parts.bits_over.Given as goal

abbrev pub invariant-loop-field : goal.invariant-loop-field
invariant-loop-field l = record {
  small : l.bits < 8;
  rest : (l.bits + bits_of_fields (drop l.field-index l.fields)) % 8 ≡ bits_of_fields l.fields % 8;
}
