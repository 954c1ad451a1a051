use Rattle.std.proofs.Common.{◌≡◌, drop}
use Rattle.elastic_ast.specs.Typing.Asked.{asks_width}
use Rattle.stmt_check.specs.PlaceRules.{each_breaks}
use Rattle.decl_check.proofs.parts.check_field_widths.Given as goal

abbrev pub invariant-loop-field : goal.invariant-loop-field
invariant-loop-field l = each_breaks l.allow_reserved asks_width (drop l.field-index l.fields) ≡ each_breaks l.allow_reserved asks_width l.fields
