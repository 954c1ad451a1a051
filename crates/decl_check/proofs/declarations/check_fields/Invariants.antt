use Rattle.std.proofs.Common.{◌≡◌, drop}
use Rattle.std.specs.Prelude.{flat_map}
use Rattle.elastic_ast.specs.Typing.Demand.{first_broken}
use Rattle.elastic_ast.specs.Typing.Asked.{asks_field}
use Rattle.expr_types.specs.Scoped.{before_of}
use Rattle.decl_check.proofs.declarations.check_fields.Given as goal

abbrev pub invariant-loop-field : goal.invariant-loop-field
invariant-loop-field l = first_broken l.allow_reserved (flat_map (asks_field (before_of l.scope)) (drop l.field-index l.fields)) ≡ first_broken l.allow_reserved (flat_map (asks_field (before_of l.scope)) l.fields)
