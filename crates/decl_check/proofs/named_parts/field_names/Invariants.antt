use Rattle.std.proofs.Common.{◌≡◌, ◌++◌, drop, map}
use Rattle.elastic_ast.specs.Typing.Demand.{first_broken}
use Rattle.elastic_ast.specs.Typing.AskedOfNames.{asks_names}
use Rattle.elastic_ast.specs.Typing.Asked.{field_name}
use Rattle.decl_check.specs.NamedParts.{names_break}
use Rattle.decl_check.proofs.named_parts.field_names.Given as goal

abbrev pub invariant-loop-field : goal.invariant-loop-field
invariant-loop-field l =
    (l.names ++ map field_name (drop l.field-index l.fields) ≡ map field_name l.fields)
    × (first_broken l.allow_reserved (asks_names l.names (map field_name (drop l.field-index l.fields))) ≡ names_break l.allow_reserved (map field_name l.fields))
