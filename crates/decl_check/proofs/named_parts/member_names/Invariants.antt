use Rattle.std.proofs.Common.{◌≡◌, ◌++◌, drop, map}
use Rattle.elastic_ast.specs.Typing.Demand.{first_broken}
use Rattle.elastic_ast.specs.Typing.AskedOfNames.{asks_names}
use Rattle.elastic_ast.specs.Typing.LookUps.{member_name}
use Rattle.decl_check.specs.NamedParts.{names_break}
use Rattle.decl_check.proofs.named_parts.member_names.Given as goal

abbrev pub invariant-loop-member : goal.invariant-loop-member
invariant-loop-member l =
    (l.names ++ map member_name (drop l.member-index l.members) ≡ map member_name l.members)
    × (first_broken l.allow_reserved (asks_names l.names (map member_name (drop l.member-index l.members))) ≡ names_break l.allow_reserved (map member_name l.members))
