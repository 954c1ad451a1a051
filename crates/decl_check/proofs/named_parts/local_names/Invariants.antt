use Rattle.std.proofs.Common.{◌≡◌, ◌++◌, drop, map}
use Rattle.elastic_ast.specs.Typing.Demand.{first_broken}
use Rattle.elastic_ast.specs.Typing.AskedOfNames.{asks_names}
use Rattle.elastic_ast.specs.Typing.AskedInLocals.{local_name}
use Rattle.program_names.specs.LocalParts.{seen_locals, name_of_local}
use Rattle.decl_check.specs.NamedParts.{names_break}
use Rattle.decl_check.proofs.named_parts.local_names.Given as goal

abbrev pub invariant-loop-local : goal.invariant-loop-local
invariant-loop-local l =
    (l.names ++ map name_of_local (drop l.local-index l.locals) ≡ map name_of_local l.locals)
    × (first_broken l.allow_reserved (asks_names l.names (map local_name (seen_locals (drop l.local-index l.locals)))) ≡ names_break l.allow_reserved (map local_name (seen_locals l.locals)))
