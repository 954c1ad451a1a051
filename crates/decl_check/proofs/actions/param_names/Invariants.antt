use Rattle.std.proofs.Common.{◌≡◌, ◌++◌, drop, map, []}
use Rattle.elastic_ast.specs.Typing.AskedInLocals.{param_name}
use Rattle.decl_check.specs.NamedParts.{behind, params_break}
use Rattle.decl_check.proofs.actions.param_names.Given as goal

abbrev pub invariant-loop-param : goal.invariant-loop-param
invariant-loop-param l =
    (l.names ++ map param_name (drop l.param-index l.params) ≡ map param_name l.params)
    × (params_break l.allow_reserved (behind l.index l.names) (drop l.param-index l.params) ≡ params_break l.allow_reserved (behind l.index []) l.params)
