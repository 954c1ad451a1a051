use Rattle.std.proofs.Common.{◌≡◌, drop, map}
use Rattle.std.specs.List.{list_all}
use Rattle.elastic_ast.specs.Typing.Scope.{same}
use Rattle.expr_types.specs.Agreeing.{name_now}
use Rattle.expr_types.proofs.sizes.all_same.Given as goal

abbrev pub invariant-loop-size : goal.invariant-loop-size
invariant-loop-size l = list_all (same l.name) (map name_now (drop l.size-index l.sizes)) ≡ list_all (same l.name) (map name_now l.sizes)
