use Rattle.std.proofs.Common.{◌≡◌, drop}
use Rattle.std.specs.Prelude.{flat_map}
use Rattle.elastic_ast.specs.Typing.Demand.{first_broken}
use Rattle.elastic_ast.specs.Typing.Asked.{asks_comp}
use Rattle.expr_types.specs.Scoped.{before_of}
use Rattle.decl_check.proofs.declarations.check_assume.Given as goal

abbrev pub invariant-loop-comp : goal.invariant-loop-comp
invariant-loop-comp l = first_broken l.allow_reserved (flat_map (asks_comp (before_of l.scope)) (drop l.comp-index l.comps)) ≡ first_broken l.allow_reserved (flat_map (asks_comp (before_of l.scope)) l.comps)
