use Rattle.std.proofs.Common.{◌≡◌, drop}
use Rattle.std.specs.Prelude.{flat_map}
use Rattle.elastic_ast.specs.Typing.Demand.{first_broken}
use Rattle.elastic_ast.specs.Typing.Asked.{asks_util}
use Rattle.expr_types.specs.Scoped.{before_of}
use Rattle.decl_check.proofs.declarations.check_utility.Given as goal

abbrev pub invariant-loop-term : goal.invariant-loop-term
invariant-loop-term l = first_broken l.allow_reserved (flat_map (asks_util (before_of l.scope)) (drop l.term-index l.terms)) ≡ first_broken l.allow_reserved (flat_map (asks_util (before_of l.scope)) l.terms)
