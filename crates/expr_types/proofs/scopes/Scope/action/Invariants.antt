use Rattle.std.proofs.Common.{◌≡◌, drop}
use Rattle.elastic_ast.specs.Typing.Scope.{found}
use Rattle.elastic_ast.specs.Typing.LookUps.{action_of}
use Rattle.expr_types.specs.Scoped.{before_of}
use Rattle.expr_types.specs.ProgramParts.{action_at}
use Rattle.expr_types.proofs.scopes.Scope.action.Given as goal

abbrev pub invariant-loop-number : goal.invariant-loop-number
invariant-loop-number l = found (action_at l.fn.self l.fn.name) (drop l.number-index l.numbers) ≡ action_of (before_of l.fn.self) l.fn.name
