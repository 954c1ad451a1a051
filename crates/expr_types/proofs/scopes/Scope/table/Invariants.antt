use Rattle.std.proofs.Common.{◌≡◌, drop}
use Rattle.elastic_ast.specs.Typing.Scope.{found}
use Rattle.elastic_ast.specs.Typing.LookUps.{table_of}
use Rattle.expr_types.specs.Scoped.{before_of}
use Rattle.expr_types.specs.ProgramParts.{table_at}
use Rattle.expr_types.proofs.scopes.Scope.table.Given as goal

abbrev pub invariant-loop-number : goal.invariant-loop-number
invariant-loop-number l = found (table_at l.fn.self l.fn.name) (drop l.number-index l.numbers) ≡ table_of (before_of l.fn.self) l.fn.name
