use Rattle.std.proofs.Common.{◌≡◌, drop}
use Rattle.std.specs.Prelude.{◌==◌, length}
use Rattle.elastic_ast.specs.Seen.{seen_stmts}
use Rattle.elastic_ast.specs.Typing.NamedRegisters.{body_registers}
use Rattle.decl_check.proofs.register_free.names_none.Given as goal

abbrev pub invariant-loop-stmt : goal.invariant-loop-stmt
invariant-loop-stmt l = (length (body_registers (seen_stmts (drop l.stmt-index l.body))) == 0) ≡ (length (body_registers (seen_stmts l.body)) == 0)
