use Rattle.std.proofs.Common.{◌≡◌, drop}
use Rattle.elastic_ast.specs.Seen.{seen_stmts}
use Rattle.elastic_ast.specs.Typing.NamedRegisters.{body_registers}
use Rattle.register_uses.specs.Summaries.{both, plain_summary, summed}
use Rattle.register_uses.proofs.summary.of_body.Given as goal

abbrev pub invariant-loop-stmt : goal.invariant-loop-stmt
invariant-loop-stmt l = both (plain_summary l.summary) (summed (body_registers (seen_stmts (drop l.stmt-index l.body)))) ≡ summed (body_registers (seen_stmts l.body))
