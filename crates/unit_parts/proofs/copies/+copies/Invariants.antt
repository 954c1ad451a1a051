use Rattle.std.proofs.Common.{◌≡◌, take}
use Rattle.std.specs.Prelude.{map}
use Rattle.elastic_ast.specs.Seen.{seen_stmt}
use Rattle.unit_parts.proofs.copies.+copies.Given as goal

abbrev pub invariant-copy_stmts-loop-stmt : goal.invariant-copy_stmts-loop-stmt
invariant-copy_stmts-loop-stmt l = map seen_stmt l.copies ≡ map seen_stmt (take l.stmt-index l.stmts)
