use Rattle.std.proofs.Common.{◌≡◌, take}
use Rattle.elastic_ast.specs.Seen.{seen_exprs}
use Rattle.unit_parts.proofs.copies.copy_exprs.Given as goal

abbrev pub invariant-loop-expr : goal.invariant-loop-expr
invariant-loop-expr l = seen_exprs l.copies ≡ seen_exprs (take l.expr-index l.exprs)
