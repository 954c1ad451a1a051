use Rattle.std.proofs.Common.{ap, ◌∙◌}
use Rattle.elastic_ast.specs.Seen.{seen_expr}
use Rattle.elastic_ast.proofs.SeenLaws.{seen_expr-binary}
use Rattle.elastic_ast.specs.Tree.{PlainExpr}
use Rattle.p4_expr.proofs.pieces.binary.Goals as goal

pub returns-clause-made : goal.returns-clause-made
returns-clause-made c =
    seen_expr-binary c.args.op c.in_ok-left.left c.in_ok-right.right
    ∙ ap (λ e. PlainExpr.Binary c.args.op (seen_expr e) (seen_expr c.in_ok-right.right.value)) c.in_ok-left.ensures.made
    ∙ ap (λ e. PlainExpr.Binary c.args.op (seen_expr c.args.left) (seen_expr e)) c.in_ok-right.ensures.made
