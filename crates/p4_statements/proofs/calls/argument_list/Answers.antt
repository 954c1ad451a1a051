use Rattle.p4_expr.specs.Expressions.{HasFewOperators}
use Rattle.spelling.proofs.Only.{not_there}
use Rattle.elastic_ast.specs.Seen.{seen_exprs}
use Rattle.p4_statements.proofs.Arguments.{no_args, some_args, take_commas}
use Rattle.spelling.proofs.Taking.{may_empty}
use Rattle.std.proofs.lemmas.List.Elements.{All-nil}
use Rattle.std.proofs.lemmas.Result.{IfOk-weaker}
use Rattle.std.proofs.Common.{refl}
use Rattle.p4_statements.proofs.calls.argument_list.Goals as goal

pub returns-then-is_at_sign : goal.returns-then-is_at_sign
returns-then-is_at_sign c =
    rw c.new.ensures
    record { taken = may_empty; few = All-nil HasFewOperators; only = λ more args rest m ends. no_args more args m (c.if-is_at_sign.ensures.0 refl); deep = tt }

pub returns : goal.returns
returns c =
    let r = c.expressions.ensures in
    record {
      taken = IfOk-weaker c.expressions.result _ _ (λ args t. take_commas c.args.depth (seen_exprs args) t) r.taken;
      few = r.few;
      only = λ more args rest m ends. r.only more args rest (some_args more args m ends (not_there c.if-is_at_sign.ensures.1)) ends;
      deep = r.deep;
    }
