use Rattle.std.proofs.Common.{false, [], sym, ap, ◌∙◌}
use Rattle.expr_types.specs.DeclaredNames.{name_rule}
use Rattle.expr_types.proofs.NameRules.{rule_is}
use Rattle.stmt_check.proofs.statements.check_index_name.Goals as goal

pub returns : goal.returns
returns c = c.broken_name.ensures ∙ ap (name_rule c.args.allow_reserved false) c.as_slice.ensures ∙ sym (rule_is c.args.allow_reserved [] c.args.index.now)
