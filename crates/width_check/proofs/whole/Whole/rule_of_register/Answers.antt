use Rattle.std.proofs.Common.{rules}
use Rattle.width_check.proofs.whole.Whole.rule_of_register.Goals as goal

pub returns-then-is_unnamed : goal.returns-then-is_unnamed
returns-then-is_unnamed c = c.is_unnamed.ensures.0 (search rules)
