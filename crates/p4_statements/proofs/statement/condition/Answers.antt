use Rattle.std.proofs.Common.{codes}
use Rattle.spelling.proofs.Bounds.{in_reserved}
use Rattle.p4_statements.proofs.Lines.{past}
use Rattle.spelling.proofs.ByParts.{behind_few}
use Rattle.spelling.proofs.Balance.{stays_reserved}
use Rattle.p4_statements.proofs.statement.condition.Goals as goal

pub returns : goal.returns
returns c = behind_few c.reserved.new.self (λ b m p. past c.args.depth m (stays_reserved (codes "if")) (in_reserved (codes "if")) p) c.in_ok-reserved.ensures.taken c.bracketed.ensures
