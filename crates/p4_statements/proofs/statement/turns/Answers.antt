use Rattle.spelling.proofs.InLines.{around_line, behind_line}
use Rattle.std.proofs.Common.{codes, refl, rules}
use Rattle.spelling.proofs.Bounds.{in_reserved, in_sign}
use Rattle.spelling.specs.Readers.{itself}
use Rattle.p4_statements.specs.Statements.{SpellsTurn}
use Rattle.spelling.proofs.Balance.{stays_reserved}
use Rattle.p4_statements.proofs.statement.turns.Goals as goal

pub returns : goal.returns
returns c =
    behind_line c.reserved.new.self (stays_reserved (codes "for")) (in_reserved (codes "for")) c.in_ok-reserved.ensures.taken
    (around_line {Of = SpellsTurn} {seen = itself} refl (in_sign (codes "(") refl refl refl) (λ inner old new r call. search rules) c.around.ensures)
