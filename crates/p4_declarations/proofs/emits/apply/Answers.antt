use Rattle.std.proofs.Common.{codes}
use Rattle.spelling.proofs.Balance.{stays_named}
use Rattle.spelling.proofs.ByParts.{behind_word}
use Rattle.p4_declarations.proofs.emits.apply.Goals as goal

pub returns : goal.returns
returns c = behind_word c.fixed_name.new.self (stays_named (codes "apply")) c.in_ok-fixed_name.ensures.taken c.emit_block.ensures
