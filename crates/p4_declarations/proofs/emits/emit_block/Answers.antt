use Rattle.std.proofs.Common.{refl, rules}
use Rattle.spelling.proofs.ByParts.{around}
use Rattle.p4_declarations.proofs.emits.emit_block.Goals as goal

pub returns : goal.returns
returns c = around refl (λ inner old new r call. search rules) c.around.ensures
