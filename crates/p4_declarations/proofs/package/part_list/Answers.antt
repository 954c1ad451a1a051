use Rattle.std.proofs.Common.{refl, rules}
use Rattle.spelling.proofs.ByParts.{around_part}
use Rattle.p4_declarations.proofs.package.part_list.Goals as goal

pub returns : goal.returns
returns c = around_part refl (λ inner old new r call. search rules) c.around.ensures
