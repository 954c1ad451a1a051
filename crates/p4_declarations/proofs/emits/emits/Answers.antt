use Rattle.std.proofs.Common.{codes, rules}
use Rattle.p4_declarations.proofs.Emitting.{emit_no_sign}
use Rattle.p4_declarations.proofs.FlatWithin.{emit_stays}
use Rattle.spelling.proofs.ByParts.{up_to}
use Rattle.p4_declarations.proofs.emits.emits.Goals as goal

pub returns : goal.returns
returns c = up_to record { none = λ more one later a b m at. emit_no_sign more one (codes "}") m at } (emit_stays c.args.depth) (λ old new r call. search rules) c.until_closed.ensures
