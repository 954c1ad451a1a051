use Rattle.std.proofs.Common.{rules}
use Rattle.spelling.proofs.Taking.{takes_both}
use Rattle.p4_expr.proofs.IndexEnds.{read_exactly}
use Rattle.p4_expr.proofs.parts.std_place.Goals as goal

pub returns : goal.returns
returns c = λ depth. read_exactly _ (takes_both c.in_ok-fixed_name.ensures.taken (takes_both c.in_ok-sign.ensures.taken c.in_ok-name.ensures.taken)) (search rules)
