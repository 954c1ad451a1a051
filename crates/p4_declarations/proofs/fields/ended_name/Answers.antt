use Rattle.std.proofs.Common.{rules}
use Rattle.spelling.proofs.Taking.{takes_both}
use Rattle.p4_declarations.proofs.fields.ended_name.Goals as goal

pub returns : goal.returns
returns c = record { taken = takes_both c.in_ok-name.ensures.taken c.in_ok-sign.ensures.taken; only = search rules; shallow = tt }
