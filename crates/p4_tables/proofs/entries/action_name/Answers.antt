use Rattle.spelling.proofs.Taking.{takes_both}
use Rattle.spelling.proofs.Only.{after_one, named_same, same_end}
use Rattle.p4_tables.proofs.entries.action_name.Goals as goal

pub returns : goal.returns
returns c =
    record {
      taken = takes_both c.in_ok-name.ensures.taken c.in_ok-sign.ensures.taken;
      only = λ name rest m. (named_same m c.in_ok-name.ensures.taken, same_end (after_one m c.in_ok-name.ensures.taken) c.in_ok-sign.ensures.taken);
      shallow = tt;
    }
