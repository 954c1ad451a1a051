use Rattle.spelling.proofs.Only.{after_one, same_end, same_name}
use Rattle.spelling.proofs.Taking.{takes_both}
use Rattle.p4_parser.proofs.actions.index_name.Goals as goal

pub returns : goal.returns
returns c =
    record {
      taken = takes_both c.in_ok-reserved.ensures.taken c.in_ok-name.ensures.taken;
      only = λ name rest m. let m1 = after_one m c.in_ok-reserved.ensures.taken in (same_name m1 c.in_ok-name.ensures.taken, same_end m1 c.in_ok-name.ensures.taken);
      shallow = tt;
    }
