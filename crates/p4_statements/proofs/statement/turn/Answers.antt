use Rattle.spelling.proofs.Only.{after_one, named_same, same_end, same_name}
use Rattle.std.proofs.Common.{ap, ◌∙◌}
use Rattle.spelling.proofs.Taking.{takes_both}
use Rattle.p4_statements.proofs.statement.turn.Goals as goal

pub returns : goal.returns
returns c =
    record {
      taken = takes_both c.in_ok-index.ensures.taken (takes_both c.in_ok-sign.ensures.taken c.in_ok-size.ensures.taken);
      only = λ turn rest m.
          let m2 = after_one (after_one m c.in_ok-index.ensures.taken) c.in_ok-sign.ensures.taken in
          (ap (λ n. (n, c.in_ok-size.size)) (named_same m c.in_ok-index.ensures.taken) ∙ ap (λ n. (turn.0, n)) (same_name m2 c.in_ok-size.ensures.taken), same_end m2 c.in_ok-size.ensures.taken);
      shallow = tt;
    }
