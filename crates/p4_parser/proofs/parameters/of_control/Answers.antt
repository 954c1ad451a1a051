use Rattle.std.proofs.lemmas.Result.{on_ok_weaker}
use Rattle.spelling.proofs.Only.{after_one}
use Rattle.spelling.proofs.Taking.{takes_both}
use Rattle.p4_parser.proofs.parameters.of_control.Goals as goal

pub returns : goal.returns
returns c = record {
  taken = on_ok_weaker c.of_both.result (λ last. takes_both c.in_ok-reserved.ensures.taken last) c.of_both.ensures.taken;
  only = λ x rest m. c.of_both.ensures.only tt rest (after_one m c.in_ok-reserved.ensures.taken);
  shallow = c.of_both.ensures.shallow;
}
