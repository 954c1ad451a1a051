use Rattle.std.proofs.lemmas.Result.{on_ok_weaker}
use Rattle.spelling.proofs.Only.{after_one}
use Rattle.spelling.proofs.Taking.{takes_both}
use Rattle.p4_parser.proofs.parameters.of_parser.Goals as goal

pub returns : goal.returns
returns c = record {
  taken = on_ok_weaker c.of_both.result (λ last. takes_both c.in_ok-fixed_name.ensures.taken (takes_both c.in_ok-fixed_name-2.ensures.taken (takes_both c.in_ok-sign.ensures.taken (takes_both c.in_ok-reserved.ensures.taken last)))) c.of_both.ensures.taken;
  only = λ x rest m.
      let m3 = after_one (after_one (after_one m c.in_ok-fixed_name.ensures.taken) c.in_ok-fixed_name-2.ensures.taken) c.in_ok-sign.ensures.taken in
      c.of_both.ensures.only tt rest (after_one m3 c.in_ok-reserved.ensures.taken);
  shallow = c.of_both.ensures.shallow;
}
