use Rattle.std.proofs.lemmas.Result.{IfOk-weaker}
use Rattle.spelling.proofs.Only.{after_one}
use Rattle.spelling.proofs.Taking.{takes_both}
use Rattle.p4_expr.proofs.pieces.hash_end.Goals as goal

pub returns : goal.returns
returns c =
    record {
      taken = IfOk-weaker c.amount_before.result _ _ (λ modulus t. takes_both c.in_ok-sign.ensures.taken t) c.amount_before.ensures.taken;
      only = λ modulus rest m. c.amount_before.ensures.only modulus rest (after_one m c.in_ok-sign.ensures.taken);
      shallow = c.amount_before.ensures.shallow;
    }
