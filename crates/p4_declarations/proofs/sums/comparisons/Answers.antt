use Rattle.std.proofs.Common.{codes, refl, rules}
use Rattle.p4_declarations.specs.GoesOn.{sum_signs}
use Rattle.spelling.proofs.Only.{ends_sign}
use Rattle.spelling.proofs.Series.{in_series}
use Rattle.p4_declarations.proofs.sums.comparisons.Goals as goal

pub returns : goal.returns
returns c =
    in_series record {
      at_sign = λ ws at. ends_sign sum_signs (codes "&&") ws refl at;
      at_end = λ ws ends. (ends.0, (ends.1.0, (ends.1.1.0, tt)));
      no_sign = λ ws ends at. ends.1.1.1.0 at;
    } (λ old new r call. search rules) c.separated.ensures
