use Rattle.std.proofs.Common.{codes, refl, rules}
use Rattle.spelling.proofs.Only.{no_sign}
use Rattle.spelling.proofs.Series.{in_series, reads_before}
use Rattle.p4_declarations.proofs.gains.pairs.Goals as goal

pub returns : goal.returns
returns c =
    in_series {Part = λ ws. Unit {0}} record {
      at_sign = λ ws at. tt;
      at_end = λ ws ends. tt;
      no_sign = λ ws ends at. no_sign (codes "}") (codes ",") ws refl ends at;
    } (λ old new r call. reads_before (search rules)) c.separated.ensures
