use Rattle.std.proofs.Common.{codes, refl, rules}
use Rattle.p4_tables.specs.GoesOn.{set_signs}
use Rattle.spelling.specs.Reading.{Ends}
use Rattle.spelling.proofs.Only.{ends_sign}
use Rattle.spelling.proofs.Series.{in_series_seen}
use Rattle.p4_tables.proofs.sets.set_list.Goals as goal

pub returns : goal.returns
returns c =
    in_series_seen {Part = Ends set_signs}
    record { at_sign = λ ws at. ends_sign set_signs (codes ",") ws refl at; at_end = λ ws ends. (ends.0, tt); no_sign = λ ws ends at. ends.1.0 at }
    (λ old new r call. search rules) c.separated.ensures
