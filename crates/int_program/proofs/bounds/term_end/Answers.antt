use Rattle.std.proofs.Common.{arith, ap, ◌∙◌, sym}
use Rattle.std.proofs.lemmas.Int.{ints}
use Rattle.int_program.proofs.SumLaws.{term_small, times_back, least_term_up, most_term_down}
use Rattle.int_program.specs.Bounds.{term_end}
use Rattle.int_program.proofs.bounds.term_end.Goals as goal

pub returns-else-by-lt0-clause-value : goal.returns-else-by-lt0-clause-value
returns-else-by-lt0-clause-value c =
    let a = c.args in
    let back = times_back a.by a.low _ c.ranges.by c.ranges.low (term_small a.by a.low a.high c.requires.from_zero c.requires.nonempty) c.requires.small in
    back ∙ sym (ap (λ which. term_end which a.by a.low a.high) c.in-Least.is ∙ least_term_up a.by a.low a.high (omega (arith, ints)))

pub returns-else-by-lt0-clause-bound : goal.returns-else-by-lt0-clause-bound
returns-else-by-lt0-clause-bound c =
    let a = c.args in
    let small = term_small a.by a.low a.high c.requires.from_zero c.requires.nonempty in
    rw (times_back a.by a.low _ c.ranges.by c.ranges.low small c.requires.small) small

pub returns-then-by-lt0-2-clause-value : goal.returns-then-by-lt0-2-clause-value
returns-then-by-lt0-2-clause-value c =
    let a = c.args in
    let back = times_back a.by a.low _ c.ranges.by c.ranges.low (term_small a.by a.low a.high c.requires.from_zero c.requires.nonempty) c.requires.small in
    back ∙ sym (ap (λ which. term_end which a.by a.low a.high) c.in-Most.is ∙ most_term_down a.by a.low a.high (omega (arith, ints)))

pub returns-then-by-lt0-2-clause-bound : goal.returns-then-by-lt0-2-clause-bound
returns-then-by-lt0-2-clause-bound c =
    let a = c.args in
    let small = term_small a.by a.low a.high c.requires.from_zero c.requires.nonempty in
    rw (times_back a.by a.low _ c.ranges.by c.ranges.low small c.requires.small) small
