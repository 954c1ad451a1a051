use Rattle.std.proofs.Common.{◌≡◌, ℤ, pos, ◌+ℤ◌, ◌*ℤ◌, ◌+◌, get_or, drop, rules, arith, FitsSigned, to_z, of_z, ap, sym, ◌∙◌}
use Rattle.std.proofs.lemmas.Int.{ints, to_z-of_z, int_wrap_fits}
use Rattle.std.specs.Int.{int_wrap, w128}
use Rattle.int_program.specs.Sums.{at, sum_at}
use Rattle.int_program.specs.declared.program.Part.{Part}
use Rattle.int_program.proofs.SumLaws.{no_part}
use Rattle.branch_bound.proofs.ListLaws.{drop_more, drop_past}
use Rattle.branch_bound.proofs.WrapLaws.{sum_is}
use Rattle.branch_bound.proofs.states.lows_sum.Goals as goal

pub loop-part-init : goal.loop-part-init
loop-part-init c = ap (int_wrap w128) (omega (arith, ints))

pub loop-part-preserved : goal.loop-part-preserved
loop-part-preserved c =
    let part : Part = get_or c.args.parts.now c.loop-part.part-index no_part in
    let worth : ℤ = to_z w128 c.loop-part.worth-bits in
    let rest : ℤ = sum_at (drop (c.loop-part.part-index + 1) c.args.parts.now) c.args.low.now in
    sum_is worth (to_z w128 (of_z w128 c.sum-worth.result)) (to_z w128 (of_z w128 c.term_at.result)) (part.by *ℤ at c.args.low.now part.var) rest
    (to_z-of_z w128 c.sum-worth.result (search rules) ∙ c.sum-worth.ensures) (to_z-of_z w128 c.term_at.result (search rules) ∙ c.term_at.ensures)
    ∙ ap (λ ps. int_wrap w128 (worth +ℤ sum_at ps c.args.low.now)) (sym (drop_more c.args.parts.now c.loop-part.part-index no_part c.loop-part-test.true))
    ∙ c.loop-part.invariant

pub returns : goal.returns
returns c =
    let worth : ℤ = to_z w128 c.loop-part.worth-bits in
    let f : FitsSigned w128 worth = search rules in
    let none : sum_at (drop c.loop-part.part-index c.args.parts.now) c.args.low.now ≡ pos 0 = ap (λ ps. sum_at ps c.args.low.now) (drop_past c.args.parts.now c.loop-part.part-index c.loop-part-test.false) in
    sym (int_wrap_fits w128 worth f) ∙ ap (int_wrap w128) (omega (arith, ints, none)) ∙ c.loop-part.invariant
