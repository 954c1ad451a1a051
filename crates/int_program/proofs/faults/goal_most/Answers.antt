use Rattle.std.proofs.Common.{◌≡◌, ◌≤◌, ◌+ℤ◌, rules, FitsSigned, unsigned_abs, ap, ◌∙◌}
use Rattle.std.specs.Int.{w128}
use Rattle.int_program.specs.Bounds.{most_of}
use Rattle.int_program.specs.Limits.{weight}
use Rattle.int_program.proofs.InsideLaws.{goal_inside, small_inside}
use Rattle.int_program.proofs.FaultLaws.{sum_fits, sum_is}
use Rattle.int_program.proofs.faults.goal_most.Goals as goal

pub most-requires-clause-small : goal.most-requires-clause-small
most-requires-clause-small c = rw c.as_slice.ensures (goal_inside c.args.ip.now c.args.within.now c.requires.limits c.requires.inside)

pub overflow_add-result : goal.overflow_add-result
overflow_add-result c =
    let f : FitsSigned w128 c.most.result = search rules in
    let g : FitsSigned w128 c.args.ip.now.base = search rules in
    let small = small_inside c.args.ip.now c.args.within.now c.args.ip.now.goal c.args.ip.now.base c.requires.inside c.requires.limits.goal in
    let bound : unsigned_abs c.most.result ≤ weight c.args.ip.now.goal c.args.within.now.high = rw c.as_slice.ensures at c.most.ensures.bound in
    sum_fits c.most.result c.args.ip.now.base _ f g bound small.small

pub returns : goal.returns
returns c =
    let f : FitsSigned w128 c.most.result = search rules in
    let g : FitsSigned w128 c.args.ip.now.base = search rules in
    let small = small_inside c.args.ip.now c.args.within.now c.args.ip.now.goal c.args.ip.now.base c.requires.inside c.requires.limits.goal in
    let bound : unsigned_abs c.most.result ≤ weight c.args.ip.now.goal c.args.within.now.high = rw c.as_slice.ensures at c.most.ensures.bound in
    let value : c.most.result ≡ most_of c.args.ip.now.goal c.args.within.now = rw c.as_slice.ensures at c.most.ensures.value in
    sum_is c.most.result c.args.ip.now.base _ f g bound small.small ∙ ap (λ z. z +ℤ c.args.ip.now.base) value
