use Rattle.std.proofs.Common.{ℤ, sym, subst, ◌≤ℤ◌, FitsSigned, rules}
use Rattle.std.proofs.lemmas.Int.{to_z-of_z}
use Rattle.std.specs.Int.{w128}
use Rattle.int_program.specs.Sums.{sum_at}
use Rattle.int_program.specs.Bounds.{IsReached}
use Rattle.int_program.proofs.BoundLaws.{most_reached, most_of_ge}
use Rattle.int_program.proofs.bounds.most.Goals as goal

pub returns-clause-reached : goal.returns-clause-reached
returns-clause-reached c =
    let small = c.requires.small in
    let f : FitsSigned w128 c.sum_end.result = search rules in
    simp to_z-of_z (subst (IsReached c.args.goal.now c.args.within.now) (sym c.sum_end.ensures.value) (most_reached c.args.goal.now c.args.within.now c.requires.nonempty small.rising small.vars))

pub returns-clause-none_above : goal.returns-clause-none_above
returns-clause-none_above c x i =
    let f : FitsSigned w128 c.sum_end.result = search rules in
    simp to_z-of_z (subst (λ (z : ℤ). sum_at c.args.goal.now x ≤ℤ z) (sym c.sum_end.ensures.value) (most_of_ge c.args.goal.now c.args.within.now x i))
