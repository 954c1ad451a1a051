use Rattle.std.proofs.Common.{◌≡◌, ℤ, sym, subst, ◌≤ℤ◌, FitsSigned, rules}
use Rattle.std.proofs.lemmas.Int.{to_z-of_z}
use Rattle.std.specs.Int.{w128}
use Rattle.int_program.specs.Sums.{sum_at}
use Rattle.int_program.specs.Bounds.{IsReached, least_of}
use Rattle.int_program.proofs.BoundLaws.{least_reached, least_of_le}
use Rattle.int_program.proofs.bounds.least.Goals as goal

pub returns-clause-reached : goal.returns-clause-reached
returns-clause-reached c =
    let small = c.requires.small in
    let f : FitsSigned w128 c.sum_end.result = search rules in
    let value : c.sum_end.result ≡ least_of c.args.row.now.parts c.args.within.now = rw c.as_slice.ensures at c.sum_end.ensures.value in
    simp to_z-of_z (subst (IsReached c.args.row.now.parts c.args.within.now) (sym value) (least_reached c.args.row.now.parts c.args.within.now c.requires.nonempty small.rising small.vars))

pub returns-clause-none_below : goal.returns-clause-none_below
returns-clause-none_below c x i =
    let f : FitsSigned w128 c.sum_end.result = search rules in
    let value : c.sum_end.result ≡ least_of c.args.row.now.parts c.args.within.now = rw c.as_slice.ensures at c.sum_end.ensures.value in
    simp to_z-of_z (subst (λ (z : ℤ). z ≤ℤ sum_at c.args.row.now.parts x) (sym value) (least_of_le c.args.row.now.parts c.args.within.now x i))
