use Rattle.std.proofs.Common.{rules, refl, sym, ap, subst, FitsSigned, Some, IfSome, ℤ, ◌+ℤ◌, ◌≤ℤ◌, ◌∙◌}
use Rattle.std.proofs.lemmas.Int.{to_z-of_z}
use Rattle.std.specs.Int.{w128}
use Rattle.int_program.specs.Points.{IsPoint}
use Rattle.branch_bound.specs.Lines.{AtMost}
use Rattle.branch_bound.proofs.PointLaws.{single_most, lowest_single, tried_better, tried_worse}
use Rattle.branch_bound.proofs.testing.try_lowest.Goals as goal

pub returns-then-is_above : goal.returns-then-is_above
returns-then-is_above c =
    let ip = c.args.ip.now in
    let lowest = c.in_ok-point.point in
    let value : ℤ = c.goal_most-value.result in
    let f : FitsSigned w128 value = search rules in
    let m : AtMost c.args.known (Some value) = simp to_z-of_z at (c.if-is_above.ensures.yes refl) in
    let point = subst (IsPoint ip) (sym c.in_ok-point.ensures.0) (c.lows_hold.ensures.0 c.if-not-lows_hold.false) in
    let value_is = c.goal_most-value.ensures ∙ ap (λ z. z +ℤ ip.base) (single_most ip.goal lowest (lowest_single c.args.within.now lowest c.in_ok-point.ensures.0 c.in_ok-point.ensures.1)) in
    simp to_z-of_z (tried_better ip c.args.within.now.low lowest.low c.args.known value point value_is c.in_ok-point.ensures.0 m)

pub returns-else-is_above : goal.returns-else-is_above
returns-else-is_above c =
    let ip = c.args.ip.now in
    let lowest = c.in_ok-point.point in
    let value : ℤ = c.goal_most-value.result in
    let f : FitsSigned w128 value = search rules in
    let n : IfSome c.args.known (λ (u : ℤ). value ≤ℤ u) = simp to_z-of_z at (c.if-is_above.ensures.no refl).0 in
    let value_is = c.goal_most-value.ensures ∙ ap (λ z. z +ℤ ip.base) (single_most ip.goal lowest (lowest_single c.args.within.now lowest c.in_ok-point.ensures.0 c.in_ok-point.ensures.1)) in
    tried_worse ip c.args.within.now.low lowest.low c.args.known c.args.best.now value value_is c.in_ok-point.ensures.0 n (c.if-is_above.ensures.no refl).1 c.requires.best_known
