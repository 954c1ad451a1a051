use Rattle.std.proofs.Common.{◌∙◌, ap, ℤ, pos, ◌+ℤ◌, FitsSigned, rules}
use Rattle.std.proofs.lemmas.Int.{to_z-of_z}
use Rattle.std.specs.Int.{w128}
use Rattle.int_program.specs.Sums.{at}
use Rattle.branch_bound.proofs.TrailLaws.{half_is, half_waits}
use Rattle.branch_bound.proofs.open.Open.split.Goals as goal

pub returns-clause-half : goal.returns-clause-half
returns-clause-half c =
    let f : FitsSigned w128 c.args.at = search rules in
    half_is c.args.within c.in_ok-half.half c.args.var c.args.at c.lower_ends-lower.result
    (c.lower_ends-lower.ensures ∙ ap (λ (z : ℤ). (at c.args.within.low c.args.var, z)) (to_z-of_z w128 c.args.at f)) c.in_ok-half.ensures.changed

pub returns-clause-behind : goal.returns-clause-behind
returns-clause-behind c =
    let f : FitsSigned w128 c.args.at = search rules in
    c.in_ok-half.ensures.behind
    ∙ half_waits c.args.within c.args.var c.args.at c.upper_ends-upper.result c.args.self.now c.push.new.self
    (c.upper_ends-upper.ensures ∙ ap (λ (z : ℤ). (z +ℤ pos 1, at c.args.within.high c.args.var)) (to_z-of_z w128 c.args.at f)) c.in_ok-push.ensures
