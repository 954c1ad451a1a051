use Rattle.std.proofs.Common.{rules, FitsSigned, false, ap, ◌+ℤ◌, ◌-ℤ◌, ◌*ℤ◌, ◌∙◌}
use Rattle.std.proofs.lemmas.Int.{to_z-of_z}
use Rattle.std.specs.Int.{int_wrap, w128}
use Rattle.int_program.specs.Bounds.{least_term}
use Rattle.branch_bound.proofs.states.moved.Goals as goal

pub returns : goal.returns
returns c =
    let f : FitsSigned w128 c.shifted.result = search rules in
    let g : FitsSigned w128 c.shifted-2.result = search rules in
    let by_fits : FitsSigned w128 c.args.entry.by = search rules in
    let by_is = to_z-of_z w128 c.args.entry.by by_fits in
    let least = c.shifted.ensures (least_term c.args.entry.by c.args.own.0 c.args.own.1) (least_term c.args.entry.by c.args.ends.0 c.args.ends.1)
    (to_z-of_z w128 c.least_end.result (search rules) ∙ c.least_end.ensures ∙ ap (λ by. int_wrap w128 (least_term by c.args.own.0 c.args.own.1)) by_is)
    (to_z-of_z w128 c.least_end-2.result (search rules) ∙ c.least_end-2.ensures ∙ ap (λ by. int_wrap w128 (least_term by c.args.ends.0 c.args.ends.1)) by_is) in
    let lows = c.shifted-2.ensures (c.args.entry.by *ℤ c.args.own.0) (c.args.entry.by *ℤ c.args.ends.0)
    (to_z-of_z w128 c.product.result (search rules) ∙ c.product.ensures ∙ (λ i. int_wrap w128 (by_is i *ℤ to_z-of_z w128 c.args.own.0 (search rules) i)))
    (to_z-of_z w128 c.product-2.result (search rules) ∙ c.product-2.ensures ∙ (λ i. int_wrap w128 (by_is i *ℤ to_z-of_z w128 c.args.ends.0 (search rules) i))) in
    let least_is = to_z-of_z w128 c.shifted.result f ∙ least ∙ ap (λ z. int_wrap w128 (z +ℤ (least_term c.args.entry.by c.args.ends.0 c.args.ends.1 -ℤ least_term c.args.entry.by c.args.own.0 c.args.own.1))) (to_z-of_z w128 c.args.state.least (search rules)) in
    let lows_is = to_z-of_z w128 c.shifted-2.result g ∙ lows ∙ ap (λ z. int_wrap w128 (z +ℤ (c.args.entry.by *ℤ c.args.ends.0 -ℤ c.args.entry.by *ℤ c.args.own.0))) (to_z-of_z w128 c.args.state.at_lows (search rules)) in
    λ i. record { least = least_is i; at_lows = lows_is i; settled = false }
