use Rattle.std.proofs.Common.{rules, FitsSigned, to_z, of_z, ap, ◌+ℤ◌, ◌-ℤ◌, ◌∙◌}
use Rattle.std.proofs.lemmas.Int.{to_z-of_z}
use Rattle.std.specs.Int.{int_wrap, w128}
use Rattle.branch_bound.proofs.WrapLaws.{shift_is}
use Rattle.branch_bound.proofs.states.shifted.Goals as goal

pub returns : goal.returns
returns c = λ a b old_is new_is.
    let f : FitsSigned w128 c.sum.result = search rules in
    let g : FitsSigned w128 c.difference.result = search rules in
    let h : FitsSigned w128 c.args.value = search rules in
    let old_fits : FitsSigned w128 c.args.old = search rules in
    let new_fits : FitsSigned w128 c.args.new = search rules in
    let value = to_z w128 (of_z w128 c.args.value) in
    to_z-of_z w128 c.sum.result f ∙ c.sum.ensures ∙ ap (λ z. int_wrap w128 (value +ℤ z)) (to_z-of_z w128 c.difference.result g ∙ c.difference.ensures)
    ∙ shift_is value (to_z w128 (of_z w128 c.args.old)) (to_z w128 (of_z w128 c.args.new)) a b (to_z-of_z w128 c.args.old old_fits ∙ old_is) (to_z-of_z w128 c.args.new new_fits ∙ new_is)
    ∙ ap (λ z. int_wrap w128 (z +ℤ (b -ℤ a))) (to_z-of_z w128 c.args.value h)
