use Rattle.std.proofs.Common.{◌≡◌, None, get_or, pos, arith, ap, ◌∙◌, subst}
use Rattle.std.proofs.lemmas.Int.{to_z-of_z}
use mir.Val.{to_z, of_z}
use mir.Syntax.{w128}
use Rattle.size_terms.proofs.SumLaws.{weight_at, fits_small}
use Rattle.unroll_bound.specs.SizeRules.{lesser, most_times}
use Rattle.unroll_bound.specs.SymbolLists.{Changes}
use Rattle.unroll_bound.proofs.SymbolListLaws.{none_changed, change_more, all_changed}
use Rattle.unroll_bound.proofs.rules.lower_each.Goals as goal

pub loop-i-init : goal.loop-i-init
loop-i-init c = none_changed _ c.args.found.now

pub loop-i-preserved : goal.loop-i-preserved
loop-i-preserved c =
    let here : to_z w128 (of_z w128 (get_or c.args.by.now c.loop-i.i (pos 0))) ≡ get_or c.args.by.now c.loop-i.i (pos 0) =
    to_z-of_z w128 _ (fits_small (get_or c.args.by.now c.loop-i.i (pos 0)) (let w = weight_at c.args.by.now c.loop-i.i in omega (arith, w, c.requires.small))) in
    change_more _ c.args.found.now c.loop-i.found c.loop-i.i c.lesser.result None (omega arith) (omega arith)
    (c.lesser.ensures ∙ ap (λ z. lesser z (get_or c.loop-i.found c.loop-i.i None)) c.most_at.ensures
    ∙ ap (λ z. lesser (most_times (to_z w128 (of_z w128 c.args.most)) z) (get_or c.loop-i.found c.loop-i.i None)) here)
    c.loop-i.invariant

pub returns : goal.returns
returns c =
    let most_is : to_z w128 (of_z w128 c.args.most) ≡ c.args.most = to_z-of_z w128 _ (fits_small c.args.most (let n = c.requires.near in omega (arith, n))) in
    subst (λ m. Changes (λ symbol bound. lesser (most_times m (get_or c.args.by.now symbol (pos 0))) bound) c.args.found.now c.loop-i.found) most_is
    (all_changed (λ symbol bound. lesser (most_times (to_z w128 (of_z w128 c.args.most)) (get_or c.args.by.now symbol (pos 0))) bound) c.args.found.now c.loop-i.found c.loop-i.i (omega arith) (let d = c.requires.dense in omega (arith, d)) c.loop-i.invariant)
