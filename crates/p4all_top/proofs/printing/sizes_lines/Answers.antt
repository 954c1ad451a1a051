use Rattle.std.proofs.Common.{◌≡◌, ℕ, List, arith, ap, ◌∙◌, ℤ}
use Rattle.std.proofs.lemmas.Int.{to_z-of_z}
use mir.Syntax.{w128}
use Rattle.p4all_top.specs.Printed.{with_sizes, with_utility}
use Rattle.p4all_top.proofs.LineLaws.{with_step, with_all}
use Rattle.p4all_top.proofs.printing.sizes_lines.Goals as goal

pub loop-i-init : goal.loop-i-init
loop-i-init c = ap (λ z. with_sizes z c.args.symbols.now c.args.sizes.now) c.new-lines.ensures

pub loop-i-preserved : goal.loop-i-preserved
loop-i-preserved c =
    with_step c.loop-i.lines c.put_size.new.lines c.args.symbols.now c.args.sizes.now c.loop-i.i c.index-symbols-i.result _ c.loop-i-test.true (omega (arith, c.loop-i-test.true, c.requires))
    c.index-symbols-i.is c.in_ok-put_size.ensures c.loop-i.invariant

utility_put : (new lines text : List ℕ) (value passed : ℤ) → new ≡ with_utility lines passed → passed ≡ value → lines ≡ text → new ≡ with_utility text value
utility_put new lines text value passed e p l = e ∙ ap (λ z. with_utility z passed) l ∙ ap (with_utility text) p

pub returns : goal.returns
returns c =
    utility_put _ c.loop-i.lines _ c.args.utility _ c.in_ok-put_utility.ensures (to_z-of_z w128 c.args.utility c.ranges.utility) (with_all c.loop-i.lines c.args.symbols.now c.args.sizes.now c.loop-i.i _ (omega (arith, c.loop-i-test.false)) c.loop-i.invariant)
