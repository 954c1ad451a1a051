use Rattle.std.proofs.Common.{◌≡◌, ℕ, ◌+◌, Bool, not, List, [], ◌∷◌, ◌++◌, length, sym, ap, ◌∙◌, arith, subst, length-append}
use Rattle.std.specs.Prelude.{if◌then◌else◌}
use Rattle.elastic_ast.specs.Units.SeenUnits.{seen_units}
use Rattle.unroll_bound.proofs.FindingSteps.{AreFound, found_more}
use Rattle.unroll_bound.proofs.finding.bounds_of_all.Goals as goal

pub loop-symbol-preserved : goal.loop-symbol-preserved
loop-symbol-preserved c =
    let units = seen_units c.args.units.now in
    let old = c.loop-symbol.most.items in
    let items : c.push.new.self.items ≡ old ++ c.in-Some.bound ∷ [] =
    c.push.ensures.items ∙ ap (λ (v : Bool). if v then old ++ c.in-Some.bound ∷ [] else old) (c.is_err.ensures.negation ∙ ap not c.if-is_err.false) in
    let more = length-append old (c.in-Some.bound ∷ []) in
    let whole = ap length items in
    let dense = c.loop-symbol.invariant.dense in
    record {
      dense = omega (arith, whole, more, dense);
      found = subst (λ (list : List ℕ). AreFound units c.args.target.now (c.loop-symbol.symbol + 1) list) (sym items)
          (found_more units c.args.target.now old c.loop-symbol.symbol c.in-Some.bound dense (sym c.in-Some.is ∙ c.gathered_bound.ensures) c.loop-symbol.invariant.found);
    }
