use Rattle.std.proofs.Common.{rules, ◌∙◌, ◌≡◌, ◌∷◌, [], ℕ, List, take, length, get_or, refl, sym, ap, arith}
use Rattle.std.proofs.Math.Seq.{take-length}
use Rattle.std.proofs.lemmas.Grind.{get_or_default_zero}
use Rattle.std.proofs.lemmas.List.Elements.{All-same, All-append, All-cons, All-nil}
use Rattle.size_terms.specs.Rows.{OneHolds}
use Rattle.size_terms.proofs.BuildLaws.{take_step}
use Rattle.size_terms.proofs.worth.ones_hold.Goals as goal

pub loop-place-preserved : goal.loop-place-preserved
loop-place-preserved c =
    let ones : List ℕ = c.args.ones.now in
    let i : ℕ = c.loop-place.place-index in
    let place : ℕ = get_or ones i 0 in
    All-same (OneHolds c.args.sizes.now) _ _ (take_step ones i place c.loop-place-test.true (sym (get_or_default_zero ones i place c.loop-place-test.true)))
    (All-append (OneHolds c.args.sizes.now) (take i ones) (place ∷ []) c.loop-place.invariant (All-cons (OneHolds c.args.sizes.now) place [] (c.one_holds.ensures.0 (search rules)) (All-nil (OneHolds c.args.sizes.now))))

pub returns : goal.returns
returns c =
    let ones : List ℕ = c.args.ones.now in
    let i : ℕ = c.loop-place.place-index in
    let end : i ≡ length ones = omega (arith, c.loop-place-test.false, c.loop-place.auto.place-index-end) in (
      (λ t. All-same (OneHolds c.args.sizes.now) ones (take i ones) (sym (ap (λ n. take n ones) end ∙ take-length ones)) c.loop-place.invariant),
      (λ o. refl),
    )
