use Rattle.std.proofs.Common.{◌≡◌, ◌<◌, ℕ, List, [], true, false, refl, length, get_or, sym, ap, arith, ◌∙◌}
use Rattle.std.proofs.lemmas.List.{take_more_same}
use Rattle.elastic_ast.specs.declared.flat.Location.{Location}
use Rattle.elastic_ast.specs.Containers.LocationPlaces.{place}
use Rattle.elastic_ast.specs.Containers.Slots.{entries, places}
use Rattle.elastic_ast.proofs.Containers.SlotLaws.{length_places, place_here}
use Rattle.elastic_ast.proofs.Containers.CopyLaws.{all_places}
use Rattle.elastic_ast.proofs.slot.in_one_order.Goals as goal

pub returns : goal.returns
returns c = (λ _. all_places c.args.slots.now c.args.others.now c.loop-k.k c.if-slots-others.false c.loop-k-test.false c.loop-k.invariant, λ _. refl)

pub returns-then-not-is_at : goal.returns-then-not-is_at
returns-then-not-is_at c =
    let less : c.loop-k.k < length c.args.slots.now = c.loop-k-test.true in
    let below : c.loop-k.k < length c.args.others.now = omega arith in (
      λ t. absurd (let e : false ≡ true = t in cc),
      λ all. absurd (let e = c.is_at.ensures.1 (sym (place_here _ _ _ below c.index-others-k.is) ∙ sym (ap (λ (p : List (List ℕ)). get_or p c.loop-k.k []) all) ∙ place_here _ _ _ less c.index-slots-k.is ∙ sym (ap (λ (a : Location). place a c.index-slots-k.result.index) c.parts.ensures)) in cc),
    )

pub loop-k-preserved : goal.loop-k-preserved
loop-k-preserved c =
    let less : c.loop-k.k < length c.args.slots.now = c.loop-k-test.true in
    let below : c.loop-k.k < length c.args.others.now = omega arith in
    take_more_same (places (entries c.args.slots.now)) (places (entries c.args.others.now)) c.loop-k.k _ (omega (arith, length_places c.args.slots.now)) (omega (arith, length_places c.args.others.now)) c.loop-k.invariant
    (place_here _ _ _ less c.index-slots-k.is ∙ sym (place_here _ _ _ below c.index-others-k.is ∙ c.is_at.ensures.0 c.if-not-is_at.false ∙ ap (λ (a : Location). place a c.index-slots-k.result.index) c.parts.ensures))
