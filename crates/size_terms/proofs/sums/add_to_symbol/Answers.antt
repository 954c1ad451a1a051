use Rattle.std.proofs.Common.{◌≡◌, ◌<◌, ◌≤◌, ℤ, pos, length, Option, Some, None, arith, refl, sym, subst, ◌∙◌}
use Rattle.std.specs.Prelude.{unsigned_abs}
use Rattle.std.specs.Int.RustNames.{FitsSigned}
use Rattle.std.proofs.lemmas.Int.{to_z-of_z}
use mir.Syntax.{w128}
use Rattle.size_terms.specs.Rows.{coefficient_weight}
use Rattle.size_terms.proofs.SumLaws.{place_within, weight_at, any_default, fits_sum, sum_is, grows_at, grows_nowhere}
use Rattle.size_terms.proofs.sums.add_to_symbol.Goals as goal

pub index_mut-requires : goal.index_mut-requires
index_mut-requires c = let q = place_within c.args.places.now c.args.symbol.now c.in-Some.place c.in-Some.ensures in omega (arith, q, c.requires.dense)

pub overflow_add-index_mut : goal.overflow_add-index_mut
overflow_add-index_mut c =
    let within : c.in-Some.place < length c.args.sum.now.by.items = let q = place_within c.args.places.now c.args.symbol.now c.in-Some.place c.in-Some.ensures in omega (arith, q, c.requires.dense) in
    let here : unsigned_abs c.index_mut.result.now ≤ coefficient_weight c.args.sum.now.by.items =
    subst (λ (z : ℤ). unsigned_abs z ≤ coefficient_weight c.args.sum.now.by.items) (sym (c.index_mut.ensures.value ∙ any_default c.args.sum.now.by.items c.in-Some.place _ (pos 0) within)) (weight_at c.args.sum.now.by.items c.in-Some.place) in
    subst (FitsSigned w128) (sym (sum_is c.index_mut.result.now c.args.number (omega (arith, here, c.requires.small)))) (fits_sum c.index_mut.result.now c.args.number (omega (arith, here, c.requires.small)))

pub returns-in-Some : goal.returns-in-Some
returns-in-Some c =
    let within : c.in-Some.place < length c.args.sum.now.by.items = let q = place_within c.args.places.now c.args.symbol.now c.in-Some.place c.in-Some.ensures in omega (arith, q, c.requires.dense) in
    let here : unsigned_abs c.index_mut.result.now ≤ coefficient_weight c.args.sum.now.by.items =
    subst (λ (z : ℤ). unsigned_abs z ≤ coefficient_weight c.args.sum.now.by.items) (sym (c.index_mut.ensures.value ∙ any_default c.args.sum.now.by.items c.in-Some.place _ (pos 0) within)) (weight_at c.args.sum.now.by.items c.in-Some.place) in
    let sum = sum_is c.index_mut.result.now c.args.number (omega (arith, here, c.requires.small)) in
    grows_at c.args.places.now c.args.sum.now _ c.args.symbol.now c.in-Some.place c.index_mut.result.now c.args.number _ c.in-Some.ensures c.requires.dense c.index_mut.ensures.value
    (to_z-of_z w128 _ (subst (FitsSigned w128) (sym sum) (fits_sum c.index_mut.result.now c.args.number (omega (arith, here, c.requires.small)))) ∙ sum) refl refl

none_of : {A : Type 0} (o : Option A) → ((x : A) → o ≡ Some x → ⊥) → o ≡ None
none_of None h = refl
none_of (Some x) h = absurd (h x refl)

pub returns-in_default : goal.returns-in_default
returns-in_default c = grows_nowhere c.args.places.now c.args.sum.now c.args.symbol.now c.args.number (sym (none_of c.place_of.result c.in_default.not-Some) ∙ c.place_of.ensures)
