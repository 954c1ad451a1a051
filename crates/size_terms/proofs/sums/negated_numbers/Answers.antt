use Rattle.std.proofs.Common.{◌≡◌, ◌<◌, ◌^◌, ◌+◌, ◌++◌, ℕ, List, zero, suc, ◌∷◌, [], ℤ, pos, get_or, map, drop, neg_ℤ, arith, refl, ap, ◌∙◌}
use Rattle.std.specs.Prelude.{unsigned_abs}
use Rattle.size_terms.proofs.SumLaws.{weight_at}
use Rattle.size_terms.proofs.TermLaws.{turned_fits, turned_is, neg_step}
use Rattle.size_terms.proofs.sums.negated_numbers.Goals as goal

pub overflow_sub-number : goal.overflow_sub-number
overflow_sub-number c = turned_fits (get_or c.args.numbers.now c.loop-number.number-index (pos 0)) (let u = weight_at c.args.numbers.now c.loop-number.number-index in omega (arith, u, c.requires))

here : (xs : List ℤ) (i : ℕ) → get_or xs i (pos 0) ≡ get_or xs i (get_or xs i (pos 0))
here [] i = refl
here (x ∷ xs) zero = refl
here (x ∷ xs) (suc i) = here xs i

pub loop-number-preserved : goal.loop-number-preserved
loop-number-preserved c =
    let x = get_or c.args.numbers.now c.loop-number.number-index (pos 0) in
    let small : unsigned_abs x < 2 ^ 100 = let u = weight_at c.args.numbers.now c.loop-number.number-index in omega (arith, u, c.requires) in
    ap (λ z. z ++ map neg_ℤ (drop (c.loop-number.number-index + 1) c.args.numbers.now)) c.in_ok-push.ensures.items
    ∙ neg_step c.loop-number.other.items c.args.numbers.now c.loop-number.number-index x _ c.loop-number-test.true (here c.args.numbers.now c.loop-number.number-index) (turned_is x small) c.loop-number.invariant
