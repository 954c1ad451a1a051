-- Sums that wrap at 128 bits.
use Rattle.std.proofs.Common.{◌≡◌, ℤ, ◌+ℤ◌, ◌-ℤ◌, arith, ap, ◌∙◌}
use Rattle.std.proofs.lemmas.Int.{ints, int_wrap-add_left, int_wrap-add_right, int_wrap-sub_right}
use Rattle.std.specs.Int.{int_wrap, w128}

pub shift_is : (value old new a b : ℤ) → old ≡ int_wrap w128 a → new ≡ int_wrap w128 b → int_wrap w128 (value +ℤ int_wrap w128 (new -ℤ old)) ≡ int_wrap w128 (value +ℤ (b -ℤ a))
shift_is value old new a b old_is new_is =
    int_wrap-add_right w128 value (new -ℤ old)
    ∙ ap (int_wrap w128) (omega (arith, ints))
    ∙ ap (λ z. int_wrap w128 ((value +ℤ new) -ℤ z)) old_is
    ∙ int_wrap-sub_right w128 (value +ℤ new) a
    ∙ ap (int_wrap w128) (omega (arith, ints))
    ∙ ap (λ z. int_wrap w128 ((value -ℤ a) +ℤ z)) new_is
    ∙ int_wrap-add_right w128 (value -ℤ a) b
    ∙ ap (int_wrap w128) (omega (arith, ints))

pub sum_is : (before now q p rest : ℤ) → now ≡ int_wrap w128 (before +ℤ q) → q ≡ int_wrap w128 p → int_wrap w128 (now +ℤ rest) ≡ int_wrap w128 (before +ℤ (p +ℤ rest))
sum_is before now q p rest now_is q_is =
    ap (λ z. int_wrap w128 (z +ℤ rest)) now_is
    ∙ int_wrap-add_left w128 (before +ℤ q) rest
    ∙ ap (int_wrap w128) (omega (arith, ints))
    ∙ ap (λ z. int_wrap w128 ((before +ℤ rest) +ℤ z)) q_is
    ∙ int_wrap-add_right w128 (before +ℤ rest) p
    ∙ ap (int_wrap w128) (omega (arith, ints))
