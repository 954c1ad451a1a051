use Rattle.std.proofs.Common.{◌≡◌, false, true, rules, FitsSigned, ap, sym, ◌∙◌}
use Rattle.std.proofs.lemmas.Int.{to_z-of_z, int_wrap_fits}
use Rattle.std.specs.Int.{int_wrap, w128}
use Rattle.int_program.specs.Sums.{sum_at}
use Rattle.branch_bound.proofs.states.state_of.Goals as goal

wrong : false ≡ true → ⊥
wrong e = cc

pub returns : goal.returns
returns c = λ n.
    let f : FitsSigned w128 c.least.result = search rules in
    let g : FitsSigned w128 c.lows_sum.result = search rules in
    record {
      least = to_z-of_z w128 c.least.result f ∙ sym (int_wrap_fits w128 c.least.result f) ∙ ap (int_wrap w128) c.least.ensures.value;
      at_lows = to_z-of_z w128 c.lows_sum.result g ∙ c.lows_sum.ensures ∙ (λ i. int_wrap w128 (sum_at (c.as_slice.ensures i) (c.as_slice-2.ensures i)));
      settled = λ h. absurd (wrong h);
    }
