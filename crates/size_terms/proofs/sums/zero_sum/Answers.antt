use Rattle.std.proofs.Common.{refl}
use Rattle.size_terms.proofs.TermLaws.{zero_is}
use Rattle.size_terms.proofs.sums.zero_sum.Goals as goal

pub returns : goal.returns
returns c = zero_is _ c.args.symbols (c.in_ok-by.ensures.items_if_clones_equal (λ y h. h)) refl
