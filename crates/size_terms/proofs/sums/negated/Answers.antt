use Rattle.std.proofs.Common.{map, neg_ℤ, arith, ap, ◌∙◌}
use Rattle.size_terms.proofs.TermLaws.{negates_is, turned_is}
use Rattle.size_terms.proofs.sums.negated.Goals as goal

pub returns : goal.returns
returns c = negates_is c.args.sum.now _ (c.in_ok-by.ensures ∙ ap (map neg_ℤ) c.as_slice.ensures.value) (turned_is c.args.sum.now.constant (omega (arith, c.requires)))
