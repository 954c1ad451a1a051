use Rattle.std.proofs.Common.{true, false, List, ◌*◌, length, subst}
use Rattle.elastic_ast.specs.declared.declarations.LinTerm.{LinTerm}
use Rattle.elastic_ast.specs.Sizes.SizeSums.{negated_if, sum_value}
use Rattle.size_terms.specs.Growth.{Grows, IsZero}
use Rattle.size_terms.proofs.RowLaws.{difference_is}
use Rattle.size_terms.proofs.comparisons.difference.Goals as goal

pub returns : goal.returns
returns c =
    difference_is c.args.places.now c.args.comp.now c.in_ok-sum.sum c.add_terms.new.sum c.add_terms-2.new.sum (subst (IsZero c.in_ok-sum.sum) c.requires.dense c.in_ok-sum.ensures) c.requires.short
    (subst (λ (ts : List LinTerm). Grows c.in_ok-sum.sum c.add_terms.new.sum (λ sizes. negated_if false (sum_value c.args.places.now sizes ts)) (1000000000 * length ts)) c.as_slice.ensures c.add_terms.ensures)
    (subst (λ (ts : List LinTerm). Grows c.add_terms.new.sum c.add_terms-2.new.sum (λ sizes. negated_if true (sum_value c.args.places.now sizes ts)) (1000000000 * length ts)) c.as_slice-2.ensures c.add_terms-2.ensures)
