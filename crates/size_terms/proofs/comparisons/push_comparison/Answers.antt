use Rattle.size_terms.proofs.RowLaws.{on_pushed, adds_comp}
use Rattle.size_terms.proofs.comparisons.push_comparison.Goals as goal

pub returns : goal.returns
returns c = on_pushed c.push_rows.result c.push_rows.ensures (adds_comp c.args.places.now c.args.comp.now c.in_ok-sum.sum c.args.rows.now c.push_rows.new.rows c.in_ok-sum.ensures)
