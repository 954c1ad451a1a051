use Rattle.std.proofs.Common.{◌≡◌, ◌++◌, sym, subst}
use Rattle.std.specs.Prelude.{OnOk}
use Rattle.elastic_ast.specs.declared.declarations.Rel.{Rel}
use Rattle.size_terms.specs.Building.{rows_of_sum}
use Rattle.size_terms.proofs.RowLaws.{on_pushed, added_turned, added_both}
use Rattle.size_terms.proofs.comparisons.push_rows.Goals as goal

pub returns-in_ok-other-in-Ge : goal.returns-in_ok-other-in-Ge
returns-in_ok-other-in-Ge c =
    subst (λ (r : Rel). OnOk c.push_at_most-in-Ge.result (c.push_at_most-in-Ge.new.rows ≡ c.args.rows.now ++ rows_of_sum r c.args.sum.by.items c.args.sum.constant)) (sym c.in-Ge.is)
    (on_pushed c.push_at_most-in-Ge.result c.push_at_most-in-Ge.ensures (added_turned 0 c.args.sum c.in_ok-other-in-Ge.other c.args.rows.now c.push_at_most-in-Ge.new.rows c.in_ok-other-in-Ge.ensures))

pub returns-in_ok-other-in-Gt : goal.returns-in_ok-other-in-Gt
returns-in_ok-other-in-Gt c =
    subst (λ (r : Rel). OnOk c.push_less-in-Gt.result (c.push_less-in-Gt.new.rows ≡ c.args.rows.now ++ rows_of_sum r c.args.sum.by.items c.args.sum.constant)) (sym c.in-Gt.is)
    (on_pushed c.push_less-in-Gt.result c.push_less-in-Gt.ensures (added_turned 1 c.args.sum c.in_ok-other-in-Gt.other c.args.rows.now c.push_less-in-Gt.new.rows c.in_ok-other-in-Gt.ensures))

pub returns-in_ok-push_at_most-in-Eq : goal.returns-in_ok-push_at_most-in-Eq
returns-in_ok-push_at_most-in-Eq c =
    subst (λ (r : Rel). OnOk c.push_at_most-in-Eq-2.result (c.push_at_most-in-Eq-2.new.rows ≡ c.args.rows.now ++ rows_of_sum r c.args.sum.by.items c.args.sum.constant)) (sym c.in-Eq.is)
    (on_pushed c.push_at_most-in-Eq-2.result c.push_at_most-in-Eq-2.ensures
    (added_both c.args.sum c.in_ok-other-in-Eq.other c.args.rows.now c.push_at_most-in-Eq.new.rows c.push_at_most-in-Eq-2.new.rows c.in_ok-other-in-Eq.ensures c.in_ok-push_at_most-in-Eq.ensures))
