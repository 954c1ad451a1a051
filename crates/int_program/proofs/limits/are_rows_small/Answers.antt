use Rattle.std.proofs.Common.{rules, subst}
use Rattle.std.proofs.lemmas.List.Elements.{All-more}
use Rattle.int_program.specs.Limits.{AreSmall}
use Rattle.int_program.specs.declared.program.Row.{Row}
use Rattle.int_program.proofs.LimitLaws.{all_taken}
use Rattle.int_program.proofs.limits.are_rows_small.Goals as goal

pub loop-row-preserved : goal.loop-row-preserved
loop-row-preserved c =
    let here : AreSmall c.row-item.result.parts c.row-item.result.most c.args.tops.now = c.if-not-is_row_small.ensures.0 (search rules) in
    All-more (λ row. AreSmall row.parts row.most c.args.tops.now) c.args.rows.now c.loop-row.row-index c.row-item.result c.loop-row-test.true c.loop-row.invariant (subst (λ (row : Row). AreSmall row.parts row.most c.args.tops.now) c.row-item.is here)

pub returns : goal.returns
returns c =
    let all = all_taken (λ row. AreSmall row.parts row.most c.args.tops.now) c.args.rows.now c.loop-row.row-index c.loop-row-test.false c.loop-row.invariant in
    (λ _. all, λ _. search rules)
