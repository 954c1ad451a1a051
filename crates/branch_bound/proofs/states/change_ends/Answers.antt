use Rattle.std.proofs.Common.{◌<◌, All, length, sym, subst, ap, arith, ◌∙◌}
use Rattle.branch_bound.specs.Columns.{column_of}
use Rattle.branch_bound.specs.States.{moved_rows}
use Rattle.branch_bound.proofs.StateLaws.{states_length, states_moved, rows_within}
use Rattle.branch_bound.proofs.states.change_ends.Goals as goal

pub move_rows-requires : goal.move_rows-requires
move_rows-requires c =
    subst (λ es. All (λ e. e.row < length c.args.states.now) es) (sym (c.column.ensures ∙ c.requires.columns.each c.args.var c.requires.var))
    (rows_within c.args.var 0 (length c.args.states.now) c.args.ip.now.rows (omega (arith, states_length (length c.args.ip.now.tops) c.args.within.now c.args.ip.now.rows c.args.states.now c.requires.states)))

pub returns : goal.returns
returns c =
    states_moved (length c.args.ip.now.tops) c.args.within.now c.args.var c.args.ends (omega (arith, c.requires.var, c.requires.low_count)) (omega (arith, c.requires.var, c.requires.high_count)) c.args.ip.now.rows c.args.states.now
    c.move_rows.new.states c.requires.states
    (c.move_rows.ensures ∙ ap (λ es. moved_rows c.args.own c.args.ends es c.args.states.now) (c.column.ensures ∙ c.requires.columns.each c.args.var c.requires.var)
    ∙ ap (λ own. moved_rows own c.args.ends (column_of c.args.var 0 c.args.ip.now.rows) c.args.states.now) c.requires.own)
