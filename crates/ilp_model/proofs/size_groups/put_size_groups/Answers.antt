use Rattle.std.proofs.Common.{sym, subst, length, ◌<◌, ◌≤◌, ◌+◌, ◌^◌}
use Rattle.std.proofs.lemmas.Result.{on_ok_weaker}
use Rattle.std.specs.Prelude.{All}
use Rattle.elastic_ast.specs.Units.Instances.{nth_size}
use Rattle.elastic_ast.specs.Units.SeenUnits.{seen_units}
use Rattle.unit_flow.specs.SoundUnits.{IsLoopSize}
use Rattle.ilp_model.proofs.GroupLaws.{short_rows, loops_near, keys_of_symbols, keys_numbered}
use Rattle.ilp_model.proofs.FiveGroups.{five_groups}
use Rattle.ilp_model.proofs.NumbersAre.{marks_of}
use Rattle.ilp_model.proofs.UnitFacts.{loop_sizes}
use Rattle.ilp_model.proofs.size_groups.put_size_groups.Goals as goal

pub put_term_rows-requires : goal.put_term_rows-requires
put_term_rows-requires c =
    subst (λ rows. All (λ linear. length linear.by ≤ 2 ^ 32) rows) (sym c.as_slice.ensures)
    (short_rows (seen_units c.args.units.now) c.args.target.now c.args.bounds.now c.requires.sound c.requires.within c.args.numbers.now c.requires.numbers)

pub uses_of_loops-requires : goal.uses_of_loops-requires
uses_of_loops-requires c =
    subst (λ units. All (λ unit. IsLoopSize (length c.args.bounds.now) unit.size) units) (sym c.as_slice-3.ensures)
    (loop_sizes c.args.units.now c.args.bounds.now c.requires.sound c.requires.within.found.dense)

pub put_loop_rows-requires-clause-near : goal.put_loop_rows-requires-clause-near
put_loop_rows-requires-clause-near c symbol =
    subst (λ loops. nth_size loops symbol + nth_size c.args.bounds.now symbol < 2 ^ 32) (sym c.as_slice-5.ensures)
    (loops_near (seen_units c.args.units.now) c.args.target.now c.args.bounds.now c.requires.sound c.requires.within c.args.numbers.now c.requires.numbers symbol)

pub put_key_rows-requires-clause-symbols : goal.put_key_rows-requires-clause-symbols
put_key_rows-requires-clause-symbols c =
    keys_of_symbols (seen_units c.args.units.now) c.args.target.now c.args.bounds.now c.requires.sound c.requires.within c.args.numbers.now c.requires.numbers
    c.args.keys.now c.requires.keys

pub put_key_rows-requires-clause-numbers : goal.put_key_rows-requires-clause-numbers
put_key_rows-requires-clause-numbers c =
    keys_numbered (seen_units c.args.units.now) c.args.target.now c.args.bounds.now c.requires.sound c.requires.within c.args.numbers.now c.requires.numbers
    c.args.keys.now c.requires.keys

pub returns : goal.returns
returns c =
    on_ok_weaker c.put_key_rows.result
    (λ e. five_groups c.args.units.now c.args.target.now c.args.bounds.now c.requires.sound c.requires.within c.args.numbers.now c.requires.numbers c.args.keys.now
    c.requires.keys c.as_slice-4.result.now
    (marks_of c.args.units.now c.as_slice-3.result.now (length c.args.bounds.now) c.as_slice-4.result.now c.in_ok-uses.uses.items c.as_slice-3.ensures
    c.in_ok-uses.ensures c.as_slice-4.ensures.value)
    c.as_slice.result.now c.as_slice-2.result.now c.as_slice-5.result.now c.as_slice.ensures c.as_slice-2.ensures c.as_slice-5.ensures
    c.args.rows.now c.put_term_rows.new.rows c.put_one_rows.new.rows c.put_header_row.new.rows c.put_loop_rows.new.rows c.put_key_rows.new.rows
    c.in_ok-put_term_rows.ensures c.in_ok-put_one_rows.ensures c.in_ok-put_header_row.ensures c.in_ok-put_loop_rows.ensures e)
    c.put_key_rows.ensures
