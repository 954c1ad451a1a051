use Rattle.std.proofs.Common.{◌++◌, ◌+◌, length, drop, ap, sym, ◌∙◌}
use Rattle.std.specs.Prelude.{slice_index_or}
use Rattle.std.proofs.lemmas.List.{drop_more}
use Rattle.ilp_model.specs.StepKeys.{keys_after}
use Rattle.ilp_model.specs.SeenKeys.{seen_keys}
use Rattle.ilp_model.proofs.KeyLaws.{key_step}
use Rattle.ilp_model.proofs.step_keys.add_keys.Goals as goal

pub loop-i-preserved : goal.loop-i-preserved
loop-i-preserved c =
    key_step (λ symbol. c.args.bound) c.args.table.now.minus c.args.table.now.symbol c.loop-i.before (slice_index_or c.as_slice-pairs.result.now c.loop-i.i (0, 0)) (drop (c.loop-i.i + 1) c.as_slice-pairs.result.now) c.loop-i.keys c.add_key.new.keys c.in_ok-add_key.ensures
    ∙ sym (ap (λ z. seen_keys c.loop-i.keys ++ keys_after (λ symbol. c.args.bound) c.args.table.now.minus c.args.table.now.symbol (length c.loop-i.keys) c.loop-i.before z) (drop_more c.as_slice-pairs.result.now c.loop-i.i (0, 0) c.loop-i-test.true))
    ∙ c.loop-i.invariant
