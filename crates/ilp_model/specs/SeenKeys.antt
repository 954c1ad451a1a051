-- The keys of step tables that the program lists, as those of the definition; this project's own.
use Rattle.std.specs.Prelude.{List, map}
use Rattle.ilp_model.specs.declared.step_keys.ReachedKey.{ReachedKey}
use Rattle.ilp_model.specs.StepKeys.{StepKey}

abbrev pub seen_key : ReachedKey → StepKey
seen_key key = record { place = key.place; minus = key.minus; symbol = key.symbol; key = key.key; value = key.value; before = key.before }

abbrev pub seen_keys : List ReachedKey → List StepKey
seen_keys keys = map seen_key keys
