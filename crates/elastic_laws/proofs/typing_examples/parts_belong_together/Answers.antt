use Rattle.std.proofs.Common.{refl, false, inl, inr}
use Rattle.elastic_ast.specs.Typing.ParserLoops.{direct, further}
use Rattle.elastic_laws.proofs.Typing.UnmetLaws.{whole_only, is_typed, broken_rule, fixed_names, std_fields}
use Rattle.elastic_ast.specs.declared.rule.Rule.TheVariants.{NoMain, ParserLoop}
use Rattle.elastic_laws.proofs.typing_examples.parts_belong_together.Goals as goal

pub returns : goal.returns
unfolding broken_rule fixed_names std_fields
returns c = record {
  state_goes_on_to_itself = whole_only _ ParserLoop 3 _ refl (inl (0, direct 0 refl)) tt (record { loops = inr refl; twice = inl refl; names = inl refl; main = inl refl });
  state_without_start_goes_on_to_itself = whole_only _ ParserLoop 3 _ refl (inl (1, further 2 1 (direct 2 refl) refl)) tt (record { loops = inr refl; twice = inl refl; names = inl refl; main = inl refl });
  start_is_missing = whole_only _ ParserLoop 3 _ refl (inr refl) tt (record { loops = inr refl; twice = inl refl; names = inl refl; main = inl refl });
  two_states_go_on_to_one = is_typed false _ refl refl;
  main_is_missing = whole_only _ NoMain 1 _ refl (refl) tt (record { loops = inl refl; twice = inl refl; names = inl refl; main = inr refl });
  headers_and_metadata_alone = is_typed false _ refl refl;
  whole_frame = is_typed false _ refl refl;
}
