use Rattle.std.proofs.Common.{refl, false, true, inl, inr, arith, [], ◌∷◌}
use Rattle.std.specs.Prelude.{◌≡◌, ℕ, Some, slice_get, codes}
use Rattle.elastic_ast.specs.Typing.NamedRegisters.{Naming}
use Rattle.elastic_laws.proofs.Typing.UnmetLaws.{whole_only, is_typed, broken_rule, fixed_names, std_fields}
use Rattle.elastic_ast.specs.declared.rule.Rule.TheVariants.{RegisterTwice, RegisterUnused}
use Rattle.elastic_laws.proofs.typing_examples.registers_are_named_by_one_unit.Goals as goal

none_there : (u : ℕ) (naming : Naming) → slice_get [] u ≡ Some naming → ⊥
none_there u naming e = cc

pub returns : goal.returns
unfolding broken_rule fixed_names std_fields
returns c = record {
  two_units_name_it = whole_only _ RegisterTwice 3 _ refl (inl (0, 1, ((false, codes "r" ∷ []), refl, (0, omega arith, refl)), ((false, codes "r" ∷ []), refl, (0, omega arith, refl)), λ e. omega (arith, e))) tt (record { loops = inl refl; twice = inr refl; names = inl refl; main = inl refl });
  one_action_names_it_twice = is_typed false _ refl refl;
  loop_names_it = whole_only _ RegisterTwice 4 _ refl (inr (inl (0, ((true, codes "r" ∷ []), refl, (0, omega arith, refl)), (codes "r" ∷ [], refl), refl))) tt (record { loops = inl refl; twice = inr refl; names = inl refl; main = inl refl });
  loop_names_one_of_each_index = is_typed false _ refl refl;
  no_unit_names_it = whole_only _ RegisterUnused 3 _ refl (λ u n. none_there u n.0 n.1) tt (record { loops = inl refl; twice = inl refl; names = inr refl; main = inl refl });
  uncalled_action_names_it = whole_only _ RegisterUnused 3 _ refl (λ u n. none_there u n.0 n.1) tt (record { loops = inl refl; twice = inl refl; names = inr refl; main = inl refl });
  branch_names_it = is_typed false _ refl refl;
}
