use Rattle.std.proofs.Common.{refl, false, true, inl, arith}
use Rattle.elastic_ast.specs.Typing.Demand.{Known, Constant}
use Rattle.elastic_laws.proofs.Typing.UnmetLaws.{is_typed, broken_rule, fixed_names, std_fields}
use Rattle.elastic_laws.proofs.typing_examples.names_may_break_two_rules.Goals as goal

pub returns : goal.returns
unfolding broken_rule fixed_names std_fields
returns c = record {
  set_is_unknown = (_, refl, inl (Known false, (17, omega arith, refl), refl, refl));
  set_is_no_constant = (_, refl, inl (Constant false, (18, omega arith, refl), refl, refl));
  underscores_are_allowed = is_typed true _ refl refl;
}
