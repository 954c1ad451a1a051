use Rattle.std.proofs.Common.{refl, sym, ◌∙◌}
use Rattle.elastic_ast.specs.Typing.AskedInLocals.{asks_value, asks_values}
use Rattle.expr_types.specs.Scoped.{before_of}
use Rattle.stmt_check.proofs.Steps.{not_some}
use Rattle.stmt_check.proofs.StatementLaws.{value_stops, value_goes_on}
use Rattle.decl_check.proofs.match_tables.check_values.Goals as goal

pub returns-in-Some-check_value : goal.returns-in-Some-check_value
returns-in-Some-check_value c = value_stops c.args.allow_reserved (asks_value (before_of c.args.scope.now)) (asks_values (before_of c.args.scope.now)) (λ x y xs ys. refl) _ _ _ _ _ _ _ _ c.loop-i-test.true c.index-values-i.is c.in-Some.ensures.lookup.3.0 c.in-Some.ensures.lookup.1 c.bits_of.ensures (sym c.in-Some-check_value.is ∙ c.check_value.ensures) c.loop-i.invariant

pub loop-i-preserved : goal.loop-i-preserved
loop-i-preserved c = value_goes_on c.args.allow_reserved (asks_value (before_of c.args.scope.now)) (asks_values (before_of c.args.scope.now)) (λ x y xs ys. refl) _ _ _ _ _ _ _ c.loop-i-test.true c.index-values-i.is c.in-Some.ensures.lookup.3.0 c.in-Some.ensures.lookup.1 c.bits_of.ensures (sym (not_some _ c.in_default-check_value.not-Some) ∙ c.check_value.ensures) c.loop-i.invariant
