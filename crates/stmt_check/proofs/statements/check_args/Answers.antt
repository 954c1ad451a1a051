use Rattle.std.proofs.Common.{refl, sym, ◌∙◌}
use Rattle.elastic_ast.specs.Typing.AskedInExpressions.{asks_bits}
use Rattle.elastic_ast.specs.Typing.AskedInStatements.{asks_args}
use Rattle.expr_types.specs.Placed.{scope_at}
use Rattle.stmt_check.proofs.StatementLaws.{value_stops, value_goes_on}
use Rattle.stmt_check.proofs.statements.check_args.Goals as goal

pub returns-in-Some-check_bits : goal.returns-in-Some-check_bits
returns-in-Some-check_bits c = value_stops c.args.allow_reserved (asks_bits (scope_at c.args.place.now)) (asks_args (scope_at c.args.place.now)) (λ x y xs ys. refl) _ _ _ _ _ _ _ _ c.loop-i-test.true c.index-args-i.is c.in-Some.ensures.lookup.3.0 c.in-Some.ensures.lookup.1 c.bits_of.ensures (sym c.in-Some-check_bits.is ∙ c.check_bits.ensures) c.loop-i.invariant

pub loop-i-preserved : goal.loop-i-preserved
loop-i-preserved c = value_goes_on c.args.allow_reserved (asks_bits (scope_at c.args.place.now)) (asks_args (scope_at c.args.place.now)) (λ x y xs ys. refl) _ _ _ _ _ _ _ c.loop-i-test.true c.index-args-i.is c.in-Some.ensures.lookup.3.0 c.in-Some.ensures.lookup.1 c.bits_of.ensures (sym c.in-None-check_bits.is ∙ c.check_bits.ensures) c.loop-i.invariant
