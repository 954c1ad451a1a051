use Rattle.std.proofs.Common.{refl, sym, ◌∙◌, map}
use Rattle.elastic_ast.specs.Seen.{seen_keyset}
use Rattle.elastic_ast.specs.Typing.AskedInLocals.{asks_sets}
use Rattle.expr_types.specs.Scoped.{before_of}
use Rattle.stmt_check.proofs.Steps.{not_some, pair_stops, pair_goes_on}
use Rattle.stmt_check.proofs.StatementLaws.{asks_one}
use Rattle.decl_check.proofs.match_tables.check_sets.Goals as goal

pub returns-in-Some-check_key_set : goal.returns-in-Some-check_key_set
returns-in-Some-check_key_set c = pair_stops c.args.allow_reserved (asks_one (before_of c.args.scope.now)) (λ sets keys. asks_sets (before_of c.args.scope.now) (map seen_keyset sets) keys) (λ x y xs ys. refl) _ _ _ _ _ _ _ c.loop-i-test.true c.index-sets-i.is c.in-Some.ensures.lookup.3.0 c.in-Some.ensures.lookup.1 (sym c.in-Some-check_key_set.is ∙ c.check_key_set.ensures) c.loop-i.invariant

pub loop-i-preserved : goal.loop-i-preserved
loop-i-preserved c = pair_goes_on c.args.allow_reserved (asks_one (before_of c.args.scope.now)) (λ sets keys. asks_sets (before_of c.args.scope.now) (map seen_keyset sets) keys) (λ x y xs ys. refl) _ _ _ _ _ _ c.loop-i-test.true c.index-sets-i.is c.in-Some.ensures.lookup.3.0 c.in-Some.ensures.lookup.1 (sym (not_some _ c.in_default-check_key_set.not-Some) ∙ c.check_key_set.ensures) c.loop-i.invariant
