-- A name behind so many prefixes has so many operators.
use Rattle.std.proofs.Common.{◌≡◌, ℕ, zero, suc, ◌≤◌, codes, refl, arith}
use Rattle.elastic_ast.specs.OperatorSorts.{Turn}
use Rattle.p4_expr.specs.Operators.{operators_in}
use Rattle.p4_expr.specs.Expressions.{SpellsPrefixed, SpellsLevel, SpellsExpr, HasFewOperators, most_operators}
use Rattle.p4_expr.specs.Examples.{turned, turned_words}
use Rattle.p4_expr.proofs.Building.{sign_last, prefixed_name, lift, is_coded}

turned_prefixed : (n : ℕ) → SpellsPrefixed 0 (turned n) (turned_words n)
turned_prefixed zero = prefixed_name 0 (codes "a") _ refl refl
turned_prefixed (suc n) = SpellsPrefixed.unary Turn _ (turned_words n) (is_coded Turn refl) (sign_last (codes "~") 19 _ refl refl) (turned_prefixed n) refl

turned_operators : (n : ℕ) → operators_in (turned n) ≡ n
unfolding operators_in
turned_operators zero = refl
turned_operators (suc n) = let e = turned_operators n in omega (arith, e)

pub prefixes_spelled : (n : ℕ) → SpellsExpr 0 (turned n) (turned_words n)
prefixes_spelled n = lift 10 (SpellsLevel.prefixed (turned_prefixed n))

pub few_prefixes : (n : ℕ) → n ≤ most_operators → HasFewOperators (turned n)
few_prefixes n few = let e = turned_operators n in omega (arith, e, few)

pub no_more_prefixes : (n : ℕ) → HasFewOperators (turned n) → n ≤ most_operators
no_more_prefixes n few = let e = turned_operators n in omega (arith, e, few)
