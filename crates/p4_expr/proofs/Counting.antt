-- How many operators an expression has.
use Rattle.std.proofs.Common.{◌≡◌, ℕ, ◌+◌, Bool, List, Option, ap, arith, refl}
use Rattle.elastic_ast.specs.declared.statements.Lval.{Lval}
use Rattle.elastic_ast.specs.Tree.{PlainExpr}
use Rattle.p4_expr.specs.Operators.{operators_in}

-- as many as a tree that it shows
pub counted : (e : PlainExpr) {x : PlainExpr} (left used fewer : ℕ) → x ≡ e → operators_in e ≡ used → left ≡ used + fewer → left ≡ operators_in x + fewer
counted e left used fewer is few sum = let same = ap operators_in is in omega (arith, same, few, sum)

pub test_counted : (header : List ℕ) → operators_in (PlainExpr.IsValid header) ≡ 1
unfolding operators_in
test_counted header = refl

pub number_counted : (width : Option ℕ) (value : ℕ) → operators_in (PlainExpr.Num width value) ≡ 0
unfolding operators_in
number_counted width value = refl

pub truth_counted : (which : Bool) → operators_in (PlainExpr.Truth which) ≡ 0
unfolding operators_in
truth_counted which = refl

pub name_counted : (name : List ℕ) → operators_in (PlainExpr.Named name) ≡ 0
unfolding operators_in
name_counted name = refl

pub place_counted : (lval : Lval) → operators_in (PlainExpr.At lval) ≡ 0
unfolding operators_in
place_counted lval = refl
