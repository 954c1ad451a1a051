-- What is answered of the bounds of a program on a target: no two of these answers stand together.
use Rattle.std.proofs.Common.{◌≡◌, ℕ, ◌<◌, ◌≤◌, List, true, length, get_or, Option, Some, None, sym, ap, ◌∙◌, subst, true≢false, arith, inl, inr}
use Rattle.std.specs.Prelude.{◌⊎◌}
use Rattle.std.proofs.lemmas.Grind.{same_number_lists}
use Rattle.std.proofs.lemmas.List.Elements.{All-get_or}
use Rattle.elastic_ast.specs.Tree.{PlainProgram}
use Rattle.elastic_ast.specs.Typing.Asked.{DeclKind, has}
use Rattle.elastic_ast.specs.Units.PlainUnits.{PlainUnits}
use Rattle.target_desc.specs.declared.target.Target.{Target}
use Rattle.unroll_bound.specs.BoundAnswers.{most_bound, HaveBounds, AreBoundsWithin, IsMoreAt}
use Rattle.unroll_bound.specs.ProgramUnits.{units_of_program}
use Rattle.unroll_bound.specs.UnitBounds.{bound_of_units}
use Rattle.unroll_bound.specs.declared.unit_bounds.What.{What}
use Rattle.unroll_bound.specs.declared.unit_bounds.What.TheVariants as what
use Rattle.size_search.specs.Choice.{AreBoundsOf, IsUnbounded, IsLarge}

-- units have one list of bounds on a target
pub one_bounds : (units : PlainUnits) (on : Target) (bounds other : List ℕ) → HaveBounds units on bounds → HaveBounds units on other → bounds ≡ other
one_bounds units on bounds other a b =
    same_number_lists bounds other (a.dense ∙ sym b.dense)
    (λ k h. let within : k < length units.terms.symbols = let d = a.dense in omega (arith, d, h) in same (get_or bounds k 0) (get_or other k 0) (sym (a.each k within) ∙ b.each k within))
  where
    same : (x y : ℕ) → Some x ≡ Some y → x ≡ y
    same x y e = cc

missing_or_not : (found : Option ℕ) (bound : ℕ) → found ≡ Some bound → found ≡ None → ⊥
missing_or_not found bound e f = cc

-- where there are bounds, no symbol has none
pub never_missing : (decls : PlainProgram) (on : Target) (bounds : List ℕ) (place : ℕ) → HaveBounds (units_of_program decls) on bounds → IsUnbounded decls on place → ⊥
never_missing decls on bounds place have unbounded =
    missing_or_not (bound_of_units (units_of_program decls) on place) (get_or bounds place 0) (have.each place unbounded.within) unbounded.missing

-- at bounds that are taken nothing is too large
none_more : (units : PlainUnits) (on : Target) (bounds : List ℕ) (part : What) (count : ℕ) → AreBoundsWithin units on bounds → IsMoreAt units on bounds part count → ⊥
none_more units on bounds what.Bound count are more =
    let small = All-get_or (λ bound. bound ≤ most_bound) bounds more.symbol 0 more.within are.small in
    let e = more.here in
    let above = more.above in
    absurd (omega (arith, e, above, small))
none_more units on bounds what.Instances count are more =
    let most = are.instances in
    let e = more.1 in
    let above = more.2 in
    absurd (omega (arith, e, above, most))
none_more units on bounds what.Variables count are more =
    let most = are.variables in
    let e = more.2 in
    let above = more.3 in
    absurd (omega (arith, e, above, most))
none_more units on bounds what.Rows count are more =
    let most = are.rows in
    let e = more.3 in
    let above = more.4 in
    absurd (omega (arith, e, above, most))

pub never_large : (decls : PlainProgram) (on : Target) (bounds : List ℕ) (part : What) (count : ℕ) → AreBoundsOf decls on bounds → IsLarge decls on part count → ⊥
never_large decls on bounds part count are large =
    let same = one_bounds (units_of_program decls) on large.bounds bounds large.found are.found in
    none_more (units_of_program decls) on bounds part count are (subst (λ (z : List ℕ). IsMoreAt (units_of_program decls) on z part count) same large.more)
