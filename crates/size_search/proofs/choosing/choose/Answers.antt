use Rattle.std.proofs.Common.{ℕ, List, sym, subst}
use Rattle.elastic_ast.specs.Units.SeenUnits.{seen_units}
use Rattle.unroll_bound.specs.BoundAnswers.{AreBoundsWithin}
use Rattle.size_search.proofs.ChoiceLaws.{unbounded_is, large_is, chosen_is}
use Rattle.size_search.proofs.choosing.choose.Goals as goal

pub returns-in-Err-Unbounded-clause-choice : goal.returns-in-Err-Unbounded-clause-choice
returns-in-Err-Unbounded-clause-choice c decls known =
    rw c.in-Err-Unbounded.symbol-is (unbounded_is decls (seen_units c.args.units.now) c.args.target.now c.in-Err-Unbounded.symbol known (rw c.in-Err-Unbounded.field-0-is at c.in-Err-Unbounded.ensures.refused))

pub returns-in-Err-TooLarge-clause-choice : goal.returns-in-Err-TooLarge-clause-choice
returns-in-Err-TooLarge-clause-choice c decls known =
    rw c.in-Err-TooLarge.what-is (rw c.in-Err-TooLarge.count-is (large_is decls (seen_units c.args.units.now) c.args.target.now c.in-Err-TooLarge.what c.in-Err-TooLarge.count known (rw c.in-Err-TooLarge.field-0-is at c.in-Err-TooLarge.ensures.refused)))

pub returns-clause-choice : goal.returns-clause-choice
returns-clause-choice c decls known =
    let P : List ℕ → Type 0 = AreBoundsWithin (seen_units c.args.units.now) c.args.target.now in
    chosen_is decls (seen_units c.args.units.now) c.args.target.now c.as_slice.result.now c.args.limit known
    (subst P (sym c.as_slice.ensures) c.in-Ok.ensures.found) c.chosen.result c.chosen.ensures
