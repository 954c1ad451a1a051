use Rattle.std.proofs.Common.{◌≡◌, ℕ, ◌+◌, ◌-◌, ◌*◌, List}
use Rattle.elastic_ast.specs.Seen.{seen_expr}
use Rattle.elastic_ast.specs.Tree.{PlainExpr}
use Rattle.spelling.specs.Words.{Word}
use Rattle.spelling.specs.Reading.{ahead, Takes, MayTake}
use Rattle.p4_expr.specs.Operators.{operators_in}
use Rattle.p4_expr.specs.Expressions.{SpellsLevel, SpellsPrimary}
use Rattle.p4_expr.specs.Standing.{GoesNoFurther}
use Rattle.p4_expr.proofs.StepsLeft.{StepsLeft}
use Rattle.p4_expr.proofs.SlicesLeft.{SlicesLeft}
use Rattle.p4_expr.proofs.reading.+expressions.Given as goal

abbrev pub decreases-base : goal.decreases-base
decreases-base l = l.depth * 20 + l.left + 1

abbrev pub decreases-hash_of : goal.decreases-hash_of
decreases-hash_of l = l.depth * 20 + l.left

abbrev pub decreases-in_brackets : goal.decreases-in_brackets
decreases-in_brackets l = l.depth * 20 + l.left

abbrev pub decreases-level : goal.decreases-level
decreases-level l = l.depth * 20 + l.left + l.level + 4

abbrev pub decreases-prefixed : goal.decreases-prefixed
decreases-prefixed l = l.depth * 20 + l.left + 3

abbrev pub decreases-primary : goal.decreases-primary
decreases-primary l = l.depth * 20 + l.left + 2

abbrev pub invariant-level-operators : goal.invariant-level-operators
invariant-level-operators l = record {
  taken : Takes (SpellsLevel l.depth l.level (seen_expr l.e)) (ahead l.fn.reader) (ahead l.reader);
  count : l.fn.left ≡ operators_in (seen_expr l.e) + l.left;
  below : GoesNoFurther (l.level - 1) (ahead l.reader);
  still : (more : ℕ) (e : PlainExpr) (rest : List Word) → MayTake (SpellsLevel more l.level e) (ahead l.fn.reader) rest → StepsLeft more l.level (l.level - 1) (seen_expr l.e) e (ahead l.reader) rest;
}

abbrev pub decreases-level-operators : goal.decreases-level-operators
decreases-level-operators l = l.left

abbrev pub invariant-primary-slices : goal.invariant-primary-slices
invariant-primary-slices l = record {
  taken : Takes (SpellsPrimary l.depth (seen_expr l.e)) (ahead l.fn.reader) (ahead l.reader);
  count : l.fn.left ≡ operators_in (seen_expr l.e) + l.left;
  still : (more : ℕ) (e : PlainExpr) (rest : List Word) → MayTake (SpellsPrimary more e) (ahead l.fn.reader) rest → SlicesLeft more (seen_expr l.e) e (ahead l.reader) rest;
}

abbrev pub decreases-primary-slices : goal.decreases-primary-slices
decreases-primary-slices l = l.left
