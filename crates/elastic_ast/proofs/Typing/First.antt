-- The first broken rule of a list of demands, part by part.
use Rattle.std.proofs.Common.{◌≡◌, Bool, true, false, List, [], ◌∷◌, ◌++◌, Option, Some, refl}
use Rattle.std.specs.Prelude.{if◌then◌else◌}
use Rattle.elastic_ast.specs.declared.rule.Rule.{Rule}
use Rattle.elastic_ast.specs.Typing.Scope.{or_else}
use Rattle.elastic_ast.specs.Typing.Demand.{Demand, met, rule_of, first_broken}

on_test : (b : Bool) (r : Rule) (x y z : Option Rule) → x ≡ or_else y z → (if b then x else Some r) ≡ or_else (if b then y else Some r) z
on_test true r x y z h = h
on_test false r x y z h = refl

-- of two lists, one after the other, it is the first's, or else the second's
pub first-append : (allow : Bool) (xs ys : List Demand) → first_broken allow (xs ++ ys) ≡ or_else (first_broken allow xs) (first_broken allow ys)
first-append allow [] ys = refl
first-append allow (q ∷ qs) ys = on_test (met allow q) (rule_of q) _ _ _ (first-append allow qs ys)

pub ruleset firsts = (first-append)
