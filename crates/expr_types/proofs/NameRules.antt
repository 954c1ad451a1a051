-- The first broken rule of one more name.
use Rattle.std.proofs.Common.{◌≡◌, Bool, true, false, not, ◌&&◌, ◌||◌, List, [], ◌∷◌, Some, None, refl}
use Rattle.std.specs.Prelude.{if◌then◌else◌}
use Rattle.elastic_ast.specs.declared.rule.Rule.{Rule}
use Rattle.elastic_ast.specs.Tree.{Name}
use Rattle.elastic_ast.specs.Typing.Scope.{among}
use Rattle.elastic_ast.specs.Typing.Demand.{first_broken, fixed_names, has_underscores}
use Rattle.elastic_ast.specs.Typing.AskedOfNames.{asks_names}
use Rattle.expr_types.specs.DeclaredNames.{name_rule}

rules_of : (allow a b c : Bool) (r s : Rule) → (if (not a && not b) then (if (allow || not c) then None else Some s) else Some r) ≡ (if a || b then Some r else (if not allow && c then Some s else None))
rules_of allow true b c r s = refl
rules_of allow false true c r s = refl
rules_of true false false c r s = refl
rules_of false false false true r s = refl
rules_of false false false false r s = refl

-- the first broken rule of one more name
pub rule_is : (allow : Bool) (before : List Name) (n : Name) → first_broken allow (asks_names before (n ∷ [])) ≡ name_rule allow (among before n) n
rule_is allow before n = rules_of allow (among before n) (among fixed_names n) (has_underscores n) _ _
