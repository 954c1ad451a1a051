-- Why a declared name is refused; this project's own.
use Rattle.std.specs.Prelude.{Bool, not, ◌&&◌, ◌||◌, Option, Some, None, if◌then◌else◌}
use Rattle.elastic_ast.specs.declared.rule.Rule.{Rule}
use Rattle.elastic_ast.specs.declared.rule.Rule.TheVariants.{Twice, ReservedName}
use Rattle.elastic_ast.specs.Tree.{Name}
use Rattle.elastic_ast.specs.Typing.Scope.{among}
use Rattle.elastic_ast.specs.Typing.Demand.{fixed_names, has_underscores}

-- the rule that a declared name breaks, where it is known in its scope already or not
abbrev pub name_rule : Bool → Bool → Name → Option Rule
name_rule allow known name = if known || among fixed_names name then Some Twice else (if not allow && has_underscores name then Some ReservedName else None)
