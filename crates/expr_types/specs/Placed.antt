-- What the checker's own types are in the definitions: where an expression stands, the type of one, and the sort of an operator.
use Rattle.std.specs.Prelude.{Bool, if◌then◌else◌, List, [], map, Option, Some, None}
use Rattle.std.specs.Option.{option_copied}
use denote.Bor.{Bor}
use Rattle.elastic_ast.specs.declared.declarations.Param.{Param}
use Rattle.elastic_ast.specs.declared.rule.Rule.{Rule}
use Rattle.elastic_ast.specs.Typing.Scope as rules
use Rattle.elastic_ast.specs.Typing.Types as rules_types
use Rattle.elastic_ast.specs.Typing.AskedInExpressions.{names_at}
use Rattle.elastic_ast.specs.OperatorSorts as operators
use Rattle.expr_types.specs.declared.place.Place.{Place}
use Rattle.expr_types.specs.declared.types.Ty.{Ty}
use Rattle.expr_types.specs.declared.types.Ty.TheVariants as type
use Rattle.expr_types.specs.declared.types.Sort.{Sort}
use Rattle.expr_types.specs.declared.types.Sort.TheVariants as sort
use Rattle.expr_types.specs.Agreeing.{name_now}
use Rattle.expr_types.specs.Scoped.{before_of}

abbrev pub seen_type : Ty → rules_types.Ty
seen_type (type.Bits width) = rules_types.Bits width
seen_type type.Bare = rules_types.Bare
seen_type type.Truth = rules_types.Truth
seen_type type.Unknown = rules_types.Unknown

abbrev pub seen_sort : Sort → operators.Sort
seen_sort sort.Logic = operators.Logic
seen_sort sort.Comparison = operators.Comparison
seen_sort sort.Shift = operators.Shift
seen_sort sort.Joining = operators.Joining
seen_sort sort.Arithmetic = operators.Arithmetic

abbrev pub params_in : Option (Bor (List Param)) → List Param
params_in None = []
params_in (Some params) = params.now

abbrev pub scope_at : Place → rules.Scope
scope_at place = record { before = before_of place.scope.now; params = params_in place.params; index = option_copied place.index; sizes = map name_now place.sizes.names.now }

abbrev pub names_in_place : Place → rules_types.Names
names_in_place place = names_at (scope_at place)

-- a rule, where what it asks isn't met
abbrev pub unmet : Bool → Rule → Option Rule
unmet met rule = if met then None else Some rule
