use Rattle.std.proofs.Common.{◌≡◌, drop}
use Rattle.elastic_ast.specs.Typing.AskedInLocals.{asks_param}
use Rattle.stmt_check.specs.PlaceRules.{each_breaks}
use Rattle.decl_check.proofs.actions.check_params.Given as goal

abbrev pub invariant-loop-param : goal.invariant-loop-param
invariant-loop-param l = each_breaks l.allow_reserved asks_param (drop l.param-index l.params) ≡ each_breaks l.allow_reserved asks_param l.params
