-- What is declared under the name that a piece of work calls; this project's own.
use Rattle.std.specs.Prelude.{◌≡◌, List, map, Option}
use denote.Bor.{Bor}
use Rattle.elastic_ast.specs.declared.declarations.Action.{Action}
use Rattle.elastic_ast.specs.declared.declarations.Table.{Table}
use Rattle.elastic_ast.specs.Tree.{Name, PlainDecl}
use Rattle.elastic_ast.specs.Typing.LookUps.{action_of}
use Rattle.expr_types.specs.ProgramParts.{table_shown}
use Rattle.unit_parts.specs.declared.callee.Callee.{Callee}
use Rattle.unit_parts.specs.declared.callee.Summary.{Summary}
use Rattle.unit_parts.specs.Summaries.{IsSummary}
use Rattle.unit_parts.specs.Called.{actions_shown, actions_in, Called, Nothing, OfAction, OfTable, table_called, actions_called}
use Rattle.unit_flow.specs.declared.called.Call.{Call}
use Rattle.unit_flow.specs.declared.called.Call.TheVariants as call

abbrev pub seen_call : Call → Called
seen_call call.Nothing = Nothing
seen_call (call.Action name) = OfAction name.now
seen_call (call.Table name) = OfTable name.now

pub record IsCallee (decls : List PlainDecl) (called : Called) (callee : Callee) : Type 0 where
  pub table : table_shown callee.table ≡ table_called decls called
  pub actions : actions_shown callee.actions.items ≡ actions_called decls called

-- references show the actions of some names, and those of a table
abbrev pub AreActions : List PlainDecl → List Name → List (Option (Bor Action)) → Type 0
AreActions decls names actions = actions_shown actions ≡ map (action_of decls) names

abbrev pub AreActionsOf : List PlainDecl → Option (Bor Table) → List (Option (Bor Action)) → Type 0
AreActionsOf decls table actions = actions_shown actions ≡ actions_in decls (table_shown table)

-- a summary of what is called, in a program
abbrev pub IsSummaryOf : List PlainDecl → Called → Summary → Type 0
IsSummaryOf decls called summary = IsSummary (table_called decls called) (actions_called decls called) summary

abbrev pub ShowsSummaryOf : List PlainDecl → Called → Bor Summary → Type 0
ShowsSummaryOf decls called summary = IsSummaryOf decls called summary.now
