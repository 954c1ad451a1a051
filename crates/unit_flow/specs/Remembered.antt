-- Summaries under names; this project's own.
use Rattle.std.specs.Prelude.{◌≡◌, ℕ, List, Option, Some, None, IfSome, if◌then◌else◌}
use denote.Bor.{Bor}
use Rattle.elastic_ast.specs.Tree.{Name, PlainDecl}
use Rattle.elastic_ast.specs.Typing.Scope.{same}
use Rattle.program_names.specs.FirstNamed.{entry_value}
use Rattle.unit_parts.specs.declared.callee.Summary.{Summary}
use Rattle.unit_parts.specs.Called.{Called, Nothing, OfAction, OfTable}
use Rattle.unit_flow.specs.declared.summaries.Summaries.{Summaries}
use Rattle.unit_flow.specs.declared.called.Call.{Call}
use Rattle.unit_flow.specs.Callees.{IsSummaryOf, seen_call}

abbrev pub SummaryEntries : Type 0
SummaryEntries = List (Bor (List ℕ) × Summary)

-- a name has got a summary
abbrev pub Puts : SummaryEntries → SummaryEntries → Name → Summary → Type 0
Puts old new key summary = (name : Name) → entry_value new name ≡ (if same name key then Some summary else entry_value old name)

-- what it has got is a summary of what is called
pub record PutsCall (decls : List PlainDecl) (call : Call) (old new : SummaryEntries) (key : Name) : Type 0 where
  pub summary : Summary
  pub puts : Puts old new key summary
  pub is_summary : IsSummaryOf decls (seen_call call) summary

-- what stands under a name is a summary of what the program declares under it
abbrev pub Tell : List PlainDecl → (Name → Called) → SummaryEntries → Type 0
Tell decls calls entries = (name : Name) → IfSome (entry_value entries name) (IsSummaryOf decls (calls name))

pub record AreSummaries (decls : List PlainDecl) (known : Summaries) : Type 0 where
  pub actions : Tell decls OfAction known.actions.entries
  pub tables : Tell decls OfTable known.tables.entries

-- the summary that is known of what is called
abbrev pub summary_under : Summaries → Called → Option Summary
summary_under known Nothing = None
summary_under known (OfAction name) = entry_value known.actions.entries name
summary_under known (OfTable name) = entry_value known.tables.entries name
