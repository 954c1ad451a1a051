-- What is kept of what pieces of work call; this project's own.
use Rattle.std.specs.Prelude.{◌≡◌, List, Option}
use Rattle.elastic_ast.specs.Tree.{PlainAction, PlainTable}
use Rattle.elastic_ast.specs.Units.Reach.{each_once}
use Rattle.unit_parts.specs.declared.callee.Summary.{Summary}
use Rattle.unit_parts.specs.Capped.{capped}
use Rattle.unit_parts.specs.Called.{callee_reads, callee_assigns, greatest_ops}

-- a summary of a table and of actions
pub record IsSummary (table : Option PlainTable) (actions : List (Option PlainAction)) (summary : Summary) : Type 0 where
  pub reads : summary.reads ≡ each_once (callee_reads table actions)
  pub writes : summary.writes ≡ each_once (callee_assigns actions)
  pub ops : summary.ops ≡ capped (greatest_ops actions)
