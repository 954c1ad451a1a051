use Rattle.std.proofs.Common.{◌≡◌, drop}
use Rattle.register_uses.specs.LocalTables.{named_by_actions}
use Rattle.register_uses.specs.Summaries.{both, plain_summary, summed}
use Rattle.register_uses.proofs.tables.of_actions.Given as goal

abbrev pub invariant-loop-name : goal.invariant-loop-name
invariant-loop-name l = both (plain_summary l.summary) (summed (named_by_actions l.actions (drop l.name-index l.names))) ≡ summed (named_by_actions l.actions l.names)
