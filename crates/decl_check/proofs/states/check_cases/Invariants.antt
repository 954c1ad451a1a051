use Rattle.std.proofs.Common.{◌≡◌, drop}
use Rattle.decl_check.specs.StateRules.{cases_break}
use Rattle.decl_check.proofs.states.check_cases.Given as goal

abbrev pub invariant-loop-case : goal.invariant-loop-case
invariant-loop-case l = cases_break l.allow_reserved l.scope l.states l.width (drop l.case-index l.cases) ≡ cases_break l.allow_reserved l.scope l.states l.width l.cases
