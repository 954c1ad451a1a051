use Rattle.std.proofs.Common.{◌≡◌, [], take, drop}
use Rattle.decl_check.specs.ActionRules.{locals_break}
use Rattle.decl_check.proofs.locals.check_locals.Given as goal

abbrev pub invariant-loop-i : goal.invariant-loop-i
invariant-loop-i l = locals_break l.allow_reserved l.scope l.body (take l.i l.locals) (drop l.i l.locals) ≡ locals_break l.allow_reserved l.scope l.body [] l.locals
