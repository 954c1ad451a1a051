use Rattle.std.proofs.Common.{take}
use Rattle.decl_check.specs.CallerSizes.{HasCallersIn}
use Rattle.decl_check.proofs.callers.+walk.Given as goal

abbrev pub invariant-add_callers_in-loop-stmt : goal.invariant-add_callers_in-loop-stmt
invariant-add_callers_in-loop-stmt l = HasCallersIn l.names l.around (take l.stmt-index l.stmts) l.initial.sizes l.sizes
