use Rattle.std.proofs.Common.{◌≡◌, map, take}
use Rattle.decl_check.specs.RegisterFree.{register_free_local}
use Rattle.decl_check.proofs.register_free.register_free_locals.Given as goal

abbrev pub invariant-loop-local : goal.invariant-loop-local
invariant-loop-local l = l.free.items ≡ map register_free_local (take l.local-index l.locals)
