-- A fault says that the pair isn't feasible; this project's own.
use Rattle.std.specs.Prelude.{List, ℕ}
use Rattle.elastic_ast.specs.declared.flat.At.{At}
use Rattle.elastic_ast.specs.Units.PlainUnits.{PlainUnits}
use Rattle.target_desc.specs.declared.target.Target.{Target}
use Rattle.place_check.specs.declared.fault.PlaceFault.{PlaceFault}
use Rattle.place_check.specs.FirstFault.{AllHold, FirstFault}

-- where there is a fault, not all clauses hold
abbrev pub FaultsExclude : Type 0
FaultsExclude =
    (units : PlainUnits) (target : Target) (sizes : List ℕ) (placement : List At) (fault : PlaceFault) → FirstFault units target sizes placement fault → AllHold units target sizes placement → ⊥
