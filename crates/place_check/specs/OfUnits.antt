-- Feasible sizes and placements of units, and what they say of the program that the units are of; this project's own.
use Rattle.std.specs.Prelude.{◌≡◌, ◌↔◌, ℕ, List, length, ◌≤ℤ◌}
use Rattle.elastic_ast.specs.declared.flat.At.{At}
use Rattle.elastic_ast.specs.Tree.{PlainDecl}
use Rattle.elastic_ast.specs.Sizes.SizeSums.{symbols_of}
use Rattle.elastic_ast.specs.Units.PlainUnits.{PlainUnits}
use Rattle.elastic_ast.specs.Units.UnitsOf.{UnitsOf}
use Rattle.size_terms.specs.Rows.{worth}
use Rattle.size_terms.specs.TermsMean.{SayAssumes, SayUtility}
use Rattle.target_desc.specs.declared.target.Target.{Target}
use Rattle.dep_graph.specs.Feasible.{Feasible}
use Rattle.dep_graph.specs.Optimum.{Best, Infeasible}
use Rattle.place_check.specs.FirstFault.{AllHold}

-- there is one size per symbol, and all clauses hold
pub record FeasibleUnits (units : PlainUnits) (target : Target) (sizes : List ℕ) (placement : List At) : Type 0 where
  pub sized : length sizes ≡ length units.terms.symbols
  pub holds : AllHold units target sizes placement

-- these are the units of the program, with its terms
pub record AreUnitsOf (decls : List PlainDecl) (units : PlainUnits) : Type 0 where
  pub units_are : UnitsOf decls units
  pub symbols : units.terms.symbols ≡ symbols_of decls
  pub assumes : SayAssumes decls units.terms
  pub utility : SayUtility decls units.terms

-- sizes and a placement are feasible of the units exactly where they are of the program
abbrev pub FeasibleAlike : Type 0
FeasibleAlike =
    (decls : List PlainDecl) (units : PlainUnits) (target : Target) (sizes : List ℕ) (placement : List At)
    → AreUnitsOf decls units
    → FeasibleUnits units target sizes placement ↔ Feasible decls target sizes placement

-- sizes and a placement are feasible of units, and no feasible ones are worth more
pub record BestUnits (units : PlainUnits) (target : Target) (sizes : List ℕ) (placement : List At) : Type 0 where
  pub feasible : FeasibleUnits units target sizes placement
  pub most : (other : List ℕ) (places : List At) → FeasibleUnits units target other places → worth units.terms other ≤ℤ worth units.terms sizes

-- no sizes and no placement are feasible of units
abbrev pub InfeasibleUnits : PlainUnits → Target → Type 0
InfeasibleUnits units target = (sizes : List ℕ) (placement : List At) → FeasibleUnits units target sizes placement → ⊥

-- the best of the units are the best of the program
abbrev pub BestAlike : Type 0
BestAlike =
    (decls : List PlainDecl) (units : PlainUnits) (target : Target) (sizes : List ℕ) (placement : List At)
    → AreUnitsOf decls units
    → BestUnits units target sizes placement ↔ Best decls target sizes placement

-- none are feasible of the units exactly where none are of the program
abbrev pub InfeasibleAlike : Type 0
InfeasibleAlike =
    (decls : List PlainDecl) (units : PlainUnits) (target : Target)
    → AreUnitsOf decls units
    → InfeasibleUnits units target ↔ Infeasible decls target
