-- The best sizes and placement of a program on a target, of all that there are; this project's own.
use Rattle.std.specs.Prelude.{ℕ, List, ◌≤ℤ◌}
use Rattle.elastic_ast.specs.declared.flat.At.{At}
use Rattle.elastic_ast.specs.Tree.{PlainProgram}
use Rattle.elastic_ast.specs.Sizes.SizeSums.{utility}
use Rattle.target_desc.specs.declared.target.Target.{Target}
use Rattle.dep_graph.specs.Feasible.{Feasible}

-- sizes and a placement are feasible, and no feasible ones have a greater utility
pub record Best (decls : PlainProgram) (target : Target) (sizes : List ℕ) (placement : List At) : Type 0 where
  pub feasible : Feasible decls target sizes placement
  pub most : (other : List ℕ) (places : List At) → Feasible decls target other places → utility decls other ≤ℤ utility decls sizes

-- no sizes and no placement are feasible
abbrev pub Infeasible : PlainProgram → Target → Type 0
Infeasible decls target = (sizes : List ℕ) (placement : List At) → Feasible decls target sizes placement → ⊥
