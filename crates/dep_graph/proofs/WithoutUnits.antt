-- A program without units has one placement, the empty one, and it is feasible where the sizes are.
use Rattle.std.proofs.Common.{◌≡◌, ℕ, ◌≤◌, List, [], length, map, sym, ap, subst, arith}
use Rattle.elastic_ast.specs.Tree.{PlainDecl}
use Rattle.elastic_ast.specs.Sizes.SizeSums.{symbols_of, Assumes}
use Rattle.elastic_ast.specs.Units.UnitsOf.{units_of}
use Rattle.elastic_ast.specs.Units.Instances.{nth_size, pair_of, instances}
use Rattle.target_desc.specs.declared.target.Target.{Target}
use Rattle.dep_graph.specs.Laid.{laid}
use Rattle.dep_graph.specs.HeaderBits.{header_bits}
use Rattle.dep_graph.specs.PlacementRules.{StagesExist, OrderIsKept, UsesFit}
use Rattle.dep_graph.specs.Feasible.{Feasible, placed_of}

pub feasible_without_units : (decls : List PlainDecl) (target : Target) (sizes : List ℕ) → units_of decls ≡ [] → length sizes ≡ length (symbols_of decls) → Assumes decls sizes → header_bits decls sizes ≤ target.header_bits → Feasible decls target sizes []
feasible_without_units decls target sizes none sized assumed header =
    let empty : [] ≡ placed_of decls sizes [] = sym (ap (λ units. laid (instances units (nth_size sizes)) []) none) in
    record {
      sized = sized;
      assumed = assumed;
      listed = sym (ap (λ units. map pair_of (instances units (nth_size sizes))) none);
      staged = subst (StagesExist target) empty tt;
      ordered = subst OrderIsKept empty tt;
      fitting = subst (UsesFit target (nth_size sizes)) empty (λ stage lt kind. omega arith);
      header = header;
    }
