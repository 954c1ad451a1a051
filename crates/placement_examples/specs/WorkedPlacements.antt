-- Which placements of small programs are feasible, which rule others break, and what is best, fact by fact; this project's own.
use Rattle.std.specs.Prelude.{ℕ, List, [], ◌∷◌}
use Rattle.elastic_ast.specs.declared.flat.At.{At}
use Rattle.elastic_ast.specs.Tree.{PlainDecl}
use Rattle.elastic_ast.specs.Sizes.SizeSums.{Assumes}
use Rattle.elastic_ast.specs.Units.UnitsOf.{units_of}
use Rattle.elastic_ast.specs.Units.Instances.{nth_size}
use Rattle.elastic_laws.specs.Examples.WorkedSources.{two_register_arrays, swap_then_set, changed_condition, two_staged_blocks, count_min_sketch}
use Rattle.target_desc.specs.declared.target.Target.{Target}
use Rattle.dep_graph.specs.PlacementRules.{ListsInstances, StagesExist, OrderIsKept, UsesFit}
use Rattle.dep_graph.specs.Feasible.{Feasible, placed_of}
use Rattle.dep_graph.specs.Optimum.{Best, Infeasible}
use Rattle.placement_examples.specs.WorkedTargets.{switch_with, put_at, set_then_copy, both_first, two_rows}

-- the rules that a placement of a program may break
abbrev pub Listed : List PlainDecl → List ℕ → List At → Type 0
Listed decls sizes placement = ListsInstances (units_of decls) (nth_size sizes) placement

abbrev pub Staged : List PlainDecl → Target → List ℕ → List At → Type 0
Staged decls target sizes placement = StagesExist target (placed_of decls sizes placement)

abbrev pub Ordered : List PlainDecl → List ℕ → List At → Type 0
Ordered decls sizes placement = OrderIsKept (placed_of decls sizes placement)

abbrev pub Fitting : List PlainDecl → Target → List ℕ → List At → Type 0
Fitting decls target sizes placement = UsesFit target (nth_size sizes) (placed_of decls sizes placement)

-- Two registers whose cells are chosen share the memory of one stage.
pub record ArraysOnOneStage : Type 0 where
  pub fits : Feasible two_register_arrays (switch_with 1 2) (27 ∷ 5 ∷ []) both_first
  pub is_best : Best two_register_arrays (switch_with 1 2) (27 ∷ 5 ∷ []) both_first
  pub over : ¬ Fitting two_register_arrays (switch_with 1 2) (28 ∷ 5 ∷ []) both_first
  pub terms : ¬ Assumes two_register_arrays (27 ∷ 4 ∷ [])
  pub short : ¬ Listed two_register_arrays (27 ∷ 5 ∷ []) (put_at 0 0 0 ∷ [])
  pub long : ¬ Listed two_register_arrays (27 ∷ 5 ∷ []) (put_at 0 0 0 ∷ put_at 1 0 0 ∷ put_at 1 0 0 ∷ [])
  pub other_index : ¬ Listed two_register_arrays (27 ∷ 5 ∷ []) (put_at 0 1 0 ∷ put_at 1 0 0 ∷ [])
  pub other_unit : ¬ Listed two_register_arrays (27 ∷ 5 ∷ []) (put_at 0 0 0 ∷ put_at 2 0 0 ∷ [])
  pub no_stage : ¬ Staged two_register_arrays (switch_with 1 2) (27 ∷ 5 ∷ []) (put_at 0 0 1 ∷ put_at 1 0 0 ∷ [])

-- Two assignments: what the first reads, the second may assign in the same stage; what the first assigns, the second may not read
-- there. A condition stands before its branches.
pub record OrdersOnStages : Type 0 where
  pub swapped : Feasible swap_then_set (switch_with 1 2) [] both_first
  pub copied : ¬ Ordered set_then_copy [] both_first
  pub no_copy : Infeasible set_then_copy (switch_with 1 2)
  pub condition_fits :
      Feasible changed_condition (switch_with 2 2) [] (put_at 0 0 0 ∷ put_at 1 0 1 ∷ put_at 2 0 1 ∷ [])
  pub condition_late : ¬ Ordered changed_condition [] (put_at 0 0 1 ∷ put_at 1 0 1 ∷ put_at 2 0 1 ∷ [])
  pub branch_early : ¬ Ordered changed_condition [] (put_at 0 0 0 ∷ put_at 1 0 1 ∷ put_at 2 0 0 ∷ [])
  pub blocks_fit : Feasible two_staged_blocks (switch_with 2 2) [] (put_at 0 0 0 ∷ put_at 1 0 1 ∷ [])
  pub blocks_turned : ¬ Ordered two_staged_blocks [] (put_at 0 0 1 ∷ put_at 1 0 0 ∷ [])

-- Two rows of a count-min sketch, on three stages with one register each: each row counts before its count is compared, and the
-- comparisons stand one after the other.
pub record RowsOnStages : Type 0 where
  pub fit : Feasible count_min_sketch (switch_with 3 1) (2 ∷ 32 ∷ []) (two_rows 0 0 1 1 2)
  pub compared_at_once : ¬ Ordered count_min_sketch (2 ∷ 32 ∷ []) (two_rows 0 0 1 1 1)
  pub started_late : ¬ Ordered count_min_sketch (2 ∷ 32 ∷ []) (two_rows 2 2 2 2 2)
  pub turned : ¬ Ordered count_min_sketch (2 ∷ 32 ∷ []) (two_rows 0 1 2 0 1)
  pub counted_late : ¬ Ordered count_min_sketch (2 ∷ 32 ∷ []) (two_rows 0 1 1 1 2)
  pub two_registers : ¬ Fitting count_min_sketch (switch_with 3 1) (2 ∷ 32 ∷ []) (two_rows 0 0 1 0 2)
  pub many_columns : ¬ Fitting count_min_sketch (switch_with 3 1) (2 ∷ 33 ∷ []) (two_rows 0 0 1 1 2)
  pub no_fourth : ¬ Staged count_min_sketch (switch_with 3 1) (2 ∷ 32 ∷ []) (two_rows 0 0 1 1 3)
  pub row_left_out :
      ¬ Listed count_min_sketch (2 ∷ 32 ∷ []) (put_at 0 0 0 ∷ put_at 1 0 0 ∷ put_at 2 0 1 ∷ put_at 1 1 1 ∷ [])
