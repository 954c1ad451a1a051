-- What the units of small programs are, fact by fact; this project's own.
use Rattle.std.specs.Prelude.{◌≡◌, true, false, [], ◌∷◌, Some, None, codes}
use Rattle.elastic_ast.specs.declared.flat.Cells.TheVariants as cells
use Rattle.elastic_ast.specs.declared.flat.Location.TheVariants as location
use Rattle.elastic_ast.specs.Tree.{PlainStmt}
use Rattle.elastic_ast.specs.Units.PlainUnits.{PlainWork}
use Rattle.elastic_ast.specs.Units.UnitsOf.{units_of, fixed_bits, symbol_bits}
use Rattle.elastic_ast.specs.OperatorSorts.{operators_in}
use Rattle.elastic_ast.specs.Units.Instances.{instances_of}
use Rattle.elastic_ast.specs.Units.Order.{Relation}
use Rattle.elastic_ast.specs.Units.FlatNames.{flat_name, SameRegisters}
use Rattle.elastic_laws.specs.Examples.WorkedProgram.{assign, is}
use Rattle.elastic_laws.specs.Examples.WorkedSources.{of_meta, call_in_row, is_less, count_min_sketch, two_register_arrays, count_big_headers}
use Rattle.elastic_laws.specs.Examples.WorkedUnits.{a, b, e, get, small, when, set, on, off, own_on, at_a, at_b, at_e, at_pred, lits_of, conds_of, works_of, locations_read, locations_written, costs_of, ops_of, stages_of, loops_of, unit_cells, bits_of, order_of_two, order_of_turns, own_meta, own_sketch, at_low, at_src, sizes_of_sketch, with_table, branch, branch_in_branch, two_branches, loop_in_branch, branch_in_loop, blocks, element_in_loop, then, program_with_validity, call_with_argument, four_operators, at_big, at_std, writes_to, after_all, branches_in_branches, second_symbol, only_writes, with_two_actions, at_c}

-- A condition over exactly one unit is a test of that unit, also where the unit is a condition. Any other condition is kept in a
-- predicate. The predicates are numbered in the order of the text, and a literal stands before those of the branches inside.
pub record UnitsOfConditions : Type 0 where
  pub branch_lits : lits_of branch ≡ [] ∷ (on 0 ∷ []) ∷ (on 0 ∷ []) ∷ []
  pub branch_conds : conds_of branch ≡ [] ∷ [] ∷ [] ∷ []
  pub branch_works : works_of branch ≡ PlainWork.Pred 0 (is a 0) ∷ set a 1 ∷ set b 2 ∷ []
  pub branch_reads : locations_read branch ≡ (at_a ∷ []) ∷ (at_pred 0 ∷ []) ∷ (at_pred 0 ∷ []) ∷ []
  pub branch_writes : locations_written branch ≡ (at_pred 0 ∷ []) ∷ (at_a ∷ []) ∷ (at_b ∷ []) ∷ []
  pub branch_costs : costs_of branch ≡ 1 ∷ 1 ∷ 1 ∷ []
  pub branch_ops : ops_of branch ≡ 2 ∷ 1 ∷ 1 ∷ []
  pub branch_fixed : fixed_bits branch ≡ 18
  pub branch_symbols : symbol_bits branch ≡ 8 ∷ []
  pub one : works_of (small (when (is a 0) (assign b 2 ∷ []) ∷ [])) ≡ set b 2 ∷ []
  pub one_conds : conds_of (small (when (is a 0) (assign b 2 ∷ []) ∷ [])) ≡ (is a 0 ∷ []) ∷ []
  pub one_reads : locations_read (small (when (is a 0) (assign b 2 ∷ []) ∷ [])) ≡ (at_a ∷ []) ∷ []
  pub one_ops : ops_of (small (when (is a 0) (assign b 2 ∷ []) ∷ [])) ≡ 1 ∷ []
  pub two : works_of (small (when (is a 0) (when (is b 1) (assign a 2 ∷ []) ∷ []) ∷ [])) ≡ set a 2 ∷ []
  pub two_conds :
      conds_of (small (when (is a 0) (when (is b 1) (assign a 2 ∷ []) ∷ []) ∷ []))
      ≡ (is a 0 ∷ is b 1 ∷ []) ∷ []
  pub two_ops : ops_of (small (when (is a 0) (when (is b 1) (assign a 2 ∷ []) ∷ []) ∷ [])) ≡ 3 ∷ []
  pub condition :
      works_of (small (when (is a 0) (when (is b 1) [] ∷ []) ∷ [])) ≡ PlainWork.Pred 0 (is b 1) ∷ []
  pub condition_conds : conds_of (small (when (is a 0) (when (is b 1) [] ∷ []) ∷ [])) ≡ (is a 0 ∷ []) ∷ []
  pub condition_reads :
      locations_read (small (when (is a 0) (when (is b 1) [] ∷ []) ∷ [])) ≡ (at_a ∷ at_b ∷ []) ∷ []
  pub condition_writes :
      locations_written (small (when (is a 0) (when (is b 1) [] ∷ []) ∷ [])) ≡ (at_pred 0 ∷ []) ∷ []
  pub condition_ops : ops_of (small (when (is a 0) (when (is b 1) [] ∷ []) ∷ [])) ≡ 3 ∷ []
  pub nested_works :
      works_of branch_in_branch
      ≡ PlainWork.Pred 0 (is a 0) ∷ PlainWork.Pred 1 (is b 1) ∷ set a 3 ∷ PlainWork.Pred 2 (is b 2) ∷ set a 4 ∷ set b 5 ∷ []
  pub nested_lits :
      lits_of branch_in_branch ≡ [] ∷ [] ∷ (on 0 ∷ []) ∷ [] ∷ (on 0 ∷ on 2 ∷ []) ∷ (on 0 ∷ on 2 ∷ []) ∷ []
  pub nested_ops : ops_of branch_in_branch ≡ 2 ∷ 2 ∷ 1 ∷ 2 ∷ 3 ∷ 3 ∷ []
  pub deeper_works :
      works_of branches_in_branches
      ≡ PlainWork.Pred 0 (is a 0) ∷ PlainWork.Pred 1 (is b 1) ∷ set a 1 ∷ set b 2 ∷ PlainWork.Pred 2 (is b 3) ∷ set a 4 ∷ set b 5 ∷ []
  pub deeper_lits :
      lits_of branches_in_branches
      ≡ [] ∷ [] ∷ (on 0 ∷ on 1 ∷ []) ∷ (on 0 ∷ on 1 ∷ []) ∷ [] ∷ (off 0 ∷ on 2 ∷ []) ∷ (off 0 ∷ on 2 ∷ []) ∷ []
  pub other_works : works_of two_branches ≡ PlainWork.Pred 0 (is a 0) ∷ set a 1 ∷ set b 2 ∷ []
  pub other_lits : lits_of two_branches ≡ [] ∷ (on 0 ∷ []) ∷ (off 0 ∷ []) ∷ []
  pub other_conds : conds_of two_branches ≡ [] ∷ [] ∷ (is b 1 ∷ []) ∷ []
  pub other_reads :
      locations_read two_branches ≡ (at_a ∷ []) ∷ (at_pred 0 ∷ []) ∷ (at_pred 0 ∷ at_b ∷ []) ∷ []
  pub other_ops : ops_of two_branches ≡ 2 ∷ 1 ∷ 3 ∷ []

-- A loop around units, and a condition around a loop or in one; and the innermost block with a stage gives the stage.
pub record UnitsOfLoopsAndBlocks : Type 0 where
  pub around_works : works_of loop_in_branch ≡ PlainWork.Pred 0 (is a 0) ∷ set e 1 ∷ []
  pub around_lits : lits_of loop_in_branch ≡ [] ∷ (on 0 ∷ []) ∷ []
  pub around_loops : loops_of loop_in_branch ≡ (None, None, None) ∷ (Some 0, Some 0, Some (codes "i")) ∷ []
  pub around_reads : locations_read loop_in_branch ≡ (at_a ∷ []) ∷ (at_pred 0 ∷ []) ∷ []
  pub around_writes : locations_written loop_in_branch ≡ (at_pred 0 ∷ []) ∷ (at_e ∷ []) ∷ []
  pub around_bits : symbol_bits loop_in_branch ≡ 8 ∷ []
  pub inside_works : works_of branch_in_loop ≡ PlainWork.Pred 0 (is e 0) ∷ set e 1 ∷ set a 2 ∷ []
  pub inside_lits : lits_of branch_in_loop ≡ [] ∷ (own_on 0 ∷ []) ∷ (own_on 0 ∷ []) ∷ []
  pub inside_loops :
      loops_of branch_in_loop
      ≡ (Some 1, Some 0, Some (codes "i")) ∷ (Some 1, Some 0, Some (codes "i")) ∷ (Some 1, Some 0, Some (codes "i")) ∷ []
  pub second_loops :
      loops_of second_symbol
      ≡ (Some 0, Some 1, Some (codes "j")) ∷ (Some 0, Some 1, Some (codes "j")) ∷ (Some 0, Some 1, Some (codes "j")) ∷ []
  pub second_bits : symbol_bits second_symbol ≡ 8 ∷ 17 ∷ []
  pub inside_fixed : fixed_bits branch_in_loop ≡ 17
  pub inside_bits : symbol_bits branch_in_loop ≡ 9 ∷ []
  pub stages : stages_of blocks ≡ Some 1 ∷ Some 3 ∷ Some 3 ∷ None ∷ []

-- A count-min sketch: an assignment, a call that counts in the loop's own register, and a guarded call. Each loop runs all its units
-- at one index after the other; at size 0 it has no instance.
pub record UnitsOfASketch : Type 0 where
  pub works :
      works_of count_min_sketch
      ≡ set (of_meta (codes "low")) 0xFFFFFFFF ∷ PlainWork.Call (call_in_row (codes "count")) ∷ PlainWork.Call (call_in_row (codes "least")) ∷ []
  pub lits : lits_of count_min_sketch ≡ [] ∷ [] ∷ [] ∷ []
  pub conds : conds_of count_min_sketch ≡ [] ∷ [] ∷ (is_less ∷ []) ∷ []
  pub loops :
      loops_of count_min_sketch
      ≡ (None, None, None) ∷ (Some 0, Some 0, Some (codes "i")) ∷ (Some 0, Some 0, Some (codes "i")) ∷ []
  pub reads :
      locations_read count_min_sketch
      ≡ [] ∷ (at_src ∷ own_meta (codes "idx") ∷ own_sketch ∷ own_meta (codes "cnt") ∷ []) ∷ (own_meta (codes "cnt") ∷ at_low ∷ []) ∷ []
  pub writes :
      locations_written count_min_sketch
      ≡ (at_low ∷ []) ∷ (own_meta (codes "idx") ∷ own_meta (codes "cnt") ∷ own_sketch ∷ []) ∷ (at_low ∷ []) ∷ []
  pub costs : costs_of count_min_sketch ≡ 1 ∷ 2 ∷ 1 ∷ []
  pub ops : ops_of count_min_sketch ≡ 0 ∷ 2 ∷ 1 ∷ []
  pub cells_used : unit_cells count_min_sketch ≡ (None, 0) ∷ (Some (cells.Symbol 1), 32) ∷ (None, 0) ∷ []
  pub bits : bits_of count_min_sketch ≡ (0, 0) ∷ (0, 0) ∷ (0, 0) ∷ []
  pub fixed : fixed_bits count_min_sketch ≡ 145
  pub symbols : symbol_bits count_min_sketch ≡ 64 ∷ 0 ∷ []
  pub two_rows :
      instances_of count_min_sketch (sizes_of_sketch 2) ≡ (0, 0) ∷ (1, 0) ∷ (2, 0) ∷ (1, 1) ∷ (2, 1) ∷ []
  pub no_row : instances_of count_min_sketch (sizes_of_sketch 0) ≡ (0, 0) ∷ []

-- Units that read and write registers: each names one, and the fields of a header count beside its validity.
pub record UnitsWithRegisters : Type 0 where
  pub two_reads_cells :
      unit_cells two_register_arrays ≡ (Some (cells.Symbol 0), 32) ∷ (Some (cells.Symbol 1), 32) ∷ []
  pub two_reads_costs : costs_of two_register_arrays ≡ 1 ∷ 1 ∷ []
  pub two_reads_fixed : fixed_bits two_register_arrays ≡ 73
  pub count_reads :
      locations_read count_big_headers
      ≡ (location.Reg (codes "seen") false ∷ location.Meta (codes "n") false ∷ []) ∷ (at_big ∷ []) ∷ (at_big ∷ []) ∷ (at_std (codes "in_port") ∷ []) ∷ []
  pub count_writes :
      locations_written count_big_headers
      ≡ (location.Meta (codes "n") false ∷ location.Reg (codes "seen") false ∷ []) ∷ (at_std (codes "drop") ∷ []) ∷ (at_big ∷ []) ∷ (at_std (codes "out_port") ∷ []) ∷ []
  pub count_costs : costs_of count_big_headers ≡ 1 ∷ 1 ∷ 1 ∷ 1 ∷ []
  pub count_ops : ops_of count_big_headers ≡ 1 ∷ 1 ∷ 1 ∷ 0 ∷ []
  pub count_cells :
      unit_cells count_big_headers ≡ (Some (cells.Fixed 1), 8) ∷ (None, 0) ∷ (None, 0) ∷ (None, 0) ∷ []
  pub count_fixed : fixed_bits count_big_headers ≡ 137
  pub only_write_reads : locations_read only_writes ≡ (at_a ∷ location.Reg (codes "ra") false ∷ []) ∷ []
  pub only_write_writes : locations_written only_writes ≡ (location.Reg (codes "ra") false ∷ []) ∷ []
  pub only_write_costs : costs_of only_writes ≡ 1 ∷ []
  pub only_write_cells : unit_cells only_writes ≡ (Some (cells.Fixed 4), 8) ∷ []

-- A ternary key takes twice as many bits, and `size` stands before the number of entries. A table has what all its actions read and
-- write, and the operators of the action that has most. A call counts its arguments, and validity is a location of its own.
pub record UnitsOfTablesAndCalls : Type 0 where
  pub table_ternary : bits_of (with_table true None) ≡ (0, 32) ∷ []
  pub table_ternary_with_size : bits_of (with_table true (Some 16)) ≡ (0, 256) ∷ []
  pub table_exact : bits_of (with_table false None) ≡ (16, 0) ∷ []
  pub table_exact_with_size : bits_of (with_table false (Some 16)) ≡ (128, 0) ∷ []
  pub table_reads : locations_read (with_table true None) ≡ (at_a ∷ []) ∷ []
  pub table_writes : locations_written (with_table true None) ≡ (at_a ∷ []) ∷ []
  pub table_ops : ops_of (with_table true None) ≡ 0 ∷ []
  pub table_work : works_of (with_table true None) ≡ PlainWork.Apply (codes "t") ∷ []
  pub two_actions_reads : locations_read with_two_actions ≡ (at_b ∷ at_a ∷ at_c ∷ []) ∷ []
  pub two_actions_writes : locations_written with_two_actions ≡ (at_a ∷ at_b ∷ []) ∷ []
  pub two_actions_costs : costs_of with_two_actions ≡ 2 ∷ []
  pub two_actions_ops : ops_of with_two_actions ≡ 3 ∷ []
  pub two_actions_bits : bits_of with_two_actions ≡ (72, 0) ∷ []
  pub call_reads : locations_read call_with_argument ≡ (at_a ∷ []) ∷ []
  pub call_writes : locations_written call_with_argument ≡ (at_a ∷ []) ∷ []
  pub call_ops : ops_of call_with_argument ≡ 1 ∷ []
  pub call_operators : operators_in four_operators ≡ 4
  pub validity_reads : locations_read program_with_validity ≡ [] ∷ (location.Valid (codes "h") ∷ []) ∷ []
  pub validity_writes : locations_written program_with_validity ≡ (location.Valid (codes "h") ∷ []) ∷ (at_a ∷ []) ∷ []
  pub validity_ops : ops_of program_with_validity ≡ 0 ∷ 1 ∷ []
  pub validity_order : order_of_two 0 0 (units_of program_with_validity) ≡ Some Relation.Before

-- Orders of two units, of which the first is earlier.
pub record OrdersOfTwoUnits : Type 0 where
  pub two_registers : order_of_two 0 0 (units_of two_register_arrays) ≡ Some Relation.Free
  pub read_then_written :
      order_of_two 0 0 (then (PlainStmt.Assign a (get b)) (assign b 1)) ≡ Some Relation.NotAfter
  pub written_then_read :
      order_of_two 0 0 (then (assign a 1) (PlainStmt.Assign b (get a))) ≡ Some Relation.Before
  pub written_twice : order_of_two 0 0 (then (assign a 1) (assign a 2)) ≡ Some Relation.Before
  pub own_elements : order_of_turns 0 1 (units_of element_in_loop) ≡ Some Relation.Free
  pub element_then_read : order_of_two 0 0 (units_of element_in_loop) ≡ Some Relation.Before
  pub other_element_read : order_of_two 0 1 (units_of element_in_loop) ≡ Some Relation.Free
  pub condition_then_branch : order_of_two 0 0 (units_of branch) ≡ Some Relation.Before

-- What instances write, where everything holds 0 or 5 in 8 bits: a condition writes its predicate, a literal or condition that doesn't
-- hold leaves nothing to write, and an own element is that of the index. Then what stands there after all instances in order, and
-- programs that meet what the laws of units ask.
pub record WhatInstancesDo : Type 0 where
  pub condition_holds : writes_to branch 0 0 0 (at_pred 0) None ≡ Some (1, 1)
  pub condition_fails : writes_to branch 5 0 0 (at_pred 0) None ≡ Some (1, 0)
  pub literal_fails : writes_to branch 0 1 0 at_a None ≡ None
  pub literal_off : writes_to two_branches 0 2 0 at_b None ≡ None
  pub own_predicate : writes_to branch_in_loop 0 0 2 (location.Pred 0 true) (Some 2) ≡ Some (1, 1)
  pub own_element : writes_to element_in_loop 0 0 1 at_e (Some 1) ≡ Some (8, 1)
  pub other_element : writes_to element_in_loop 0 0 1 at_e (Some 0) ≡ None
  pub first_branch : after_all branch 0 at_a None ≡ (8, 1)
  pub first_branch_too : after_all branch 0 at_b None ≡ (8, 2)
  pub no_branch : after_all branch 5 at_a None ≡ (8, 5)
  pub last_element : after_all element_in_loop 0 at_e (Some 2) ≡ (8, 1)
  pub no_such_element : after_all element_in_loop 0 at_e (Some 3) ≡ (8, 0)

-- Elements and registers under their flat names.
pub record FlatNamesOfElements : Type 0 where
  pub first : flat_name (codes "a") (Some 0) ≡ codes "a__0"
  pub two_digits : flat_name (codes "a") (Some 12) ≡ codes "a__12"
  pub scalar : flat_name (codes "a") None ≡ codes "a"
  pub registers :
      SameRegisters ((codes "r", Some 0, 8, 1 ∷ 2 ∷ []) ∷ (codes "r", Some 1, 8, 3 ∷ 4 ∷ []) ∷ (codes "q", None, 16, 5 ∷ []) ∷ []) ((codes "r__0", None, 8, 1 ∷ 2 ∷ []) ∷ (codes "r__1", None, 8, 3 ∷ 4 ∷ []) ∷ (codes "q", None, 16, 5 ∷ []) ∷ [])
