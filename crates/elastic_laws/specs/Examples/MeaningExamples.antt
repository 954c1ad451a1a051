-- What small expressions, statements and packets mean, fact by fact; this project's own.
use Rattle.std.specs.Prelude.{◌≡◌, true, false, [], ◌∷◌, None, codes}
use Rattle.elastic_ast.specs.Tree.{PlainExpr, PlainStmt}
use Rattle.elastic_ast.specs.OperatorSorts.{Less, ShiftUp, ShiftDown, Plus, Minus, Join, Times, Turn, binary, unary}
use Rattle.elastic_laws.specs.Examples.WorkedProgram.{x, element, v, dropped, in_port, out_port, r, stmts, with_body, x_after, element_after, cells_after, assign, increase, is}
use Rattle.elastic_laws.specs.Examples.WorkedPackets.{packet, cells_of_packets, answers}
use Rattle.elastic_laws.specs.Examples.WorkedValues.{value_outside, value_in_byte, wide, bare, byte, hash_in_loop}
use Rattle.elastic_ast.specs.declared.flat.Out.TheVariants as out

-- Values of expressions.
pub record LawOfValues : Type 0 where
  pub sum_wraps : value_outside (binary Plus (byte 250) (byte 9)) ≡ 3
  pub difference_wraps : value_outside (binary Minus (bare 0) (byte 1)) ≡ 255
  pub product_wraps : value_outside (binary Times (byte 16) (bare 17)) ≡ 16
  pub shift_up_by_the_width : value_outside (binary ShiftUp (byte 1) (byte 8)) ≡ 0
  pub shift_by_the_greatest_amount :
      value_outside (binary ShiftUp (byte 1) (wide 128 0xffffffffffffffffffffffffffffffff)) ≡ 0
  pub shift_down_by_the_greatest_amount :
      value_outside (binary ShiftDown (byte 1) (wide 128 0xffffffffffffffffffffffffffffffff)) ≡ 0
  pub shift_down_by_the_width : value_outside (binary ShiftDown (byte 255) (wide 9 300)) ≡ 0
  pub comparison_is_unsigned : value_outside (binary Less (byte 255) (byte 1)) ≡ 0
  pub slice_has_both_ends : value_outside (PlainExpr.Slice (byte 0xb4) 5 2) ≡ 13
  pub cast_keeps_low_bits : value_outside (PlainExpr.Cast 4 (byte 0xb4)) ≡ 4
  pub cast_adds_zeros : value_outside (PlainExpr.Cast 16 (byte 0xb4)) ≡ 0xb4
  pub cast_of_true : value_outside (PlainExpr.Cast 1 (PlainExpr.Truth true)) ≡ 1
  pub left_operand_is_high : value_outside (binary Join (byte 0xab) (wide 4 0xc)) ≡ 0xabc
  pub bare_number_takes_the_width_of_its_place : value_in_byte (unary Turn (bare 1)) ≡ 254
  pub left_operand_takes_the_width_of_the_right :
      value_outside (binary Plus (unary Turn (bare 1)) (byte 0)) ≡ 254
  pub right_operand_takes_the_width_of_the_left :
      value_outside (binary Plus (byte 0) (unary Turn (bare 1))) ≡ 254
  pub amount_takes_the_width_of_the_left :
      value_outside (binary ShiftDown (byte 255) (unary Turn (bare 254))) ≡ 127
  pub hash_by_index_and_size : value_outside hash_in_loop ≡ 0xb8

-- What statements do in the worked program.
pub record LawOfStatements : Type 0 where
  pub condition_is_decided_where_it_stands :
      x_after 0 (PlainStmt.IfElse (is x 0) (stmts (assign x 1 ∷ increase x 1 ∷ [])) (stmts (assign x 7 ∷ [])) ∷ [])
      ≡ (8, 2)
  pub loop_of_size_0_does_nothing :
      x_after 0 (PlainStmt.For (codes "i") (codes "s") (stmts (assign x 1 ∷ [])) ∷ []) ≡ (8, 0)
  pub loop_runs_once_for_each_index :
      x_after 3 (PlainStmt.For (codes "i") (codes "s") (stmts (increase x 1 ∷ [])) ∷ []) ≡ (8, 3)
  pub each_turn_has_its_element :
      element_after 3 (PlainStmt.For (codes "i") (codes "s") (stmts (increase x 5 ∷ PlainStmt.Assign element (PlainExpr.At x) ∷ [])) ∷ []) 2
      ≡ (8, 15)
  pub first_match_wins : x_after 0 (assign v 3 ∷ PlainStmt.Apply (codes "t") ∷ []) ≡ (8, 110)
  pub later_entry_matches : x_after 0 (assign v 4 ∷ PlainStmt.Apply (codes "t") ∷ []) ≡ (8, 140)
  pub no_match_does_nothing : x_after 0 (assign v 6 ∷ PlainStmt.Apply (codes "t") ∷ []) ≡ (8, 0)
  pub default_action_is_last : x_after 0 (assign v 4 ∷ PlainStmt.Apply (codes "u") ∷ []) ≡ (8, 140)
  pub default_action_is_run : x_after 0 (assign v 6 ∷ PlainStmt.Apply (codes "u") ∷ []) ≡ (8, 160)
  pub arguments_come_first :
      x_after 0 (assign x 5 ∷ PlainStmt.Call (codes "set") None (PlainExpr.At x ∷ []) ∷ []) ≡ (8, 105)
  pub cell_is_read : x_after 0 (PlainStmt.Read x r (bare 1) ∷ []) ≡ (8, 12)
  pub cell_outside_reads_0 : x_after 0 (assign x 5 ∷ PlainStmt.Read x r (bare 2) ∷ []) ≡ (8, 0)
  pub cell_is_written : cells_after 0 (PlainStmt.Write r (bare 0) (bare 5) ∷ []) ≡ 5 ∷ 12 ∷ []
  pub write_outside_does_nothing : cells_after 0 (PlainStmt.Write r (bare 2) (bare 5) ∷ []) ≡ 11 ∷ 12 ∷ []

-- What becomes of packets in the worked program. Cells 0 and 1 begin as 11 and 12.
pub record LawOfPackets : Type 0 where
  pub short_packet_changes_no_register :
      cells_of_packets (with_body (PlainStmt.Write r (bare 0) (bare 5) ∷ [])) (packet (1 ∷ []) ∷ [])
      ≡ 11 ∷ 12 ∷ []
  pub rejected_packet_changes_no_register :
      cells_of_packets (with_body (PlainStmt.Write r (bare 0) (bare 5) ∷ [])) (packet (7 ∷ 1 ∷ []) ∷ [])
      ≡ 11 ∷ 12 ∷ []
  pub rejected_packet_is_dropped : answers (with_body []) (packet (7 ∷ 1 ∷ []) ∷ []) ≡ out.Dropped ∷ []
  pub dropped_packet_changes_registers :
      cells_of_packets (with_body (PlainStmt.Write r (bare 0) (bare 5) ∷ assign dropped 1 ∷ [])) (packet (1 ∷ 2 ∷ []) ∷ [])
      ≡ 5 ∷ 12 ∷ []
  pub dropped_packet_is_dropped :
      answers (with_body (assign dropped 1 ∷ [])) (packet (1 ∷ 2 ∷ []) ∷ []) ≡ out.Dropped ∷ []
  pub headers_come_before_the_rest :
      answers (with_body (assign v 9 ∷ [])) (packet (1 ∷ 2 ∷ 3 ∷ []) ∷ [])
      ≡ out.Sent 0 (9 ∷ 2 ∷ 3 ∷ []) ∷ []
  pub no_case_rejects : answers (with_body []) (packet (16 ∷ 1 ∷ []) ∷ []) ≡ out.Dropped ∷ []
  pub next_header_begins_where_the_last_ends :
      answers (with_body (PlainStmt.Valid (codes "h") false ∷ [])) (packet (8 ∷ 2 ∷ 3 ∷ 4 ∷ 5 ∷ []) ∷ [])
      ≡ out.Sent 0 (3 ∷ 4 ∷ 5 ∷ []) ∷ []
  pub port_is_seen :
      answers (with_body (PlainStmt.Assign out_port (PlainExpr.At in_port) ∷ [])) (packet (1 ∷ 2 ∷ []) ∷ [])
      ≡ out.Sent 9 (1 ∷ 2 ∷ []) ∷ []
  pub registers_last_from_packet_to_packet :
      cells_of_packets (with_body (PlainStmt.Read x r (bare 0) ∷ PlainStmt.Write r (bare 0) (binary Plus (PlainExpr.At x) (bare 1)) ∷ [])) (packet (1 ∷ 2 ∷ []) ∷ packet (3 ∷ 4 ∷ []) ∷ [])
      ≡ 13 ∷ 12 ∷ []
  pub invalid_header_is_not_emitted :
      answers (with_body (PlainStmt.Valid (codes "h") false ∷ [])) (packet (1 ∷ 2 ∷ 3 ∷ []) ∷ [])
      ≡ out.Sent 0 (3 ∷ []) ∷ []
  pub without_main_packets_pass_unread :
      answers [] (packet (1 ∷ 2 ∷ []) ∷ packet [] ∷ []) ≡ out.Sent 0 (1 ∷ 2 ∷ []) ∷ out.Sent 0 [] ∷ []
