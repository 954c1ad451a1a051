-- What worked programs do with packets, fact by fact; this project's own.
use Rattle.std.specs.Prelude.{◌≡◌, [], ◌∷◌, ◌++◌, Some, None, codes}
use Rattle.elastic_laws.specs.Examples.WorkedSources.{packet_at, sixteen, answers_of, cells_after_packets, swap_then_set, changed_condition, count_big_headers, two_staged_blocks, hashed_header, table_with_two_matches, counted_rows, sketch_and_cache}
use Rattle.elastic_ast.specs.declared.flat.Out.TheVariants as out

-- Conditions, blocks, the hash, and a table two entries of which match.
pub record ExamplesOfAnswers : Type 0 where
  pub statements_come_one_after_the_other :
      answers_of swap_then_set [] [] (packet_at 0 (3 ∷ 7 ∷ []) ∷ []) ≡ out.Sent 0 (7 ∷ 1 ∷ []) ∷ []
  pub a_changed_field_changes_no_decision :
      answers_of changed_condition [] [] (packet_at 0 (0 ∷ 9 ∷ []) ∷ packet_at 0 (3 ∷ 9 ∷ []) ∷ [])
      ≡ out.Sent 0 (1 ∷ 2 ∷ []) ∷ out.Sent 0 (3 ∷ 9 ∷ []) ∷ []
  pub stages_change_no_meaning :
      answers_of two_staged_blocks [] (0 ∷ 0 ∷ 0 ∷ 0 ∷ []) (packet_at 0 (5 ∷ []) ∷ packet_at 0 (7 ∷ []) ∷ packet_at 0 (9 ∷ []) ∷ [])
      ≡ out.Sent 0 (0 ∷ []) ∷ out.Sent 0 (5 ∷ []) ∷ out.Sent 0 (12 ∷ []) ∷ []
  pub hash_is_its_formula :
      answers_of hashed_header [] [] (packet_at 0 (0 ∷ 0 ∷ 0 ∷ 0 ∷ 0 ∷ 0 ∷ 0 ∷ 1 ∷ 0x61 ∷ 0xc8 ∷ 0x86 ∷ 0x46 ∷ 0x80 ∷ 0xb5 ∷ 0x83 ∷ 0xeb ∷ 0 ∷ 0 ∷ 0 ∷ 0 ∷ []) ∷ [])
      ≡ out.Sent 0 (0 ∷ 0 ∷ 0 ∷ 0 ∷ 0 ∷ 0 ∷ 0 ∷ 1 ∷ 0x61 ∷ 0xc8 ∷ 0x86 ∷ 0x46 ∷ 0x80 ∷ 0xb5 ∷ 0x83 ∷ 0xeb ∷ 0 ∷ 0 ∷ 0 ∷ 0xb8 ∷ []) ∷ []
  pub first_of_two_matches_wins :
      answers_of table_with_two_matches [] [] (packet_at 0 (0x15 ∷ []) ∷ packet_at 0 (7 ∷ []) ∷ [])
      ≡ out.Sent 0 (1 ∷ []) ∷ out.Sent 0 (7 ∷ []) ∷ []
  pub rejected_dropped_and_sent :
      answers_of count_big_headers [] (3 ∷ []) (packet_at 0 (0xff ∷ 0xff ∷ []) ∷ packet_at 1 (sixteen 0) ∷ packet_at 2 (sixteen 0xff ++ (0xaa ∷ 0xbb ∷ [])) ∷ [])
      ≡ out.Dropped ∷ out.Dropped ∷ out.Sent 2 (sixteen 0 ++ (0xaa ∷ 0xbb ∷ [])) ∷ []
  pub sketch_and_cache_pass_packets_on :
      answers_of sketch_and_cache (1 ∷ 1 ∷ 1 ∷ 1 ∷ []) (0 ∷ []) (packet_at 0 (0x0a ∷ 0 ∷ 0 ∷ 0 ∷ 0 ∷ 1 ∷ 0x0a ∷ 0 ∷ 0 ∷ 0 ∷ 0 ∷ 2 ∷ 8 ∷ 0 ∷ []) ∷ [])
      ≡ out.Sent 0 (0x0a ∷ 0 ∷ 0 ∷ 0 ∷ 0 ∷ 1 ∷ 0x0a ∷ 0 ∷ 0 ∷ 0 ∷ 0 ∷ 2 ∷ 8 ∷ 0 ∷ []) ∷ []
  pub sums_wrap :
      answers_of counted_rows (2 ∷ []) (0 ∷ 0 ∷ []) (packet_at 3 (0xff ∷ []) ∷ packet_at 0 (5 ∷ []) ∷ [])
      ≡ out.Sent 0 (0xf9 ∷ []) ∷ out.Sent 0 (0xff ∷ []) ∷ []

-- A rejected packet changes no register, and a dropped one does; each turn of a loop has the register of its index; a loop of
-- size 0 does nothing.
pub record ExamplesOfRegisters : Type 0 where
  pub rejected_and_dropped :
      cells_after_packets count_big_headers [] (3 ∷ []) (packet_at 0 (0xff ∷ 0xff ∷ []) ∷ packet_at 1 (sixteen 0) ∷ packet_at 2 (sixteen 0xff) ∷ []) (codes "seen") None
      ≡ 5 ∷ []
  pub packets_come_one_after_the_other :
      cells_after_packets two_staged_blocks [] (0 ∷ 0 ∷ 0 ∷ 0 ∷ []) (packet_at 0 (5 ∷ []) ∷ packet_at 0 (7 ∷ []) ∷ packet_at 0 (9 ∷ []) ∷ []) (codes "r") None
      ≡ 0 ∷ 21 ∷ 0 ∷ 0 ∷ []
  pub first_register :
      cells_after_packets counted_rows (2 ∷ []) (0 ∷ 0 ∷ []) (packet_at 3 (0xff ∷ []) ∷ packet_at 0 (5 ∷ []) ∷ []) (codes "r") (Some 0)
      ≡ 0 ∷ 6 ∷ []
  pub second_register :
      cells_after_packets counted_rows (2 ∷ []) (0 ∷ 0 ∷ []) (packet_at 3 (0xff ∷ []) ∷ packet_at 0 (5 ∷ []) ∷ []) (codes "r") (Some 1)
      ≡ 0 ∷ 6 ∷ []
  pub packet_is_counted :
      cells_after_packets sketch_and_cache (1 ∷ 1 ∷ 1 ∷ 1 ∷ []) (0 ∷ []) (packet_at 0 (0x0a ∷ 0 ∷ 0 ∷ 0 ∷ 0 ∷ 1 ∷ 0x0a ∷ 0 ∷ 0 ∷ 0 ∷ 0 ∷ 2 ∷ 8 ∷ 0 ∷ []) ∷ []) (codes "sketch") (Some 0)
      ≡ 1 ∷ []
  pub packet_is_cached :
      cells_after_packets sketch_and_cache (1 ∷ 1 ∷ 1 ∷ 1 ∷ []) (0 ∷ []) (packet_at 0 (0x0a ∷ 0 ∷ 0 ∷ 0 ∷ 0 ∷ 1 ∷ 0x0a ∷ 0 ∷ 0 ∷ 0 ∷ 0 ∷ 2 ∷ 8 ∷ 0 ∷ []) ∷ []) (codes "store") (Some 0)
      ≡ 720575940379346944 ∷ []
  pub no_turn_of_a_loop_of_size_0 :
      cells_after_packets counted_rows (0 ∷ []) (0 ∷ 0 ∷ []) (packet_at 3 (0xff ∷ []) ∷ packet_at 0 (5 ∷ []) ∷ []) (codes "r") (Some 0)
      ≡ 0 ∷ 0 ∷ []
