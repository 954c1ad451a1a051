-- Whether placements of small programs are feasible, and what they take, fact by fact; this project's own.
use Rattle.std.specs.Prelude.{◌≡◌, [], ◌∷◌}
use Rattle.elastic_laws.specs.Examples.WorkedSources.{two_register_arrays, swap_then_set, changed_condition, two_staged_blocks, table_with_two_matches, count_big_headers, count_min_sketch, sketch_and_cache}
use Rattle.elastic_ast.specs.Units.Order.{Relation}
use Rattle.dep_graph.specs.HeaderBits.{header_bits}
use Rattle.placement_examples.specs.WorkedTargets.{put_at, uses_of, set_then_copy, both_first, two_rows, orders_at}

-- What placements take of each stage, and header bits at sizes.
pub record UsesOfPlacements : Type 0 where
  pub arrays : uses_of two_register_arrays (27 ∷ 5 ∷ []) both_first 0 ≡ 2 ∷ 2 ∷ 1024 ∷ 0 ∷ 0 ∷ []
  pub arrays_header : header_bits two_register_arrays (27 ∷ 5 ∷ []) ≡ 73
  pub more_cells : uses_of two_register_arrays (28 ∷ 5 ∷ []) both_first 0 ≡ 2 ∷ 2 ∷ 1056 ∷ 0 ∷ 0 ∷ []
  pub many_cells :
      uses_of two_register_arrays (4294967296 ∷ 4294967296 ∷ []) both_first 0 ≡ 2 ∷ 2 ∷ 274877906944 ∷ 0 ∷ 0 ∷ []
  pub no_registers : uses_of swap_then_set [] both_first 0 ≡ 0 ∷ 2 ∷ 0 ∷ 0 ∷ 0 ∷ []
  pub condition_first :
      uses_of changed_condition [] (put_at 0 0 0 ∷ put_at 1 0 1 ∷ put_at 2 0 1 ∷ []) 0 ≡ 0 ∷ 1 ∷ 0 ∷ 0 ∷ 0 ∷ []
  pub branches_second :
      uses_of changed_condition [] (put_at 0 0 0 ∷ put_at 1 0 1 ∷ put_at 2 0 1 ∷ []) 1 ≡ 0 ∷ 2 ∷ 0 ∷ 0 ∷ 0 ∷ []
  pub condition_header : header_bits changed_condition [] ≡ 18
  pub note_first : uses_of two_staged_blocks [] (put_at 0 0 0 ∷ put_at 1 0 1 ∷ []) 0 ≡ 1 ∷ 1 ∷ 32 ∷ 0 ∷ 0 ∷ []
  pub copy_second : uses_of two_staged_blocks [] (put_at 0 0 0 ∷ put_at 1 0 1 ∷ []) 1 ≡ 0 ∷ 1 ∷ 0 ∷ 0 ∷ 0 ∷ []
  pub ternary : uses_of table_with_two_matches [] (put_at 0 0 0 ∷ []) 0 ≡ 0 ∷ 1 ∷ 0 ∷ 0 ∷ 32 ∷ []
  pub sketch_first : uses_of count_min_sketch (2 ∷ 32 ∷ []) (two_rows 0 0 1 1 2) 0 ≡ 1 ∷ 3 ∷ 1024 ∷ 0 ∷ 0 ∷ []
  pub sketch_second : uses_of count_min_sketch (2 ∷ 32 ∷ []) (two_rows 0 0 1 1 2) 1 ≡ 1 ∷ 3 ∷ 1024 ∷ 0 ∷ 0 ∷ []
  pub sketch_third : uses_of count_min_sketch (2 ∷ 32 ∷ []) (two_rows 0 0 1 1 2) 2 ≡ 0 ∷ 1 ∷ 0 ∷ 0 ∷ 0 ∷ []
  pub sketch_header : header_bits count_min_sketch (2 ∷ 32 ∷ []) ≡ 273

-- The order of each two instances, by the earlier and then by the later.
pub record OrdersOfPairs : Type 0 where
  pub arrays : orders_at two_register_arrays (27 ∷ 5 ∷ []) ≡ Relation.Free ∷ []
  pub swapped : orders_at swap_then_set [] ≡ Relation.NotAfter ∷ []
  pub copied : orders_at set_then_copy [] ≡ Relation.Before ∷ []
  pub blocks : orders_at two_staged_blocks [] ≡ Relation.Before ∷ []
  pub condition : orders_at changed_condition [] ≡ Relation.Before ∷ Relation.Before ∷ Relation.Free ∷ []
  pub headers :
      orders_at count_big_headers []
      ≡ Relation.Free ∷ Relation.Free ∷ Relation.Free ∷ Relation.NotAfter ∷ Relation.Free ∷ Relation.Free ∷ []
  pub sketch :
      orders_at count_min_sketch (2 ∷ 32 ∷ [])
      ≡ Relation.Free ∷ Relation.Before ∷ Relation.Free ∷ Relation.Before ∷ Relation.Before ∷ Relation.Free ∷ Relation.Free ∷ Relation.Free ∷ Relation.Before ∷ Relation.Before ∷ []
  pub cache :
      orders_at sketch_and_cache (1 ∷ 3 ∷ 2 ∷ 5 ∷ [])
      ≡ Relation.Free ∷ Relation.Before ∷ Relation.Free ∷ Relation.Free ∷ Relation.Before ∷ Relation.Free ∷ Relation.Free ∷ Relation.Free ∷ Relation.Free ∷ Relation.Free ∷ []
