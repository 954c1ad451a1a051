-- Small programs that break one rule of types alone, and typed ones that look as if they broke it, fact by fact; this
-- project's own.
use Rattle.std.specs.Prelude.{true, false, [], ◌∷◌, Some, None, codes}
use Rattle.elastic_ast.specs.declared.rule.Rule.TheVariants.{UnknownName, Twice, Width, NoWidth, LiteralTooWide, NotBool, NotConst, BadIndex, BadAmount, BadTerm, BadSlice, OddHeader, NestedLoop, RegisterTwice, RegisterUnused, RegisterInTable, BadKey, BadEntries, BadCall, ParserLoop, ReservedName, NoMain}
use Rattle.elastic_ast.specs.declared.statements.Amount.TheVariants as amount
use Rattle.elastic_ast.specs.declared.statements.Lval.TheVariants as lval
use Rattle.elastic_ast.specs.Tree.{PlainDecl, PlainExpr, PlainStmt, PlainKeyset, PlainLocal, PlainNext}
use Rattle.elastic_ast.specs.OperatorSorts.{Join, binary}
use Rattle.elastic_ast.specs.Typing.Typed.{Breaks, Typed}
use Rattle.elastic_laws.specs.Examples.WorkedValues.{bare, wide}
use Rattle.elastic_laws.specs.Examples.WorkedProgram.{x, element, v, dropped, r, assign, byte_field, stmts, with_body}
use Rattle.elastic_laws.specs.Examples.WorkedTyping.{frame, byte_and_word, taking_h, doing, with_locals, program_with_register, sized, parsing, state, goes_to, start, accept, y, by_name, set_x, sum, shifted, equal, inverted, is_valid, loop_over, plain_action, indexed_action, action_of_n, call, read_r, write_r, table_of_v, exact_table, ternary_table, one, at_least_one, constant, hash_below, steps, width_field, BreaksOnly}
use Rattle.elastic_laws.specs.Examples.WorkedSources.{count_min_sketch, sketch_and_cache, table_with_two_matches as ternary_table_source, count_big_headers, swap_then_set, changed_condition, two_staged_blocks, hashed_header, counted_rows, two_register_arrays}

-- Names: each is declared before it is used, once in its scope, and as what its place asks for.
pub record NamesAreDeclaredOnceAndKnown : Type 0 where
  pub symbol_is_declared_later :
      BreaksOnly (at_least_one (codes "s") ∷ PlainDecl.Symbol (codes "s") ∷ []) UnknownName 0
  pub field_is_of_no_header :
      BreaksOnly (doing (PlainStmt.Assign (lval.Header (codes "h") (codes "w")) (bare 1) ∷ [])) UnknownName 4
  pub state_may_be_declared_later :
      Typed false (parsing (goes_to start (codes "more") ∷ goes_to (codes "more") accept ∷ []))
  pub symbol_is_declared_twice :
      BreaksOnly (PlainDecl.Symbol (codes "s") ∷ PlainDecl.Symbol (codes "s") ∷ []) Twice 1
  pub fixed_name_is_declared : BreaksOnly (PlainDecl.Meta (byte_field (codes "std") None ∷ []) ∷ []) Twice 0
  pub index_has_the_name_of_a_parameter :
      BreaksOnly (with_locals (PlainLocal.OfAction (record { name = codes "one"; index = Some (codes "n"); params = record { name = codes "n"; width = 8 } ∷ []; body = stmts [] }) ∷ []) []) Twice 4
  pub parameter_may_hide_a_constant :
      Typed false (frame (constant (codes "n") 16 1 ∷ []) byte_and_word [] taking_h (action_of_n (codes "one") (set_x (by_name (codes "n")) ∷ []) ∷ []) (call (codes "one") (bare 5 ∷ []) ∷ []))
  pub set_names_a_symbol :
      BreaksOnly (frame (PlainDecl.Symbol (codes "s") ∷ []) byte_and_word [] taking_h (one ∷ exact_table (PlainKeyset.One (by_name (codes "s"))) ∷ []) []) NotConst 5
  pub set_may_name_a_constant :
      Typed false (frame (constant (codes "n") 8 1 ∷ []) byte_and_word [] taking_h (one ∷ exact_table (PlainKeyset.One (by_name (codes "n"))) ∷ []) [])
  pub two_underscores_in_a_row : BreaksOnly (PlainDecl.Symbol (codes "a__b") ∷ []) ReservedName 0
  pub index_has_two_underscores :
      BreaksOnly (frame (PlainDecl.Symbol (codes "s") ∷ []) byte_and_word [] taking_h [] (PlainStmt.For (codes "__") (codes "s") (stmts []) ∷ [])) ReservedName 5
  pub two_underscores_apart : Typed false (PlainDecl.Symbol (codes "_a_b") ∷ [])

-- Widths: bits of one width stand together, and a number is below 2 to its width.
pub record WidthsAgree : Type 0 where
  pub width_is_129 : BreaksOnly (PlainDecl.Meta (width_field 129 ∷ []) ∷ []) Width 0
  pub width_is_128 : Typed false (PlainDecl.Meta (width_field 128 ∷ []) ∷ [])
  pub byte_is_assigned_to_a_word : BreaksOnly (doing (PlainStmt.Assign y (PlainExpr.At x) ∷ [])) Width 4
  pub byte_is_cast_to_a_word :
      Typed false (doing (PlainStmt.Assign y (PlainExpr.Cast 32 (PlainExpr.At x)) ∷ []))
  pub two_widths_add_up_to_129 :
      BreaksOnly (doing (set_x (PlainExpr.Cast 8 (binary Join (wide 128 0) (wide 1 0))) ∷ [])) Width 4
  pub cell_is_numbered_by_a_byte :
      BreaksOnly (program_with_register [] (PlainStmt.Read x r (PlainExpr.At x) ∷ [])) Width 5
  pub no_operand_has_a_width : BreaksOnly (doing (set_x (sum (bare 1) (bare 2)) ∷ [])) NoWidth 4
  pub one_operand_has_a_width : Typed false (doing (set_x (sum (bare 1) (PlainExpr.At x)) ∷ []))
  pub bare_number_is_turned : Typed false (doing (set_x (inverted (bare 1)) ∷ []))
  pub bare_number_is_shifted : BreaksOnly (doing (set_x (shifted (bare 1) (PlainExpr.At x)) ∷ [])) NoWidth 4
  pub amount_takes_the_width_of_the_left :
      BreaksOnly (doing (set_x (shifted (PlainExpr.At x) (bare 300)) ∷ [])) LiteralTooWide 4
  pub amount_has_its_own_width : Typed false (doing (set_x (shifted (PlainExpr.At x) (wide 9 300)) ∷ []))
  pub turned_number_takes_the_width_of_its_place :
      BreaksOnly (doing (set_x (inverted (bare 256)) ∷ [])) LiteralTooWide 4
  pub condition_is_a_byte : BreaksOnly (doing (PlainStmt.If (PlainExpr.At x) (stmts []) ∷ [])) NotBool 4
  pub booleans_are_compared :
      BreaksOnly (doing (PlainStmt.If (equal is_valid (PlainExpr.Truth true)) (stmts []) ∷ [])) NotBool 4
  pub boolean_is_cast_to_one_bit :
      Typed false (doing (PlainStmt.Assign dropped (PlainExpr.Cast 1 is_valid) ∷ []))
  pub slice_ends_at_the_width :
      BreaksOnly (doing (set_x (PlainExpr.Slice (PlainExpr.At v) 8 1) ∷ [])) BadSlice 4
  pub slice_is_the_whole : Typed false (doing (set_x (PlainExpr.Slice (PlainExpr.At v) 7 0) ∷ []))
  pub header_has_half_a_byte :
      BreaksOnly (PlainDecl.Header (codes "h_t") (width_field 4 ∷ []) ∷ []) OddHeader 0
  pub two_fields_are_a_byte :
      Typed false (PlainDecl.Header (codes "h_t") (record { name = codes "g"; width = 4; size = None } ∷ width_field 4 ∷ []) ∷ [])

-- Sizes: an array stands with the index of a loop over its size, and loops don't nest.
pub record SizesAndIndicesAgree : Type 0 where
  pub array_has_no_index : BreaksOnly (sized [] (assign (lval.Meta (codes "a") None) 1 ∷ [])) BadIndex 6
  pub loop_is_over_another_size :
      BreaksOnly (sized [] (loop_over (codes "t") (assign element 1 ∷ []) ∷ [])) BadIndex 6
  pub loop_is_over_the_size : Typed false (sized [] (loop_over (codes "s") (assign element 1 ∷ []) ∷ []))
  pub one_calling_loop_is_over_another_size :
      BreaksOnly (sized (indexed_action (codes "one") (assign element 1 ∷ []) ∷ []) (loop_over (codes "s") (PlainStmt.Call (codes "one") (Some (codes "i")) [] ∷ []) ∷ loop_over (codes "t") (PlainStmt.Call (codes "one") (Some (codes "i")) [] ∷ []) ∷ [])) BadIndex 6
  pub uncalled_action_fits_every_array :
      Typed false (sized (indexed_action (codes "one") (assign element 1 ∷ assign (lval.Meta (codes "b") (Some (codes "i"))) 1 ∷ []) ∷ []) [])
  pub index_hides_a_constant :
      BreaksOnly (frame (PlainDecl.Symbol (codes "s") ∷ constant (codes "i") 8 1 ∷ []) byte_and_word [] taking_h [] (loop_over (codes "s") (set_x (by_name (codes "i")) ∷ []) ∷ [])) BadIndex 6
  pub plain_action_is_called_with_an_index :
      BreaksOnly (sized (one ∷ []) (loop_over (codes "s") (PlainStmt.Call (codes "one") (Some (codes "i")) [] ∷ []) ∷ [])) BadIndex 6
  pub modulus_is_0 : BreaksOnly (doing (PlainStmt.Assign y (hash_below 0) ∷ [])) BadAmount 4
  pub modulus_is_the_greatest : Typed false (doing (PlainStmt.Assign y (hash_below 1000000000) ∷ []))
  pub first_key_is_1 : BreaksOnly (steps ((1, 5) ∷ [])) BadTerm 1
  pub keys_fall : BreaksOnly (steps ((0, 5) ∷ (8, 6) ∷ (7, 7) ∷ [])) BadTerm 1
  pub values_fall : Typed false (steps ((0, 9) ∷ (8, 1) ∷ []))
  pub loop_stands_in_a_loop :
      BreaksOnly (sized [] (loop_over (codes "s") (PlainStmt.For (codes "j") (codes "t") (stmts []) ∷ []) ∷ [])) NestedLoop 6
  pub loops_stand_one_after_the_other :
      Typed false (sized [] (loop_over (codes "s") (assign x 1 ∷ []) ∷ loop_over (codes "t") (assign x 1 ∷ []) ∷ []))

-- Tables and calls: sets go with keys, entries with actions, and arguments with parameters.
pub record TablesAndCallsAgree : Type 0 where
  pub exact_key_has_a_mask :
      BreaksOnly (with_locals (one ∷ exact_table (PlainKeyset.Masked (bare 5) (bare 15)) ∷ []) []) BadKey 4
  pub ternary_key_has_a_mask :
      Typed false (with_locals (one ∷ ternary_table (PlainKeyset.Masked (bare 5) (bare 15)) ∷ []) [])
  pub bare_number_is_selected :
      BreaksOnly (parsing (state start [] (PlainNext.Select (bare 5) []) ∷ [])) BadKey 3
  pub field_is_selected :
      Typed false (parsing (state start (codes "h" ∷ []) (PlainNext.Select (PlainExpr.At v) ((PlainKeyset.Any, accept) ∷ [])) ∷ []))
  pub entry_runs_an_action_that_is_not_listed :
      BreaksOnly (with_locals (one ∷ plain_action (codes "two") [] ∷ table_of_v false (codes "one" ∷ []) ((PlainKeyset.One (bare 5), codes "two") ∷ []) None None ∷ []) []) BadEntries 4
  pub more_entries_than_the_size :
      BreaksOnly (with_locals (one ∷ table_of_v false (codes "one" ∷ []) ((PlainKeyset.One (bare 5), codes "one") ∷ (PlainKeyset.One (bare 6), codes "one") ∷ []) None (Some 1) ∷ []) []) BadEntries 4
  pub no_action_is_the_default :
      Typed false (with_locals (one ∷ table_of_v false (codes "one" ∷ []) ((PlainKeyset.One (bare 5), codes "one") ∷ []) (Some (codes "NoAction")) (Some 1) ∷ []) [])
  pub argument_is_missing :
      BreaksOnly (with_locals (action_of_n (codes "one") [] ∷ []) (call (codes "one") [] ∷ [])) BadCall 4
  pub indexed_action_stands_in_a_table :
      BreaksOnly (with_locals (indexed_action (codes "one") [] ∷ table_of_v false (codes "one" ∷ []) [] None None ∷ []) []) BadCall 4
  pub no_action_has_no_parameters : Typed false (doing (call (codes "NoAction") [] ∷ []))
  pub action_of_a_table_names_a_register :
      BreaksOnly (program_with_register (plain_action (codes "one") (read_r ∷ []) ∷ table_of_v false (codes "one" ∷ []) [] None None ∷ []) (PlainStmt.Apply (codes "t") ∷ [])) RegisterInTable 5
  pub action_beside_a_table_names_a_register :
      Typed false (program_with_register (one ∷ plain_action (codes "two") (read_r ∷ []) ∷ table_of_v false (codes "one" ∷ []) [] None None ∷ []) (call (codes "two") [] ∷ PlainStmt.Apply (codes "t") ∷ []))

-- Whole programs are typed.
pub record WholeProgramsAreTyped : Type 0 where
  pub sketch : Typed false (count_min_sketch)
  pub cache : Typed false (sketch_and_cache)
  pub entries : Typed false (ternary_table_source)
  pub registers : Typed false count_big_headers
  pub assignments : Typed false swap_then_set
  pub branch : Typed false changed_condition
  pub blocks : Typed false two_staged_blocks
  pub hash : Typed false hashed_header
  pub rows : Typed false counted_rows
  pub arrays : Typed false two_register_arrays
  pub states_and_tables :
      Typed false (with_body (read_r ∷ PlainStmt.Apply (codes "t") ∷ PlainStmt.Apply (codes "u") ∷ []))

-- Registers: each is named by one unit, which names no other.
pub record RegistersAreNamedByOneUnit : Type 0 where
  pub two_units_name_it : BreaksOnly (program_with_register [] (read_r ∷ write_r ∷ [])) RegisterTwice 3
  pub one_action_names_it_twice :
      Typed false (program_with_register (plain_action (codes "one") (read_r ∷ write_r ∷ []) ∷ []) (call (codes "one") [] ∷ []))
  pub loop_names_it :
      BreaksOnly (frame (PlainDecl.Symbol (codes "s") ∷ []) byte_and_word (PlainDecl.Register (codes "r") 8 (amount.Num 4) None ∷ []) taking_h [] (loop_over (codes "s") (read_r ∷ []) ∷ [])) RegisterTwice 4
  pub loop_names_one_of_each_index :
      Typed false (frame (PlainDecl.Symbol (codes "s") ∷ []) byte_and_word (PlainDecl.Register (codes "r") 8 (amount.Num 4) (Some (codes "s")) ∷ []) taking_h [] (loop_over (codes "s") (PlainStmt.Read x (record { name = codes "r"; index = Some (codes "i") }) (bare 0) ∷ []) ∷ []))
  pub no_unit_names_it : BreaksOnly (program_with_register [] []) RegisterUnused 3
  pub uncalled_action_names_it :
      BreaksOnly (program_with_register (plain_action (codes "one") (read_r ∷ []) ∷ []) []) RegisterUnused 3
  pub branch_names_it : Typed false (program_with_register [] (PlainStmt.If is_valid (stmts (read_r ∷ [])) ∷ []))

-- Parsers come to an end, and the parts of a pipeline stand together.
pub record PartsBelongTogether : Type 0 where
  pub state_goes_on_to_itself : BreaksOnly (parsing (goes_to start start ∷ [])) ParserLoop 3
  pub state_without_start_goes_on_to_itself :
      BreaksOnly (parsing (goes_to start accept ∷ goes_to (codes "more") (codes "last") ∷ goes_to (codes "last") (codes "more") ∷ [])) ParserLoop 3
  pub start_is_missing : BreaksOnly (parsing (goes_to (codes "more") accept ∷ [])) ParserLoop 3
  pub two_states_go_on_to_one :
      Typed false (parsing (state start (codes "h" ∷ []) (PlainNext.Select (PlainExpr.At v) ((PlainKeyset.One (bare 1), codes "more") ∷ (PlainKeyset.Any, codes "last") ∷ [])) ∷ goes_to (codes "more") (codes "last") ∷ goes_to (codes "last") accept ∷ []))
  pub main_is_missing : BreaksOnly (PlainDecl.Headers [] ∷ PlainDecl.Deparser (codes "d") [] ∷ []) NoMain 1
  pub headers_and_metadata_alone :
      Typed false (PlainDecl.Header (codes "h_t") (byte_field (codes "v") None ∷ []) ∷ PlainDecl.Headers ((codes "h_t", codes "h") ∷ []) ∷ PlainDecl.Meta byte_and_word ∷ [])
  pub whole_frame : Typed false (doing [])

-- A name in a set that isn't declared breaks two rules, and names with two underscores may be allowed.
pub record NamesMayBreakTwoRules : Type 0 where
  pub set_is_unknown :
      Breaks false (with_locals (one ∷ exact_table (PlainKeyset.One (by_name (codes "n"))) ∷ []) []) UnknownName 4
  pub set_is_no_constant :
      Breaks false (with_locals (one ∷ exact_table (PlainKeyset.One (by_name (codes "n"))) ∷ []) []) NotConst 4
  pub underscores_are_allowed : Typed true (PlainDecl.Symbol (codes "a__b") ∷ [])
