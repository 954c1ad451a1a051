-- More small programs that break one rule of types alone, and typed ones, part by part of the rules; this project's own.
use Rattle.std.specs.Prelude.{◌≡◌, false, [], ◌∷◌, Some, None, codes, replicate}
use Rattle.elastic_ast.specs.declared.rule.Rule.TheVariants.{UnknownName, Twice, Width, NoWidth, LiteralTooWide, NotBool, BadIndex, BadAmount, BadTerm, BadSlice, BadKey, BadEntries, BadCall}
use Rattle.elastic_ast.specs.declared.statements.Amount.TheVariants as amount
use Rattle.elastic_ast.specs.declared.statements.Lval.TheVariants as lval
use Rattle.elastic_ast.specs.declared.declarations.UtilTerm.TheVariants.{Lin, Steps}
use Rattle.elastic_ast.specs.Tree.{PlainDecl, PlainExpr, PlainStmt, PlainKeyset, PlainLocal, PlainNext}
use Rattle.elastic_ast.specs.OperatorSorts.{And, Join, Turn, Negate, binary, unary}
use Rattle.elastic_ast.specs.Typing.Typed.{Typed, broken_rule, first_of}
use Rattle.elastic_laws.specs.Examples.WorkedValues.{bare, wide}
use Rattle.elastic_laws.specs.Examples.WorkedProgram.{x, element, v, r, assign, byte_field, stmts}
use Rattle.elastic_laws.specs.Examples.WorkedTyping.{frame, byte_and_word, taking_h, doing, with_locals, program_with_register, sized, parsing, state, goes_to, start, accept, y, by_name, set_x, sum, shifted, equal, is_valid, loop_over, plain_action, indexed_action, action_of_n, call, read_r, table_of_v, exact_table, ternary_table, one, constant, steps, BreaksOnly}

-- More of names: what each place asks for.
pub record NamesInDetail : Type 0 where
  pub constant_is_too_wide_for_its_name : BreaksOnly (constant (codes "n") 8 256 ∷ []) LiteralTooWide 0
  pub extracted_header_is_no_member :
      BreaksOnly (parsing (state start (codes "g" ∷ []) (PlainNext.To accept) ∷ [])) UnknownName 3
  pub state_is_unknown : BreaksOnly (parsing (goes_to start (codes "more") ∷ [])) UnknownName 3
  pub reject_counts_as_declared : Typed false (parsing (goes_to start (codes "reject") ∷ []))
  pub member_is_of_no_type : BreaksOnly (PlainDecl.Headers ((codes "h_t", codes "h") ∷ []) ∷ []) UnknownName 0
  pub parser_comes_before_the_metadata :
      BreaksOnly (PlainDecl.Header (codes "h_t") (byte_field (codes "v") None ∷ []) ∷ PlainDecl.Headers ((codes "h_t", codes "h") ∷ []) ∷ PlainDecl.Parser (codes "p") taking_h ∷ PlainDecl.Meta byte_and_word ∷ PlainDecl.Control (codes "c") [] (stmts []) ∷ PlainDecl.Deparser (codes "d") [] ∷ PlainDecl.Main (codes "p") (codes "c") (codes "d") ∷ []) UnknownName 2
  pub deparser_needs_no_metadata :
      Typed false (PlainDecl.Header (codes "h_t") (byte_field (codes "v") None ∷ []) ∷ PlainDecl.Headers ((codes "h_t", codes "h") ∷ []) ∷ PlainDecl.Deparser (codes "d") (codes "h" ∷ []) ∷ PlainDecl.Meta byte_and_word ∷ PlainDecl.Parser (codes "p") taking_h ∷ PlainDecl.Control (codes "c") [] (stmts []) ∷ PlainDecl.Main (codes "p") (codes "c") (codes "d") ∷ [])
  pub table_comes_before_its_action :
      BreaksOnly (with_locals (exact_table (PlainKeyset.One (bare 5)) ∷ one ∷ []) []) UnknownName 4
  pub table_is_unknown : BreaksOnly (doing (PlainStmt.Apply (codes "t") ∷ [])) UnknownName 4
  pub action_is_no_table :
      BreaksOnly (with_locals (one ∷ []) (PlainStmt.Apply (codes "one") ∷ [])) UnknownName 4
  pub count_of_a_hash_is_no_index :
      BreaksOnly (doing (PlainStmt.Assign y (PlainExpr.Hash (amount.Named (codes "i")) (PlainExpr.At x) (amount.Num 1)) ∷ [])) UnknownName 4
  pub modulus_may_be_a_symbol :
      Typed false (sized [] (loop_over (codes "t") (PlainStmt.Assign y (PlainExpr.Hash (amount.Named (codes "i")) (PlainExpr.At x) (amount.Named (codes "s"))) ∷ []) ∷ []))
  pub field_of_std_is_unknown : BreaksOnly (doing (assign (lval.Std (codes "port")) 1 ∷ [])) UnknownName 4
  pub field_of_a_header_is_declared_twice :
      BreaksOnly (PlainDecl.Header (codes "h_t") (byte_field (codes "v") None ∷ byte_field (codes "v") None ∷ []) ∷ []) Twice 0
  pub state_has_a_fixed_name :
      BreaksOnly (parsing (goes_to start accept ∷ goes_to (codes "hdr") accept ∷ [])) Twice 3
  pub action_and_table_have_one_name :
      BreaksOnly (with_locals (plain_action (codes "t") [] ∷ one ∷ exact_table (PlainKeyset.One (bare 5)) ∷ []) []) Twice 4
  pub symbol_and_header_type_have_one_name :
      BreaksOnly (PlainDecl.Symbol (codes "h_t") ∷ PlainDecl.Header (codes "h_t") (byte_field (codes "v") None ∷ []) ∷ []) Twice 1
  pub names_of_different_scopes_are_alike :
      Typed false (frame (PlainDecl.Symbol (codes "v") ∷ []) (byte_field (codes "v") None ∷ byte_field (codes "x") None ∷ []) [] taking_h (plain_action (codes "v") [] ∷ []) (PlainStmt.For (codes "v") (codes "v") (stmts []) ∷ []))
  pub metadata_are_declared_twice : BreaksOnly (PlainDecl.Meta [] ∷ PlainDecl.Meta [] ∷ []) Twice 1

-- More of widths and booleans.
pub record ValuesInDetail : Type 0 where
  pub operand_of_a_slice_has_no_width :
      BreaksOnly (doing (set_x (PlainExpr.Slice (bare 5) 7 0) ∷ [])) NoWidth 4
  pub operand_of_a_hash_has_no_width :
      BreaksOnly (doing (PlainStmt.Assign y (PlainExpr.Hash (amount.Num 0) (bare 5) (amount.Num 1)) ∷ [])) NoWidth 4
  pub joined_number_has_no_width :
      BreaksOnly (doing (set_x (PlainExpr.Cast 8 (binary Join (wide 4 0) (bare 1))) ∷ [])) NoWidth 4
  pub amount_is_a_sum_of_bare_numbers :
      BreaksOnly (doing (set_x (shifted (PlainExpr.At x) (sum (bare 1) (bare 2))) ∷ [])) NoWidth 4
  pub operands_are_of_two_widths :
      BreaksOnly (doing (set_x (PlainExpr.Cast 8 (sum (PlainExpr.At x) (PlainExpr.At y))) ∷ [])) Width 4
  pub amount_may_be_of_another_width :
      Typed false (doing (set_x (shifted (PlainExpr.At x) (PlainExpr.At y)) ∷ []))
  pub cast_gives_its_width_on : BreaksOnly (doing (set_x (PlainExpr.Cast 8 (bare 256)) ∷ [])) LiteralTooWide 4
  pub compared_number_takes_the_width_of_the_other :
      BreaksOnly (doing (PlainStmt.If (equal (bare 256) (PlainExpr.At x)) (stmts []) ∷ [])) LiteralTooWide 4
  pub number_has_the_greatest_value :
      Typed false (doing (PlainStmt.If (equal (bare 255) (PlainExpr.At x)) (stmts []) ∷ []))
  pub boolean_is_assigned : BreaksOnly (doing (set_x is_valid ∷ [])) NotBool 4
  pub boolean_is_cast_to_a_byte : BreaksOnly (doing (set_x (PlainExpr.Cast 8 is_valid) ∷ [])) NotBool 4
  pub byte_is_negated :
      BreaksOnly (doing (PlainStmt.If (unary Negate (PlainExpr.At x)) (stmts []) ∷ [])) NotBool 4
  pub boolean_is_turned : BreaksOnly (doing (PlainStmt.If (unary Turn is_valid) (stmts []) ∷ [])) NotBool 4
  pub bytes_are_both_true :
      BreaksOnly (doing (PlainStmt.If (binary And (PlainExpr.At x) (PlainExpr.At x)) (stmts []) ∷ [])) NotBool 4
  pub booleans_are_both_true :
      Typed false (doing (PlainStmt.If (binary And is_valid (unary Negate is_valid)) (stmts []) ∷ []))
  pub slice_is_turned_round :
      BreaksOnly (doing (set_x (PlainExpr.Cast 8 (PlainExpr.Slice (PlainExpr.At v) 1 2)) ∷ [])) BadSlice 4
  pub written_value_is_of_another_width :
      BreaksOnly (program_with_register [] (PlainStmt.Write r (bare 0) (PlainExpr.At y) ∷ [])) Width 5
  pub read_value_is_of_another_width :
      BreaksOnly (program_with_register [] (PlainStmt.Read y r (bare 0) ∷ [])) Width 5
  pub bytes_join_to_a_half_word :
      Typed false (doing (PlainStmt.Assign (lval.Std (codes "out_port")) (binary Join (PlainExpr.At x) (PlainExpr.At v)) ∷ []))

-- More of sizes and indices.
pub record SizesInDetail : Type 0 where
  pub register_has_no_cells :
      BreaksOnly (frame [] byte_and_word (PlainDecl.Register (codes "r") 8 (amount.Num 0) None ∷ []) taking_h [] (read_r ∷ [])) BadAmount 3
  pub register_has_too_many_cells :
      BreaksOnly (frame [] byte_and_word (PlainDecl.Register (codes "r") 8 (amount.Num 1000000001) None ∷ []) taking_h [] (read_r ∷ [])) BadAmount 3
  pub register_is_129_wide :
      BreaksOnly (frame [] (record { name = codes "x"; width = 128; size = None } ∷ []) (PlainDecl.Register (codes "r") 129 (amount.Num 4) None ∷ []) taking_h [] (PlainStmt.Write r (bare 0) (bare 1) ∷ [])) Width 3
  pub field_has_an_index :
      BreaksOnly (sized [] (loop_over (codes "s") (assign (lval.Meta (codes "x") (Some (codes "i"))) 1 ∷ []) ∷ [])) BadIndex 6
  pub register_of_an_array_has_no_index :
      BreaksOnly (frame (PlainDecl.Symbol (codes "s") ∷ []) byte_and_word (PlainDecl.Register (codes "r") 8 (amount.Num 4) (Some (codes "s")) ∷ []) taking_h [] (loop_over (codes "s") (read_r ∷ []) ∷ [])) BadIndex 6
  pub indexed_action_is_called_without_its_index :
      BreaksOnly (sized (indexed_action (codes "one") [] ∷ []) (loop_over (codes "s") (call (codes "one") [] ∷ []) ∷ [])) BadIndex 6
  pub indexed_action_is_called_in_its_loop :
      Typed false (sized (indexed_action (codes "one") (assign element 1 ∷ []) ∷ []) (loop_over (codes "s") (PlainStmt.Call (codes "one") (Some (codes "i")) [] ∷ []) ∷ []))
  pub index_is_a_value :
      BreaksOnly (sized [] (loop_over (codes "s") (set_x (by_name (codes "i")) ∷ []) ∷ [])) BadIndex 6
  pub term_is_too_great :
      BreaksOnly (PlainDecl.Maximize (Lin (record { minus = false; by = 1000000001; symbol = None }) ∷ []) ∷ []) BadTerm 0
  pub sixty_five_terms :
      BreaksOnly (PlainDecl.Maximize (replicate 65 (Lin (record { minus = false; by = 1; symbol = None }))) ∷ []) BadTerm 0
  pub sixty_four_terms :
      Typed false (PlainDecl.Maximize (replicate 64 (Lin (record { minus = false; by = 1; symbol = None }))) ∷ [])
  pub value_of_a_step_is_too_great : BreaksOnly (steps ((0, 1000000001) ∷ [])) BadTerm 1
  pub step_table_is_over_no_symbol :
      BreaksOnly (PlainDecl.Maximize (Steps false (codes "s") ((0, 1) ∷ []) ∷ []) ∷ []) UnknownName 0

-- More of tables and calls.
pub record TablesInDetail : Type 0 where
  pub exact_key_has_any_value : BreaksOnly (with_locals (one ∷ exact_table PlainKeyset.Any ∷ []) []) BadKey 4
  pub ternary_key_has_any_value : Typed false (with_locals (one ∷ ternary_table PlainKeyset.Any ∷ []) [])
  pub entry_has_two_sets :
      BreaksOnly (with_locals (one ∷ PlainLocal.OfTable (record { name = codes "t"; keys = record { field = v; ternary = false } ∷ []; actions = codes "one" ∷ []; entries = record { keys = PlainKeyset.One (bare 1) ∷ PlainKeyset.One (bare 2) ∷ []; action = codes "one"; args = [] } ∷ []; fallback = None; size = None }) ∷ []) []) BadKey 4
  pub set_is_too_wide :
      BreaksOnly (with_locals (one ∷ exact_table (PlainKeyset.One (bare 256)) ∷ []) []) LiteralTooWide 4
  pub mask_is_of_another_width :
      BreaksOnly (with_locals (one ∷ ternary_table (PlainKeyset.Masked (bare 5) (wide 9 15)) ∷ []) []) Width 4
  pub constant_of_a_set_is_of_another_width :
      BreaksOnly (frame (constant (codes "n") 16 1 ∷ []) byte_and_word [] taking_h (one ∷ exact_table (PlainKeyset.One (by_name (codes "n"))) ∷ []) []) Width 5
  pub size_is_a_million_and_one :
      BreaksOnly (with_locals (one ∷ table_of_v false (codes "one" ∷ []) ([]) None (Some 1000001) ∷ []) []) BadEntries 4
  pub size_is_a_million :
      Typed false (with_locals (one ∷ table_of_v false (codes "one" ∷ []) ([]) None (Some 1000000) ∷ []) [])
  pub default_is_not_listed :
      BreaksOnly (with_locals (one ∷ plain_action (codes "two") [] ∷ table_of_v false (codes "one" ∷ []) ([]) (Some (codes "two")) None ∷ []) []) BadEntries 4
  pub entry_runs_no_action_unlisted :
      BreaksOnly (with_locals (one ∷ table_of_v false (codes "one" ∷ []) ((PlainKeyset.One (bare 5), codes "NoAction") ∷ []) None None ∷ []) []) BadEntries 4
  pub entry_lacks_an_argument :
      BreaksOnly (with_locals (action_of_n (codes "one") [] ∷ exact_table (PlainKeyset.One (bare 5)) ∷ []) []) BadCall 4
  pub no_action_is_called_with_an_argument :
      BreaksOnly (doing (call (codes "NoAction") (bare 1 ∷ []) ∷ [])) BadCall 4
  pub argument_is_too_wide :
      BreaksOnly (with_locals (action_of_n (codes "one") [] ∷ []) (call (codes "one") (bare 256 ∷ []) ∷ [])) LiteralTooWide 4
  pub argument_is_a_sum :
      Typed false (with_locals (action_of_n (codes "one") [] ∷ []) (call (codes "one") (sum (PlainExpr.At x) (bare 1) ∷ []) ∷ []))

-- What breaks a rule has no known type: it gives no width to what stands beside it, and breaks no other rule.
pub record FaultsStandAlone : Type 0 where
  pub index_is_added_to_a_great_number :
      BreaksOnly (sized [] (loop_over (codes "s") (set_x (sum (bare 300) (by_name (codes "i"))) ∷ []) ∷ [])) BadIndex 6
  pub index_hides_a_constant_beside_a_great_number :
      BreaksOnly (frame (PlainDecl.Symbol (codes "s") ∷ constant (codes "i") 8 1 ∷ []) byte_and_word [] taking_h [] (loop_over (codes "s") (set_x (sum (bare 300) (by_name (codes "i"))) ∷ []) ∷ [])) BadIndex 6
  pub byte_and_index_are_a_word :
      BreaksOnly (sized [] (loop_over (codes "s") (PlainStmt.Assign y (sum (PlainExpr.At x) (by_name (codes "i"))) ∷ []) ∷ [])) BadIndex 6
  pub index_and_byte_are_a_word :
      BreaksOnly (sized [] (loop_over (codes "s") (PlainStmt.Assign y (sum (by_name (codes "i")) (PlainExpr.At x)) ∷ []) ∷ [])) BadIndex 6
  pub slice_is_turned_round_beside_a_number :
      BreaksOnly (doing (set_x (sum (bare 1) (PlainExpr.Slice (PlainExpr.At v) 3 4)) ∷ [])) BadSlice 4
  pub slice_beyond_its_operand_is_assigned :
      BreaksOnly (doing (PlainStmt.Assign y (PlainExpr.Slice (PlainExpr.At v) 8 0) ∷ [])) BadSlice 4
  pub number_is_cast_to_no_bits : BreaksOnly (doing (set_x (PlainExpr.Cast 0 (bare 1)) ∷ [])) Width 4
  pub constant_has_no_bits : BreaksOnly (constant (codes "n") 0 1 ∷ []) Width 0
  pub parameter_has_no_bits :
      BreaksOnly (with_locals (PlainLocal.OfAction (record { name = codes "one"; index = None; params = record { name = codes "n"; width = 0 } ∷ []; body = stmts [] }) ∷ []) (call (codes "one") (bare 1 ∷ []) ∷ [])) Width 4
  pub two_hundred_bits_are_added_to_a_number :
      BreaksOnly (doing (set_x (sum (bare 300) (binary Join (wide 100 0) (wide 100 0))) ∷ [])) Width 4
  pub two_widths_are_added_to_a_great_number :
      BreaksOnly (doing (PlainStmt.Assign y (sum (sum (PlainExpr.At x) (PlainExpr.At y)) (bare 300)) ∷ [])) Width 4
  pub boolean_and_byte_are_added_to_a_great_number :
      BreaksOnly (doing (PlainStmt.Assign y (sum (sum (PlainExpr.At x) is_valid) (bare 300)) ∷ [])) NotBool 4
  pub unknown_name_is_added_to_a_great_number :
      BreaksOnly (doing (set_x (sum (by_name (codes "n")) (bare 300)) ∷ [])) UnknownName 4
  pub unknown_field_is_added_to_a_great_number :
      BreaksOnly (doing (set_x (sum (bare 300) (PlainExpr.At (lval.Meta (codes "z") None))) ∷ [])) UnknownName 4
  pub unknown_field_is_assigned_to :
      BreaksOnly (doing (assign (lval.Header (codes "h") (codes "z")) 300 ∷ [])) UnknownName 4
  pub unknown_name_is_joined :
      BreaksOnly (doing (PlainStmt.Assign y (binary Join (PlainExpr.At x) (by_name (codes "n"))) ∷ [])) UnknownName 4
  pub unknown_name_is_a_condition :
      BreaksOnly (doing (PlainStmt.If (by_name (codes "n")) (stmts []) ∷ [])) UnknownName 4
  pub unknown_name_is_selected :
      BreaksOnly (parsing (state start (codes "h" ∷ []) (PlainNext.Select (by_name (codes "n")) ((PlainKeyset.One (bare 300), accept) ∷ [])) ∷ [])) UnknownName 3
  pub width_of_a_cast_is_asked_first :
      first_of (broken_rule false) 0 [] (doing (set_x (PlainExpr.Cast 0 (by_name (codes "n"))) ∷ [])) ≡ Some (Width, 4)
