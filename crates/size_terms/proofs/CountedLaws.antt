-- What counts cells or is a modulus in a typed program is one of its symbols.
use Rattle.std.proofs.Common.{◌≡◌, ℕ, zero, suc, ◌+◌, ◌<◌, ◌≤◌, ◌⊎◌, inl, inr, cond, ◌||◌, arith, Bool, true, false, ◌&&◌, List, [], ◌∷◌, ◌++◌, map, flat_map, append_assoc, length, Option, Some, None, refl, sym, ap, subst, ◌∙◌, true≢false, is_some}
use Rattle.std.specs.Prelude.{◌↔◌, All}
use Rattle.std.specs.List.{list_all, filter, range_with_len}
use Rattle.std.proofs.Math.Nat.{eq-or-lt_of_le}
use Rattle.std.proofs.lemmas.Bool.{and_from, and_parts, or_right}
use Rattle.std.proofs.lemmas.Bool.Decides.{nat_tests}
use Rattle.std.proofs.lemmas.List.Elements.{All-nil, All-cons, All-head, All-tail}
use Rattle.std.proofs.lemmas.List.Folds.{list_all-append}
use Rattle.elastic_ast.specs.declared.declarations.Param.{Param}
use Rattle.elastic_ast.specs.declared.statements.Amount.{Amount}
use Rattle.elastic_ast.specs.declared.statements.Amount.TheVariants as amount
use Rattle.elastic_ast.specs.Tree.{Name, PlainExpr, PlainStmt, PlainStmts, PlainAction, PlainLocal, PlainNext, PlainState, PlainDecl}
use Rattle.elastic_ast.specs.Typing.Scope.{is_symbol, Scope, top}
use Rattle.elastic_ast.specs.Typing.Types.{Ty, Bare, bits_of, type_of, lval_type}
use Rattle.elastic_ast.specs.Typing.Demand.{Demand, Known, Wide, Indexed, rule_of, met, first_broken}
use Rattle.elastic_ast.specs.Typing.AskedOfNames.{asks_names, asks_symbol, asks_amount}
use Rattle.elastic_ast.specs.Typing.AskedInExpressions.{names_at, asks_index, asks_lval, asks_count, asks_expr, asks_bits, asks_truth, asks_turned, turned_giver, asks_sort, asks_cast}
use Rattle.elastic_ast.specs.OperatorSorts.{operator_of, sort_of}
use Rattle.elastic_ast.specs.Typing.Types.{left_giver, right_giver}
use Rattle.elastic_ast.specs.Typing.AskedInStatements.{action_among, asks_register_of, asks_cell, asks_args, asks_call, asks_loop, in_loop, is_called, register_type, asks_stmt, asks_stmts}
use Rattle.elastic_ast.specs.Typing.AskedInLocals.{option_names, param_name, asks_param, in_action, asks_local, asks_locals, local_name}
use Rattle.elastic_ast.specs.Typing.ParserLoops.{state_names}
use Rattle.elastic_ast.specs.Typing.Asked.{asks_named_header, asks_next, asks_state, asks_structs, asks_decl}
use Rattle.elastic_ast.specs.Typing.Typed.{broken_rule, first_of}
use Rattle.elastic_ast.specs.Sizes.Counted.{counted_in_amount, counted_in_expr, counted_in_stmt, counted_in_stmts, counted_in_local, counted_in_next, counted_in_state, counted_in_decl, counted_symbols}
use Rattle.elastic_ast.specs.Sizes.SizeSums.{symbols_of, size_of, IsCounted}
use Rattle.elastic_ast.specs.declared.flat.Linear.{Linear}
use Rattle.elastic_ast.specs.declared.flat.Terms.{Terms}
use Rattle.elastic_ast.proofs.Typing.First.{first-append}
use Rattle.elastic_ast.proofs.Typing.TypedLaws.{if_none, none_both, unmapped}
use Rattle.width_check.specs.Sound.{IsSound}
use Rattle.width_check.proofs.BrokenLaws.{typed_walk}
use Rattle.size_terms.specs.Places.{place_of}
use Rattle.size_terms.specs.Coefficients.{rows_of}
use Rattle.size_terms.specs.Ones.{is_at, is_counted, ones_of}
use Rattle.size_terms.specs.Rows.{RowsHold, OneHolds, OnesHold}
use Rattle.size_terms.specs.TermsMean.{SayAssumes}
use Rattle.size_terms.proofs.CoefficientLaws.{rows_are}
use Rattle.size_terms.proofs.SumLaws.{place_within, size_there}
use Rattle.size_terms.proofs.BuildLaws.{own_met, symbol_placed}

-- what is asked first is so, and what is asked behind it
head : (q : Demand) (qs : List Demand) → first_broken true (q ∷ qs) ≡ None → (met true q ≡ true) × (first_broken true qs ≡ None)
head q qs h = if_none (met true q) (rule_of q) (first_broken true qs) h

both : (one other : List Demand) → first_broken true (one ++ other) ≡ None → (first_broken true one ≡ None) × (first_broken true other ≡ None)
both one other h = none_both (first_broken true one) (first_broken true other) (sym (first-append true one other) ∙ h)

-- names are those of symbols
abbrev AreSymbols : List PlainDecl → List Name → Type 0
AreSymbols before names = list_all (is_symbol before) names ≡ true

join : (before : List PlainDecl) (one other : List Name) → AreSymbols before one → AreSymbols before other → AreSymbols before (one ++ other)
join before one other a b = list_all-append (is_symbol before) one other ∙ and_from (list_all (is_symbol before) one) (list_all (is_symbol before) other) a b

amount_known : (before : List PlainDecl) (a : Amount) → first_broken true (asks_amount before a) ≡ None → AreSymbols before (counted_in_amount a)
amount_known before (amount.Num number) h = refl
amount_known before (amount.Named symbol) h = and_from (is_symbol before symbol) true (head (Known (is_symbol before symbol)) [] h).0 refl

expr_known : (s : Scope) (e : PlainExpr) (giver : Ty) → first_broken true (asks_expr s e giver) ≡ None → AreSymbols s.before (counted_in_expr e)
expr_known s (PlainExpr.Num width value) giver h = refl
expr_known s (PlainExpr.Truth value) giver h = refl
expr_known s (PlainExpr.Named name) giver h = refl
expr_known s (PlainExpr.At place) giver h = refl
expr_known s (PlainExpr.IsValid header) giver h = refl
expr_known s (PlainExpr.Unary op of) giver h = expr_known s of _ (both (asks_expr s of (turned_giver (sort_of (operator_of op)) giver)) (asks_turned (sort_of (operator_of op)) (type_of (names_at s) of)) h).0
expr_known s (PlainExpr.Binary op left right) giver h =
    let sort = sort_of (operator_of op) in
    let one = type_of (names_at s) left in
    let other = type_of (names_at s) right in
    let p = both (asks_expr s left (left_giver sort one other)) (asks_expr s right (right_giver sort one other) ++ asks_sort sort one other) h in
    let q = both (asks_expr s right (right_giver sort one other)) (asks_sort sort one other) p.1 in
    join s.before (counted_in_expr left) (counted_in_expr right) (expr_known s left _ p.0) (expr_known s right _ q.0)
expr_known s (PlainExpr.Cast width of) giver h = expr_known s of _ (both (asks_expr s of (bits_of width)) (asks_cast width (type_of (names_at s) of)) (head (Wide width) (asks_expr s of (bits_of width) ++ asks_cast width (type_of (names_at s) of)) h).1).0
expr_known s (PlainExpr.Slice of high low) giver h = expr_known s of Bare (both (asks_expr s of Bare) _ h).0
expr_known s (PlainExpr.Hash k of modulus) giver h =
    let p = both (asks_expr s of Bare) (asks_count s k ++ (asks_amount s.before modulus ++ _)) h in
    let q = both (asks_count s k) (asks_amount s.before modulus ++ _) p.1 in
    join s.before (counted_in_expr of) (counted_in_amount modulus) (expr_known s of Bare p.0) (amount_known s.before modulus (both (asks_amount s.before modulus) _ q.1).0)

bits_known : (s : Scope) (e : PlainExpr) (width : Ty) → first_broken true (asks_bits s e width) ≡ None → AreSymbols s.before (counted_in_expr e)
bits_known s e width h = expr_known s e width (both (asks_expr s e width) _ h).0

args_known : (s : Scope) (args : List PlainExpr) (params : List Param) → first_broken true (asks_args s args params) ≡ None → AreSymbols s.before (flat_map counted_in_expr args)
args_known s [] params h = refl
args_known s (arg ∷ args) [] h = cc
args_known s (arg ∷ args) (param ∷ params) h =
    let p = both (asks_bits s arg (bits_of param.width)) (asks_args s args params) h in
    join s.before (counted_in_expr arg) (flat_map counted_in_expr args) (bits_known s arg (bits_of param.width) p.0) (args_known s args params p.1)

call_known : (s : Scope) (action : Option PlainAction) (index : Option Name) (args : List PlainExpr) → first_broken true (asks_call s action index args) ≡ None → AreSymbols s.before (flat_map counted_in_expr args)
call_known s None index args h = cc
call_known s (Some action) index args h =
    args_known s args action.params (both (asks_index s index) (asks_args s args action.params) (head (Indexed (is_called s action.index index)) (asks_index s index ++ asks_args s args action.params) h).1).1

mutual
  stmt_known : (s : Scope) (locals : List PlainLocal) (x : PlainStmt) → first_broken true (asks_stmt s locals x) ≡ None → AreSymbols s.before (counted_in_stmt x)
  stmt_known s locals (PlainStmt.Block stage body) h = stmts_known s locals body h
  stmt_known s locals (PlainStmt.If condition body) h =
      let p = both (asks_truth s condition) (asks_stmts s locals body) h in
      join s.before (counted_in_expr condition) (counted_in_stmts body) (expr_known s condition Bare (both (asks_expr s condition Bare) _ p.0).0) (stmts_known s locals body p.1)
  stmt_known s locals (PlainStmt.IfElse condition body other) h =
      let p = both (asks_truth s condition) (asks_stmts s locals body ++ asks_stmts s locals other) h in
      let q = both (asks_stmts s locals body) (asks_stmts s locals other) p.1 in
      join s.before (counted_in_expr condition) (counted_in_stmts body ++ counted_in_stmts other) (expr_known s condition Bare (both (asks_expr s condition Bare) _ p.0).0)
      (join s.before (counted_in_stmts body) (counted_in_stmts other) (stmts_known s locals body q.0) (stmts_known s locals other q.1))
  stmt_known s locals (PlainStmt.For index size body) h = stmts_known (in_loop s index size) locals body (both (asks_loop s index size) (asks_stmts (in_loop s index size) locals body) h).1
  stmt_known s locals (PlainStmt.Assign to value) h = bits_known s value (lval_type s.before to) (both (asks_lval s to) (asks_bits s value (lval_type s.before to)) h).1
  stmt_known s locals (PlainStmt.Read to register cell) h =
      let p = both (asks_lval s to) (asks_register_of s register ++ (asks_cell s cell ++ _)) h in
      let q = both (asks_register_of s register) (asks_cell s cell ++ _) p.1 in
      bits_known s cell _ (both (asks_cell s cell) _ q.1).0
  stmt_known s locals (PlainStmt.Write register cell value) h =
      let p = both (asks_register_of s register) (asks_cell s cell ++ asks_bits s value (register_type s register)) h in
      let q = both (asks_cell s cell) (asks_bits s value (register_type s register)) p.1 in
      join s.before (counted_in_expr cell) (counted_in_expr value) (bits_known s cell _ q.0) (bits_known s value (register_type s register) q.1)
  stmt_known s locals (PlainStmt.Valid header on) h = refl
  stmt_known s locals (PlainStmt.Call action index args) h = call_known s (action_among locals action) index args h
  stmt_known s locals (PlainStmt.Apply table) h = refl

  stmts_known : (s : Scope) (locals : List PlainLocal) (xs : PlainStmts) → first_broken true (asks_stmts s locals xs) ≡ None → AreSymbols s.before (counted_in_stmts xs)
  stmts_known s locals PlainStmts.nil h = refl
  stmts_known s locals (PlainStmts.cons x xs) h =
      let p = both (asks_stmt s locals x) (asks_stmts s locals xs) h in
      join s.before (counted_in_stmt x) (counted_in_stmts xs) (stmt_known s locals x p.0) (stmts_known s locals xs p.1)

local_known : (before : List PlainDecl) (body : PlainStmts) (seen : List PlainLocal) (x : PlainLocal) → first_broken true (asks_local before body seen x) ≡ None → AreSymbols before (counted_in_local x)
local_known before body seen (PlainLocal.OfAction action) h =
    let p = both (asks_names [] (option_names action.index ++ map param_name action.params)) (flat_map asks_param action.params ++ asks_stmts (in_action before body action) [] action.body) h in
    stmts_known (in_action before body action) [] action.body (both (flat_map asks_param action.params) (asks_stmts (in_action before body action) [] action.body) p.1).1
local_known before body seen (PlainLocal.OfTable table) h = refl

locals_known : (before : List PlainDecl) (body : PlainStmts) (seen xs : List PlainLocal) → first_broken true (asks_locals before body seen xs) ≡ None → AreSymbols before (flat_map counted_in_local xs)
locals_known before body seen [] h = refl
locals_known before body seen (x ∷ xs) h =
    let p = both (asks_local before body seen x) (asks_locals before body (seen ++ x ∷ []) xs) h in
    join before (counted_in_local x) (flat_map counted_in_local xs) (local_known before body seen x p.0) (locals_known before body (seen ++ x ∷ []) xs p.1)

next_known : (before : List PlainDecl) (states : List PlainState) (x : PlainNext) → first_broken true (asks_next before states x) ≡ None → AreSymbols before (counted_in_next x)
next_known before states (PlainNext.To name) h = refl
next_known before states (PlainNext.Select of cases) h = expr_known (top before) of Bare (both (asks_expr (top before) of Bare) _ h).0

states_known : (before : List PlainDecl) (states xs : List PlainState) → first_broken true (flat_map (asks_state before states) xs) ≡ None → AreSymbols before (flat_map counted_in_state xs)
states_known before states [] h = refl
states_known before states (x ∷ xs) h =
    let p = both (asks_state before states x) (flat_map (asks_state before states) xs) h in
    join before (counted_in_state x) (flat_map counted_in_state xs) (next_known before states x.next (both (flat_map (asks_named_header before) x.extracts) (asks_next before states x.next) p.0).1) (states_known before states xs p.1)

decl_known : (before : List PlainDecl) (x : PlainDecl) → first_broken true (asks_decl before x) ≡ None → AreSymbols before (counted_in_decl x)
decl_known before (PlainDecl.Register name width cells size) h =
    amount_known before cells (both (asks_amount before cells) (asks_symbol before size) (head (Wide width) (asks_amount before cells ++ asks_symbol before size) h).1).0
decl_known before (PlainDecl.Parser name states) h =
    let p = both (asks_structs before) (asks_names [] (state_names states) ++ flat_map (asks_state before states) states) h in
    states_known before states states (both (asks_names [] (state_names states)) (flat_map (asks_state before states) states) p.1).1
decl_known before (PlainDecl.Control name locals body) h =
    let p = both (asks_structs before) (asks_names [] (map local_name locals) ++ (asks_locals before body [] locals ++ asks_stmts (top before) locals body)) h in
    let q = both (asks_names [] (map local_name locals)) (asks_locals before body [] locals ++ asks_stmts (top before) locals body) p.1 in
    let r = both (asks_locals before body [] locals) (asks_stmts (top before) locals body) q.1 in
    join before (flat_map counted_in_local locals) (counted_in_stmts body) (locals_known before body [] locals r.0) (stmts_known (top before) locals body r.1)
decl_known before _ h = refl

-- names have places among symbols
abbrev pub ArePlaced : List Name → List Name → Type 0
ArePlaced symbols names = list_all (λ name. is_some (place_of symbols name)) names ≡ true

placed : (symbols : List Name) (before : List PlainDecl) (names : List Name) → ((name : Name) → is_symbol before name ≡ true → is_some (place_of symbols name) ≡ true) → AreSymbols before names → ArePlaced symbols names
placed symbols before [] there h = refl
placed symbols before (name ∷ names) there h = by (is_symbol before name) refl h (placed symbols before names there)
  where
    by : (b : Bool) → is_symbol before name ≡ b → (b && list_all (is_symbol before) names) ≡ true → (AreSymbols before names → ArePlaced symbols names) → ArePlaced symbols (name ∷ names)
    by true e h ih = and_from (is_some (place_of symbols name)) (list_all (λ n. is_some (place_of symbols n)) names) (there name e) (ih h)
    by false e h ih = cc

pub counted_placed : (symbols : List Name) (k : ℕ) (before ds : List PlainDecl) → symbols ≡ symbols_of (before ++ ds) → first_of (broken_rule true) k before ds ≡ None → ArePlaced symbols (counted_symbols ds)
counted_placed symbols k before [] e h = refl
counted_placed symbols k before (d ∷ ds) e h =
    let p = none_both _ (first_of (broken_rule true) (k + 1) (before ++ d ∷ []) ds) h in
    let own = decl_known before d (own_met before d (unmapped (broken_rule true before d) k p.0)) in
    let here = placed symbols before (counted_in_decl d) (λ name known. ap (λ z. is_some (place_of z name)) e ∙ symbol_placed name 0 before (d ∷ ds) known) own in
    let later = counted_placed symbols (k + 1) (before ++ d ∷ []) ds (e ∙ ap symbols_of (sym (append_assoc before (d ∷ []) ds))) p.1 in
    list_all-append (λ name. is_some (place_of symbols name)) (counted_in_decl d) (counted_symbols ds)
    ∙ and_from (list_all (λ name. is_some (place_of symbols name)) (counted_in_decl d)) (list_all (λ name. is_some (place_of symbols name)) (counted_symbols ds)) here later

-- what a test that a filter lets through says, of each number of a range
filtered : (test : ℕ → Bool) (P : ℕ → Type 0) (k n : ℕ) → ((place : ℕ) → k ≤ place → place < k + n → test place ≡ true → P place) → All P (filter test (range_with_len k n))
filtered test P k zero each = All-nil P
filtered test P k (suc n) each = by (test k) refl (filtered test P (k + 1) n (λ place low high e. each place (omega (arith, low)) (omega (arith, high)) e))
  where
    by : (b : Bool) → test k ≡ b → All P (filter test (range_with_len (k + 1) n)) → All P (cond b (k ∷ filter test (range_with_len (k + 1) n)) (filter test (range_with_len (k + 1) n)))
    by true e rest = All-cons P k (filter test (range_with_len (k + 1) n)) (each k (omega arith) (omega arith) e) rest
    by false e rest = rest

unfiltered : (test : ℕ → Bool) (P : ℕ → Type 0) (k n : ℕ) → All P (filter test (range_with_len k n)) → (place : ℕ) → k ≤ place → place < k + n → test place ≡ true → P place
unfiltered test P k zero all place low high e = absurd (omega (arith, low, high))
unfiltered test P k (suc n) all place low high e = by (test k) refl all (eq-or-lt_of_le low) (λ rest later. unfiltered test P (k + 1) n rest place (omega (arith, later)) (omega (arith, high)) e)
  where
    by : (b : Bool) → test k ≡ b → All P (cond b (k ∷ filter test (range_with_len (k + 1) n)) (filter test (range_with_len (k + 1) n))) → (k ≡ place) ⊎ (k < place)
        → (All P (filter test (range_with_len (k + 1) n)) → k < place → P place) → P place
    by true f all (inl same) ih = subst P same (All-head P k (filter test (range_with_len (k + 1) n)) all)
    by true f all (inr later) ih = ih (All-tail P k (filter test (range_with_len (k + 1) n)) all) later
    by false f all (inl same) ih = absurd (true≢false (sym e ∙ ap test (sym same) ∙ f))
    by false f all (inr later) ih = ih all later

module _ (symbols : List Name) (sizes : List ℕ) where
  -- the symbol of a name is at least 1
  abbrev Counts : Name → Type 0
  Counts name = 1 ≤ size_of symbols sizes name

  here : (name : Name) (place : ℕ) → place_of symbols name ≡ Some place → is_at place (place_of symbols name) ≡ true
  here name place e = ap (is_at place) e ∙ grind (arith, nat_tests)

  there : (at : Option ℕ) (place : ℕ) → is_at place at ≡ true → at ≡ Some place
  there None place h = cc
  there (Some other) place h = let e : other ≡ place = grind (arith, nat_tests) in ap Some e

  -- where the numbers are at least 1, the names are
  names_count : (names : List Name) → ArePlaced symbols names → ((place : ℕ) → place < length symbols → is_counted symbols names place ≡ true → OneHolds sizes place) → All Counts names
  names_count [] known each = All-nil Counts
  names_count (name ∷ names) known each =
      let parts = and_parts (is_some (place_of symbols name)) (list_all (λ n. is_some (place_of symbols n)) names) known in
      let rest = names_count names parts.1 (λ place within counted. each place within (or_right (is_at place (place_of symbols name)) (is_counted symbols names place) counted)) in
      All-cons Counts name names (by (place_of symbols name) refl parts.0) rest
    where
      by : (at : Option ℕ) → place_of symbols name ≡ at → is_some (place_of symbols name) ≡ true → Counts name
      by None e k = absurd (true≢false (sym k ∙ ap is_some e))
      by (Some place) e k =
          let within = place_within symbols name place (sym e) in
          let one = each place within (ap (λ b. b || is_counted symbols names place) (here name place e)) in
          subst (λ (n : ℕ). 1 ≤ n) (sym (size_there symbols sizes name place (sym e))) one

  -- and the other way
  places_count : (names : List Name) → All Counts names → (place : ℕ) → is_counted symbols names place ≡ true → OneHolds sizes place
  places_count [] all place h = cc
  places_count (name ∷ names) all place h = by (is_at place (place_of symbols name)) refl h (places_count names (All-tail Counts name names all) place)
    where
      by : (b : Bool) → is_at place (place_of symbols name) ≡ b → (b || is_counted symbols names place) ≡ true → (is_counted symbols names place ≡ true → OneHolds sizes place) → OneHolds sizes place
      by true e h ih =
          let at = there (place_of symbols name) place e in
          subst (λ (n : ℕ). 1 ≤ n) (size_there symbols sizes name place (sym at)) (All-head Counts name names all)
      by false e h ih = ih h

-- the numbers are those of symbols
pub ones_within : (decls : List PlainDecl) → All (λ place. place < length (symbols_of decls)) (ones_of decls)
ones_within decls = filtered (is_counted (symbols_of decls) (counted_symbols decls)) (λ place. place < length (symbols_of decls)) 0 (length (symbols_of decls)) (λ place low high e. omega (arith, high))

-- they are at least 1 exactly where what counts something is
pub ones_count : (decls : List PlainDecl) → IsSound decls → (sizes : List ℕ) → OnesHold sizes (ones_of decls) ↔ All (IsCounted decls sizes) (counted_symbols decls)
ones_count decls sound sizes =
    let symbols = symbols_of decls in
    let names = counted_symbols decls in
    let known = counted_placed symbols 0 [] decls refl (typed_walk true decls sound.typed) in (
      (λ h. names_count symbols sizes names known (λ place within counted. unfiltered (is_counted symbols names) (OneHolds sizes) 0 (length symbols) h place (omega arith) (omega (arith, within)) counted)),
      (λ h. filtered (is_counted symbols names) (OneHolds sizes) 0 (length symbols) (λ place low high e. places_count symbols sizes names h place e)),
    )

-- the terms say what the assume clauses do
pub says_assumes : (decls : List PlainDecl) (terms : Terms) → IsSound decls → terms.rows ≡ rows_of decls → terms.ones ≡ ones_of decls → SayAssumes decls terms
says_assumes decls terms sound rows ones sizes =
    let compare = rows_are decls sizes in
    let count = ones_count decls sound sizes in (
      (λ h. record {
        compared = compare.0 (subst (λ (z : List Linear). RowsHold z sizes) rows h.rows);
        counted = count.0 (subst (λ (z : List ℕ). OnesHold sizes z) ones h.ones);
      }),
      (λ a. record {
        rows = subst (λ (z : List Linear). RowsHold z sizes) (sym rows) (compare.1 a.compared);
        ones = subst (λ (z : List ℕ). OnesHold sizes z) (sym ones) (count.1 a.counted);
      }),
    )
