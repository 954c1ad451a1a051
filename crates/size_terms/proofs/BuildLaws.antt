-- What a checked program keeps of its terms, and how its rows and its utility are built step by step.
use Rattle.std.proofs.lemmas.Bool.{and_from, and_parts}
use Rattle.std.proofs.Common.{◌≡◌, ℕ, zero, suc, ◌+◌, ◌<◌, ◌≤◌, ◌&&◌, Bool, true, false, cond, is_some, List, [], ◌∷◌, ◌++◌, map, flat_map, append_assoc, length, take, drop, get_or, Some, None, refl, sym, ap, ◌∙◌, arith, add-one, ℤ, ◌+ℤ◌}
use Rattle.std.specs.Prelude.{nat_le, if◌then◌else◌}
use Rattle.std.specs.List.{list_all, position_from}
use Rattle.std.proofs.lemmas.Int.{ints}
use Rattle.std.proofs.lemmas.Bool.Decides.{nat_tests}
use Rattle.std.proofs.lemmas.List.{append-nil}
use Rattle.std.proofs.lemmas.List.Folds.{list_all-append}
use Rattle.std.proofs.lemmas.Grind.{flat_map-append}
use Rattle.elastic_ast.specs.declared.declarations.Comp.{Comp}
use Rattle.elastic_ast.specs.declared.declarations.Decl.{Decl}
use Rattle.elastic_ast.specs.declared.declarations.LinTerm.{LinTerm}
use Rattle.elastic_ast.specs.declared.declarations.UtilTerm.{UtilTerm}
use Rattle.elastic_ast.specs.declared.declarations.UtilTerm.TheVariants as util
use Rattle.elastic_ast.specs.declared.flat.Linear.{Linear}
use Rattle.elastic_ast.specs.Tree.{Name, PlainDecl}
use Rattle.elastic_ast.specs.Seen.{seen_decl, seen_decls}
use Rattle.elastic_ast.specs.Typing.Scope.{same, or_else, found, symbol_of, is_symbol}
use Rattle.elastic_ast.specs.Typing.Demand.{Term, Few, Rising, from_zero, rises, first_broken}
use Rattle.elastic_ast.specs.Typing.AskedOfNames.{asks_symbol}
use Rattle.elastic_ast.specs.Typing.Asked.{asks_term, asks_comp, asks_pair, pair_key, asks_util, asks_decl, is_first}
use Rattle.elastic_ast.specs.Typing.Typed.{broken_rule, first_of}
use Rattle.elastic_ast.specs.Sizes.SizeSums.{comps_of, comparisons, utility_terms, symbols_of}
use Rattle.elastic_ast.proofs.Typing.First.{first-append}
use Rattle.elastic_ast.proofs.Typing.TypedLaws.{if_none, none_both, unmapped}
use Rattle.width_check.specs.Sound.{IsSound, most_declarations}
use Rattle.width_check.proofs.BrokenLaws.{typed_walk}
use Rattle.width_check.proofs.CheckLaws.{other_broken, broken_parts}
use Rattle.expr_types.proofs.ScopeLaws.{step_take}
use Rattle.program_names.proofs.Items.{drop_step}
use Rattle.size_terms.specs.declared.sums.Sum.{Sum}
use Rattle.size_terms.specs.Places.{place_of}
use Rattle.size_terms.specs.Rows.{is_near_pair}
use Rattle.size_terms.specs.Coefficients.{rows_of_comp, rows_of}
use Rattle.size_terms.specs.Growth.{sum_worth, is_near, linear_value, linears_value}
use Rattle.size_terms.specs.Building.{is_short, is_near_util, AddsComps}

-- tests
-- what a declaration asks of itself is met
pub own_met : (before : List PlainDecl) (d : PlainDecl) → broken_rule true before d ≡ None → first_broken true (asks_decl before d) ≡ None
own_met before d h = (if_none (is_first before d) _ (first_broken true (asks_decl before d)) (none_both _ (other_broken true (is_first before d) (first_broken true (asks_decl before d))) (sym (broken_parts true before d (is_first before d) refl) ∙ h)).1).1

terms_near : (before : List PlainDecl) (ts : List LinTerm) → first_broken true (flat_map (asks_term before) ts) ≡ None → list_all is_near ts ≡ true
terms_near before [] h = refl
terms_near before (t ∷ ts) h =
    let p = if_none (nat_le t.by 1000000000) _ (first_broken true (asks_symbol before t.symbol ++ flat_map (asks_term before) ts)) h in
    and_from (is_near t) (list_all is_near ts) p.0 (terms_near before ts (none_both (first_broken true (asks_symbol before t.symbol)) _ (sym (first-append true (asks_symbol before t.symbol) (flat_map (asks_term before) ts)) ∙ p.1)).1)

comp_short : (before : List PlainDecl) (comp : Comp) → first_broken true (asks_comp before comp) ≡ None → is_short comp ≡ true
comp_short before comp h =
    let p = if_none (nat_le (length comp.left + length comp.right) 64) _ (first_broken true (flat_map (asks_term before) comp.left ++ flat_map (asks_term before) comp.right)) h in
    let q = none_both (first_broken true (flat_map (asks_term before) comp.left)) (first_broken true (flat_map (asks_term before) comp.right)) (sym (first-append true (flat_map (asks_term before) comp.left) (flat_map (asks_term before) comp.right)) ∙ p.1) in
    and_from (nat_le (length comp.left + length comp.right) 64) (list_all is_near comp.left && list_all is_near comp.right) p.0
    (and_from (list_all is_near comp.left) (list_all is_near comp.right) (terms_near before comp.left q.0) (terms_near before comp.right q.1))

comps_short : (before : List PlainDecl) (comps : List Comp) → first_broken true (flat_map (asks_comp before) comps) ≡ None → list_all is_short comps ≡ true
comps_short before [] h = refl
comps_short before (c ∷ cs) h =
    let p = none_both (first_broken true (asks_comp before c)) (first_broken true (flat_map (asks_comp before) cs)) (sym (first-append true (asks_comp before c) (flat_map (asks_comp before) cs)) ∙ h) in
    and_from (is_short c) (list_all is_short cs) (comp_short before c p.0) (comps_short before cs p.1)

decl_short : (before : List PlainDecl) (d : PlainDecl) → first_broken true (asks_decl before d) ≡ None → list_all is_short (comps_of d) ≡ true
decl_short before (PlainDecl.Assume comps) h = comps_short before comps h
decl_short before _ h = refl

all_short : (k : ℕ) (before ds : List PlainDecl) → first_of (broken_rule true) k before ds ≡ None → list_all is_short (comparisons ds) ≡ true
all_short k before [] h = refl
all_short k before (d ∷ ds) h =
    let p = none_both _ (first_of (broken_rule true) (k + 1) (before ++ d ∷ []) ds) h in
    list_all-append is_short (comps_of d) (comparisons ds)
    ∙ and_from (list_all is_short (comps_of d)) (list_all is_short (comparisons ds)) (decl_short before d (own_met before d (unmapped (broken_rule true before d) k p.0))) (all_short (k + 1) (before ++ d ∷ []) ds p.1)

pub sound_short : (ds : List PlainDecl) → IsSound ds → list_all is_short (comparisons ds) ≡ true
sound_short ds s = all_short 0 [] ds (typed_walk true ds s.typed)

-- the terms of the utility are few and small, and its step tables are over symbols
pairs_near : (pairs : List (ℕ × ℕ)) → first_broken true (flat_map asks_pair pairs) ≡ None → list_all is_near_pair pairs ≡ true
pairs_near [] h = refl
pairs_near (pair ∷ pairs) h =
    let key = if_none (nat_le pair.0 1000000000) _ (first_broken true (Term pair.1 ∷ flat_map asks_pair pairs)) h in
    let value = if_none (nat_le pair.1 1000000000) _ (first_broken true (flat_map asks_pair pairs)) key.1 in
    and_from (is_near_pair pair) (list_all is_near_pair pairs) value.0 (pairs_near pairs value.1)

-- each symbol of the declarations before has a place
abbrev HavePlaces : List Name → List PlainDecl → Type 0
HavePlaces symbols before = (name : Name) → is_symbol before name ≡ true → is_some (place_of symbols name) ≡ true

utils_near : (symbols : List Name) (before : List PlainDecl) (ts : List UtilTerm) → HavePlaces symbols before → first_broken true (flat_map (asks_util before) ts) ≡ None → list_all (is_near_util symbols) ts ≡ true
utils_near symbols before [] places h = refl
utils_near symbols before (util.Lin t ∷ ts) places h =
    let p = if_none (nat_le t.by 1000000000) _ (first_broken true (asks_symbol before t.symbol ++ flat_map (asks_util before) ts)) h in
    and_from (is_near t) (list_all (is_near_util symbols) ts) p.0
    (utils_near symbols before ts places (none_both (first_broken true (asks_symbol before t.symbol)) _ (sym (first-append true (asks_symbol before t.symbol) (flat_map (asks_util before) ts)) ∙ p.1)).1)
utils_near symbols before (util.Steps minus symbol pairs ∷ ts) places h =
    let rest = flat_map asks_pair pairs ++ flat_map (asks_util before) ts in
    let known = if_none (is_symbol before symbol) _ (first_broken true (Few (length pairs) ∷ Rising (map pair_key pairs) ∷ rest)) h in
    let few = if_none (nat_le (length pairs) 64) _ (first_broken true (Rising (map pair_key pairs) ∷ rest)) known.1 in
    let rise = if_none (from_zero (map pair_key pairs) && rises (map pair_key pairs)) _ (first_broken true rest) few.1 in
    let both = none_both (first_broken true (flat_map asks_pair pairs)) _ (sym (first-append true (flat_map asks_pair pairs) (flat_map (asks_util before) ts)) ∙ rise.1) in
    and_from (is_near_util symbols (util.Steps minus symbol pairs)) (list_all (is_near_util symbols) ts)
    (and_from (is_some (place_of symbols symbol)) (list_all is_near_pair pairs) (places symbol known.0) (pairs_near pairs both.0)) (utils_near symbols before ts places both.1)

abbrev FewUtils : List Name → List PlainDecl → Type 0
FewUtils symbols ds = (length (utility_terms ds) ≤ 64) × (list_all (is_near_util symbols) (utility_terms ds) ≡ true)

few : (ts : List UtilTerm) → nat_le (length ts) 64 ≡ true → length ts ≤ 64
few ts h = grind (arith, nat_tests)

utils_here : (symbols : List Name) (before : List PlainDecl) (d : PlainDecl) (ds : List PlainDecl) → HavePlaces symbols before → first_broken true (asks_decl before d) ≡ None → FewUtils symbols ds → FewUtils symbols (d ∷ ds)
utils_here symbols before (PlainDecl.Maximize ts) ds places h rest =
    let p = if_none (nat_le (length ts) 64) _ (first_broken true (flat_map (asks_util before) ts)) h in
    (few ts p.0, utils_near symbols before ts places p.1)
utils_here symbols before _ ds places h rest = rest

pub symbol_placed : (name : Name) (k : ℕ) (before after : List PlainDecl) → is_symbol before name ≡ true → is_some (position_from (same name) k (symbols_of (before ++ after))) ≡ true
symbol_placed name k [] after h = cc
symbol_placed name k (PlainDecl.Symbol symbol ∷ before) after h = by (same name symbol) h (symbol_placed name (k + 1) before after)
  where
    by : (b : Bool) → is_some (or_else (if b then Some symbol else None) (found (symbol_of name) before)) ≡ true → (is_symbol before name ≡ true → is_some (position_from (same name) (k + 1) (symbols_of (before ++ after))) ≡ true)
        → is_some (cond b (Some k) (position_from (same name) (k + 1) (symbols_of (before ++ after)))) ≡ true
    by true h ih = refl
    by false h ih = ih h
symbol_placed name k (other ∷ before) after h = symbol_placed name k before after h

utils_few : (symbols : List Name) (k : ℕ) (before ds : List PlainDecl) → symbols ≡ symbols_of (before ++ ds) → first_of (broken_rule true) k before ds ≡ None → FewUtils symbols ds
utils_few symbols k before [] e h = (omega arith, refl)
utils_few symbols k before (d ∷ ds) e h =
    let p = none_both _ (first_of (broken_rule true) (k + 1) (before ++ d ∷ []) ds) h in
    utils_here symbols before d ds (λ name known. ap (λ z. is_some (place_of z name)) e ∙ symbol_placed name 0 before (d ∷ ds) known) (own_met before d (unmapped (broken_rule true before d) k p.0))
    (utils_few symbols (k + 1) (before ++ d ∷ []) ds (e ∙ ap symbols_of (sym (append_assoc before (d ∷ []) ds))) p.1)

pub sound_few : (ds : List PlainDecl) → IsSound ds → length (utility_terms ds) ≤ 64
sound_few ds s = (utils_few (symbols_of ds) 0 [] ds refl (typed_walk true ds s.typed)).0

pub sound_near : (ds : List PlainDecl) → IsSound ds → list_all (is_near_util (symbols_of ds)) (utility_terms ds) ≡ true
sound_near ds s = (utils_few (symbols_of ds) 0 [] ds refl (typed_walk true ds s.typed)).1

-- a declaration declares one symbol at most
symbols_few : (ds : List PlainDecl) → length (symbols_of ds) ≤ length ds
symbols_few [] = omega arith
symbols_few (PlainDecl.Symbol name ∷ ds) = let ih = symbols_few ds in omega (arith, ih)
symbols_few (other ∷ ds) = let ih = symbols_few ds in omega (arith, ih)

pub sound_symbols : (ds : List PlainDecl) → IsSound ds → length (symbols_of ds) ≤ most_declarations
sound_symbols ds s = let few = symbols_few ds in let all = s.few in omega (arith, few, all)

-- lists step by step
pub take_step : {X : Type 0} (xs : List X) (i : ℕ) (x : X) → i < length xs → x ≡ get_or xs i x → take (i + 1) xs ≡ take i xs ++ x ∷ []
take_step xs i x h e = ap (λ k. take k xs) (add-one i) ∙ by xs i x h e
  where
    by : {X : Type 0} (xs : List X) (i : ℕ) (x : X) → i < length xs → x ≡ get_or xs i x → take (suc i) xs ≡ take i xs ++ x ∷ []
    by [] i x h e = absurd (omega arith)
    by (y ∷ ys) zero x h e = ap (λ z. z ∷ []) (sym e)
    by (y ∷ ys) (suc i) x h e = ap (λ z. y ∷ z) (by ys i x (omega arith) e)

pub test_rest : {X : Type 0} (p : X → Bool) (xs : List X) (i : ℕ) (x : X) → i < length xs → x ≡ get_or xs i x → list_all p (drop i xs) ≡ true → list_all p (drop (i + 1) xs) ≡ true
test_rest p xs i x h e inv = (and_parts (p x) (list_all p (drop (i + 1) xs)) (ap (list_all p) (sym (drop_step xs i x h e)) ∙ inv)).1

-- the comparisons of the declarations
pub comps_taken : (ds : List Decl) (i : ℕ) (d : Decl) → i < length ds → d ≡ get_or ds i d → comparisons (seen_decls (take (i + 1) ds)) ≡ comparisons (seen_decls (take i ds)) ++ comps_of (seen_decl d)
comps_taken ds i d h e = ap comparisons (step_take ds i d h e) ∙ flat_map-append comps_of (seen_decls (take i ds)) (seen_decl d ∷ []) ∙ ap (λ z. comparisons (seen_decls (take i ds)) ++ z) (append-nil (comps_of (seen_decl d)))

comps_dropped : (ds : List Decl) (i : ℕ) (d : Decl) → i < length ds → d ≡ get_or ds i d → list_all is_short (comparisons (seen_decls (drop i ds))) ≡ (list_all is_short (comps_of (seen_decl d)) && list_all is_short (comparisons (seen_decls (drop (i + 1) ds))))
comps_dropped ds i d h e = ap (λ z. list_all is_short (comparisons (seen_decls z))) (drop_step ds i d h e) ∙ list_all-append is_short (comps_of (seen_decl d)) (comparisons (seen_decls (drop (i + 1) ds)))

pub short_rest : (ds : List Decl) (i : ℕ) (d : Decl) → i < length ds → d ≡ get_or ds i d → list_all is_short (comparisons (seen_decls (drop i ds))) ≡ true → list_all is_short (comparisons (seen_decls (drop (i + 1) ds))) ≡ true
short_rest ds i d h e inv = (and_parts (list_all is_short (comps_of (seen_decl d))) (list_all is_short (comparisons (seen_decls (drop (i + 1) ds)))) (sym (comps_dropped ds i d h e) ∙ inv)).1

-- the linear terms of the utility, one by one
pub utils_step : (symbols : List Name) (sum new : Sum) (ts : List UtilTerm) (i : ℕ) (t : UtilTerm) (sizes : List ℕ) (whole : ℤ) → i < length ts → t ≡ get_or ts i t
    → sum_worth new sizes ≡ sum_worth sum sizes +ℤ linear_value symbols sizes t → sum_worth sum sizes +ℤ linears_value symbols sizes (drop i ts) ≡ whole → sum_worth new sizes +ℤ linears_value symbols sizes (drop (i + 1) ts) ≡ whole
utils_step symbols sum new ts i t sizes whole h e grown inv =
    let parts : linears_value symbols sizes (drop i ts) ≡ linear_value symbols sizes t +ℤ linears_value symbols sizes (drop (i + 1) ts) = ap (linears_value symbols sizes) (drop_step ts i t h e) in
    omega (arith, ints, parts, grown, inv)

-- the rows of a whole program
pub rows_given : (given taken : List Decl) (names : List Name) (rows : List Linear) → given ≡ taken → names ≡ symbols_of (seen_decls given) → AddsComps names [] rows (comparisons (seen_decls given)) → rows ≡ rows_of (seen_decls taken)
rows_given given taken names rows e n adds = adds.added ∙ ap (λ z. flat_map (rows_of_comp z) (comparisons (seen_decls given))) n ∙ ap (λ z. rows_of (seen_decls z)) e
