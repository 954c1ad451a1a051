-- Marks of symbols, and the numbers of those that are set.
use Rattle.std.proofs.Common.{◌≡◌, ◌≢◌, ℕ, suc, ◌+◌, ◌<◌, Bool, true, false, cond, ◌||◌, List, [], ◌∷◌, ◌++◌, drop, length, get_or, Option, Some, None, refl, sym, ap, ◌∙◌, arith, get_or-set_other, get_or-set_same}
use Rattle.std.specs.Prelude.{nat_eq, replicate, if◌then◌else◌}
use Rattle.std.specs.List.{filter, range_with_len}
use Rattle.std.proofs.Math.Bool.{or_assoc}
use Rattle.std.proofs.Math.ListN.{set, length-set}
use Rattle.std.proofs.lemmas.List.{get_or-replicate, length-replicate}
use Rattle.std.proofs.lemmas.Bool.Decides.{nat_tests}
use Rattle.elastic_ast.specs.Tree.{Name, PlainDecl}
use Rattle.elastic_ast.specs.Sizes.Counted.{counted_symbols}
use Rattle.elastic_ast.specs.Sizes.SizeSums.{symbols_of}
use Rattle.program_names.proofs.Items.{drop_step}
use Rattle.size_terms.specs.Places.{place_of}
use Rattle.size_terms.specs.Ones.{is_at, is_counted, ones_of, marked_at, marked, set_from, set_marks}

-- the marks of names, and then of others
pub marked-append : (symbols : List Name) (marks : List Bool) (names others : List Name) → marked symbols marks (names ++ others) ≡ marked symbols (marked symbols marks names) others
marked-append symbols marks [] others = refl
marked-append symbols marks (name ∷ names) others = marked-append symbols (marked_at (place_of symbols name) marks) names others

marked_at-length : (place : Option ℕ) (marks : List Bool) → length (marked_at place marks) ≡ length marks
marked_at-length None marks = refl
marked_at-length (Some place) marks = length-set marks place true

pub marked-length : (symbols : List Name) (marks : List Bool) (names : List Name) → length (marked symbols marks names) ≡ length marks
marked-length symbols marks [] = refl
marked-length symbols marks (name ∷ names) = marked-length symbols (marked_at (place_of symbols name) marks) names ∙ marked_at-length (place_of symbols name) marks

pub ruleset marks = (marked-append, marked-length)

-- what the walk over some things keeps: the marks with those of the things to come are the same
pub record Marking (symbols : List Name) (marks : List Bool) (rest : List Name) (all : List Bool) : Type 0 where
  pub dense : length marks ≡ length symbols
  pub same : marked symbols marks rest ≡ all

-- one thing more, which has the names `here`
pub marks_on : {X : Type 0} (symbols : List Name) (names_of : List X → List Name) (here : List Name) (xs : List X) (i : ℕ) (x : X) (old new all : List Bool) → names_of (x ∷ drop (i + 1) xs) ≡ here ++ names_of (drop (i + 1) xs) → i < length xs → x ≡ get_or xs i x
    → new ≡ marked symbols old here → Marking symbols old (names_of (drop i xs)) all → Marking symbols new (names_of (drop (i + 1) xs)) all
marks_on symbols names_of here xs i x old new all parts h e now before = record {
  dense = ap length now ∙ marked-length symbols old here ∙ before.dense;
  same =
      ap (λ z. marked symbols z (names_of (drop (i + 1) xs))) now ∙ sym (marked-append symbols old here (names_of (drop (i + 1) xs)))
      ∙ ap (marked symbols old) (sym parts ∙ ap names_of (sym (drop_step xs i x h e))) ∙ before.same;
}

-- a mark, after that of one place is set
marked_here : (marks : List Bool) (at : Option ℕ) (place : ℕ) → place < length marks → get_or (marked_at at marks) place false ≡ (get_or marks place false || is_at place at)
marked_here marks None place h = or_false (get_or marks place false)
  where
    or_false : (b : Bool) → b ≡ (b || false)
    or_false true = refl
    or_false false = refl
marked_here marks (Some at) place h = by (nat_eq at place) refl
  where
    or_true : (b : Bool) → true ≡ (b || true)
    or_true true = refl
    or_true false = refl

    or_false : (b : Bool) → b ≡ (b || false)
    or_false true = refl
    or_false false = refl

    by : (b : Bool) → nat_eq at place ≡ b → get_or (set marks at true) place false ≡ (get_or marks place false || nat_eq at place)
    by true e =
        let same : at ≡ place = grind (arith, nat_tests) in
        ap (λ i. get_or (set marks i true) place false) same ∙ get_or-set_same marks place true false h ∙ or_true (get_or marks place false) ∙ ap (λ b. get_or marks place false || b) (sym e)
    by false e =
        let other : place ≢ at = grind (arith, nat_tests) in
        get_or-set_other marks at place true false other ∙ or_false (get_or marks place false) ∙ ap (λ b. get_or marks place false || b) (sym e)

-- a mark, after those of names are set
marked_there : (symbols : List Name) (marks : List Bool) (names : List Name) (place : ℕ) → place < length marks → get_or (marked symbols marks names) place false ≡ (get_or marks place false || is_counted symbols names place)
marked_there symbols marks [] place h = or_false (get_or marks place false)
  where
    or_false : (b : Bool) → b ≡ (b || false)
    or_false true = refl
    or_false false = refl
marked_there symbols marks (name ∷ names) place h =
    let at = place_of symbols name in
    let long = marked_at-length at marks in
    marked_there symbols (marked_at at marks) names place (omega (arith, h, long)) ∙ ap (λ b. b || is_counted symbols names place) (marked_here marks at place h)
    ∙ or_assoc (get_or marks place false) (is_at place at) (is_counted symbols names place)

-- the numbers of the marks, where each is what a test says of its number
set_is : (test : ℕ → Bool) (k : ℕ) (marks : List Bool) → ((place : ℕ) → place < length marks → get_or marks place false ≡ test (k + place)) → set_from k marks ≡ filter test (range_with_len k (length marks))
set_is test k [] each = refl
set_is test k (mark ∷ marks) each = by mark (test k) (each 0 (omega arith) ∙ ap test (omega arith)) (set_is test (k + 1) marks (λ place h. each (suc place) (omega (arith, h)) ∙ ap test (omega arith)))
  where
    by : (a b : Bool) → a ≡ b → set_from (k + 1) marks ≡ filter test (range_with_len (k + 1) (length marks))
        → (if a then k ∷ set_from (k + 1) marks else set_from (k + 1) marks) ≡ cond b (k ∷ filter test (range_with_len (k + 1) (length marks))) (filter test (range_with_len (k + 1) (length marks)))
    by true true e ih = ap (λ z. k ∷ z) ih
    by false false e ih = ih
    by true false e ih = cc
    by false true e ih = cc

-- the marks that a whole program sets, where none were set
pub ones_are : (symbols : List Name) (decls : List PlainDecl) (none marks : List Bool) → symbols ≡ symbols_of decls → none ≡ replicate (length symbols) false → marks ≡ marked symbols none (counted_symbols decls) → set_marks marks ≡ ones_of decls
ones_are symbols decls none marks given empty now =
    let long : length marks ≡ length symbols = ap length now ∙ marked-length symbols none (counted_symbols decls) ∙ ap length empty ∙ length-replicate (length symbols) false in
    set_is (is_counted symbols (counted_symbols decls)) 0 marks (each long) ∙ ap (λ n. filter (is_counted symbols (counted_symbols decls)) (range_with_len 0 n)) long
    ∙ ap (λ z. filter (is_counted z (counted_symbols decls)) (range_with_len 0 (length z))) given
  where
    each : length marks ≡ length symbols → (place : ℕ) → place < length marks → get_or marks place false ≡ is_counted symbols (counted_symbols decls) (0 + place)
    each long place h =
        let wide : length none ≡ length symbols = ap length empty ∙ length-replicate (length symbols) false in
        ap (λ z. get_or z place false) now ∙ marked_there symbols none (counted_symbols decls) place (omega (arith, h, long, wide))
        ∙ ap (λ b. b || is_counted symbols (counted_symbols decls) place) (ap (λ z. get_or z place false) empty ∙ get_or-replicate (length symbols) place false false (omega (arith, h, long)))
        ∙ ap (is_counted symbols (counted_symbols decls)) (omega arith)
