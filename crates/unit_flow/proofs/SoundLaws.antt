-- What later steps need of the units of a program and its terms.
use Rattle.std.proofs.Common.{◌≡◌, ℕ, zero, suc, ◌+◌, ◌<◌, ◌≤◌, ◌==◌, nat_eq, nat_lt, Bool, true, false, ◌&&◌, cond, List, [], ◌∷◌, map, flat_map, filter, length, take, Option, Some, None, refl, sym, ap, subst, ◌∙◌, true≢false, arith}
use Rattle.std.specs.Prelude.{option_map, unwrap_or, slice_get, All}
use Rattle.std.specs.List.{list_any, position_or_len, range_with_len}
use lib.Dec.{ltb}
use Rattle.std.proofs.lemmas.Bool.{and_parts, or_left, or_right}
use Rattle.std.proofs.lemmas.Bool.Decides.{nat_tests}
use Rattle.std.proofs.lemmas.List.{length-map}
use Rattle.std.proofs.lemmas.List.Folds.{list_any-append}
use Rattle.std.proofs.lemmas.Iterator.Adapters.{position_from-zero}
use Rattle.elastic_ast.specs.declared.declarations.UtilTerm.{UtilTerm}
use Rattle.elastic_ast.specs.declared.declarations.UtilTerm.TheVariants as util
use Rattle.elastic_ast.specs.declared.statements.Amount.{Amount}
use Rattle.elastic_ast.specs.declared.statements.Amount.TheVariants as amount
use Rattle.elastic_ast.specs.declared.flat.Cells.{Cells}
use Rattle.elastic_ast.specs.declared.flat.Steps.{Steps}
use Rattle.elastic_ast.specs.Tree.{Name, PlainDecl}
use Rattle.elastic_ast.specs.Typing.Scope.{same, among, found, is_symbol}
use Rattle.elastic_ast.specs.Typing.Demand.{Known, Few, Rising, from_zero, rises, first_broken}
use Rattle.elastic_ast.specs.Typing.Asked.{asks_pair, pair_key, asks_util}
use Rattle.elastic_ast.specs.Typing.Typed.{Typed}
use Rattle.elastic_ast.specs.Sizes.Counted.{counted_in_decl, counted_symbols}
use Rattle.elastic_ast.specs.Sizes.SizeSums.{symbols_of, utility_of}
use Rattle.elastic_ast.specs.Units.PlainUnits.{PlainUnit, PlainUnits}
use Rattle.elastic_ast.specs.Units.Cuts.{Piece}
use Rattle.elastic_ast.specs.Units.Costs.{register_of, place_of_symbol, cells_counted, kept_in, kept_by}
use Rattle.elastic_ast.specs.Units.UnitsOf.{Around, unit_of, units_of, bits_of_symbol, UnitsOf}
use Rattle.elastic_laws.proofs.Typing.TypedFacts.{parts, head_met, typed_own, if_some, FoundAt, found_at}
use Rattle.elastic_laws.proofs.Typing.TypedSymbols.{symbol_among, cells_are_symbol}
use Rattle.elastic_laws.proofs.Units.EachUnit.{AllBy, all_by, each_unit}
use Rattle.width_check.specs.Sound.{IsSound}
use Rattle.size_terms.specs.Ones.{is_at, is_counted, ones_of}
use Rattle.size_terms.specs.Places.{place_of}
use Rattle.size_terms.specs.Tables.{tables_in, tables_of}
use Rattle.size_terms.proofs.BuildLaws.{sound_symbols}
use Rattle.unit_flow.specs.SoundUnits.{RiseAbove, IsStepTable, IsLoopSize, IsCellCount, SoundUnits}
use Rattle.unit_flow.specs.TermsOf.{AreTermsOf}
use Rattle.unit_flow.proofs.OwnLaws.{placed_below, sizes_are}

-- the keys of step tables rise from 0
above : (key : ℕ) (pairs : List (ℕ × ℕ)) → rises (key ∷ map pair_key pairs) ≡ true → RiseAbove key pairs
above key [] h = tt
above key (pair ∷ pairs) h =
    let p = and_parts (nat_lt key pair.0) (rises (pair.0 ∷ map pair_key pairs)) h in (less p.0, above pair.0 pairs p.1)
  where
    less : nat_lt key pair.0 ≡ true → key < pair.0
    less e = grind (arith, nat_tests)

from_first : (pair : ℕ × ℕ) (pairs : List (ℕ × ℕ)) → (from_zero (map pair_key (pair ∷ pairs)) && rises (map pair_key (pair ∷ pairs))) ≡ true → IsStepTable (pair ∷ pairs)
from_first pair pairs h =
    let p = and_parts (pair.0 == 0) (rises (pair.0 ∷ map pair_key pairs)) h in
    let first : pair.0 ≡ 0 = zero_is p.0 in
    (first, subst (λ key. RiseAbove key pairs) first (above pair.0 pairs p.1))
  where
    zero_is : (pair.0 == 0) ≡ true → pair.0 ≡ 0
    zero_is e = grind (arith, nat_tests)

abbrev IsGoodTable : Steps → Type 0
IsGoodTable table = IsStepTable table.pairs

tables_good : (allow : Bool) (symbols : List Name) (before : List PlainDecl) (terms : List UtilTerm) → first_broken allow (flat_map (asks_util before) terms) ≡ None → All IsGoodTable (tables_in symbols terms)
tables_good allow symbols before terms h = all_by IsGoodTable (tables_in symbols terms) (each terms h)
  where
    each : (terms : List UtilTerm) → first_broken allow (flat_map (asks_util before) terms) ≡ None → AllBy IsGoodTable (tables_in symbols terms)
    each [] h = tt
    each (util.Lin term ∷ terms) h = each terms (parts allow (asks_util before (util.Lin term)) (flat_map (asks_util before) terms) h).1
    each (util.Steps minus symbol [] ∷ terms) h = each terms (parts allow (asks_util before (util.Steps minus symbol [])) (flat_map (asks_util before) terms) h).1
    each (util.Steps minus symbol (pair ∷ pairs) ∷ terms) h =
        let all = pair ∷ pairs in
        let p = parts allow (asks_util before (util.Steps minus symbol all)) (flat_map (asks_util before) terms) h in
        let known = head_met allow (Known (is_symbol before symbol)) (Few (length all) ∷ Rising (map pair_key all) ∷ flat_map asks_pair all) p.0 in
        let few = head_met allow (Few (length all)) (Rising (map pair_key all) ∷ flat_map asks_pair all) known.1 in
        (from_first pair pairs (head_met allow (Rising (map pair_key all)) (flat_map asks_pair all) few.1).0, each terms p.1)

utility_is : (x : PlainDecl) (terms : List UtilTerm) → utility_of x ≡ Some terms → x ≡ PlainDecl.Maximize terms
utility_is (PlainDecl.Maximize other) terms h = let e : other ≡ terms = cc in ap PlainDecl.Maximize e
utility_is other terms h = cc

tables_are : (allow : Bool) (decls : List PlainDecl) → Typed allow decls → All IsGoodTable (tables_of decls)
tables_are allow decls typed = by (found utility_of decls) refl
  where
    by : (o : Option (List UtilTerm)) → found utility_of decls ≡ o → All IsGoodTable (tables_in (symbols_of decls) (unwrap_or o []))
    by None e = all_by IsGoodTable [] tt
    by (Some terms) e =
        let f : FoundAt utility_of decls terms = found_at utility_of decls terms e in
        let own = typed_own allow decls typed f.number (PlainDecl.Maximize terms) (f.here ∙ ap Some (utility_is f.at terms f.gives_it)) in
        tables_good allow (symbols_of decls) (take f.number decls) terms (head_met allow (Few (length terms)) (flat_map (asks_util (take f.number decls)) terms) own).1

-- what a filter lets through of a range is among what it leaves
let_through : (test : ℕ → Bool) (place k n : ℕ) → k ≤ place → place < k + n → test place ≡ true → list_any (nat_eq place) (filter test (range_with_len k n)) ≡ true
let_through test place k zero low high h = absurd (omega (arith, low, high))
let_through test place k (suc n) low high h = by (test k) refl (nat_eq place k) refl (λ later. let_through test place (k + 1) n later (omega (arith, high)) h)
  where
    by : (b : Bool) → test k ≡ b → (c : Bool) → nat_eq place k ≡ c → (k + 1 ≤ place → list_any (nat_eq place) (filter test (range_with_len (k + 1) n)) ≡ true)
        → list_any (nat_eq place) (cond b (k ∷ filter test (range_with_len (k + 1) n)) (filter test (range_with_len (k + 1) n))) ≡ true
    by true e true f ih = or_left (nat_eq place k) (list_any (nat_eq place) (filter test (range_with_len (k + 1) n))) f
    by true e false f ih = or_right (nat_eq place k) (list_any (nat_eq place) (filter test (range_with_len (k + 1) n))) (ih (later f))
      where
        later : nat_eq place k ≡ false → k + 1 ≤ place
        later g = let ne : place ≡ k → ⊥ = (λ s. true≢false (sym (same_number k) ∙ ap (λ z. nat_eq z k) (sym s) ∙ g)) in omega (arith, low, ne)
          where
            same_number : (m : ℕ) → nat_eq m m ≡ true
            same_number m = grind (arith, nat_tests)
    by false e true f ih = absurd (true≢false (sym h ∙ ap test (equal f) ∙ e))
      where
        equal : nat_eq place k ≡ true → place ≡ k
        equal g = grind (arith, nat_tests)
    by false e false f ih = ih (later f)
      where
        later : nat_eq place k ≡ false → k + 1 ≤ place
        later g = let ne : place ≡ k → ⊥ = (λ s. true≢false (sym (same_number k) ∙ ap (λ z. nat_eq z k) (sym s) ∙ g)) in omega (arith, low, ne)
          where
            same_number : (m : ℕ) → nat_eq m m ≡ true
            same_number m = grind (arith, nat_tests)

-- a test that the cells of a register pass is passed by one of what counts
counted_here : (test : Name → Bool) (decls : List PlainDecl) (d : ℕ) (name : Name) (width : ℕ) (symbol : Name) (size : Option Name) → slice_get decls d ≡ Some (PlainDecl.Register name width (amount.Named symbol) size) → test symbol ≡ true → list_any test (counted_symbols decls) ≡ true
counted_here test [] d name width symbol size e h = cc
counted_here test (x ∷ decls) zero name width symbol size e h =
    let s : x ≡ PlainDecl.Register name width (amount.Named symbol) size = cc in
    list_any-append test (counted_in_decl x) (counted_symbols decls)
    ∙ or_left (list_any test (counted_in_decl x)) (list_any test (counted_symbols decls)) (ap (λ z. list_any test (counted_in_decl z)) s ∙ or_left (test symbol) false h)
counted_here test (x ∷ decls) (suc d) name width symbol size e h =
    list_any-append test (counted_in_decl x) (counted_symbols decls)
    ∙ or_right (list_any test (counted_in_decl x)) (list_any test (counted_symbols decls)) (counted_here test decls d name width symbol size e h)

-- the first place of a symbol
placed_at : (name : Name) (symbols : List Name) → position_or_len (same name) symbols < length symbols → is_at (position_or_len (same name) symbols) (place_of symbols name) ≡ true
placed_at name symbols h = ap (is_at (position_or_len (same name) symbols)) (sym (position_from-zero (same name) symbols)) ∙ told (position_or_len (same name) symbols) (length symbols) h
  where
    told : (p n : ℕ) → p < n → is_at p (cond (ltb p n) (Some p) None) ≡ true
    told p n h = by (ltb p n) refl
      where
        by : (b : Bool) → ltb p n ≡ b → is_at p (cond b (Some p) None) ≡ true
        by true e = grind (arith, nat_tests)
        by false e = absurd (grind (arith, nat_tests))

register_is : (decls : List PlainDecl) (name : Name) (x : PlainDecl) (kept : Cells × ℕ) → kept_in decls name x ≡ Some kept → (register : Name) × (width : ℕ) × (count : Amount) × (size : Option Name) × (x ≡ PlainDecl.Register register width count size) × (kept.0 ≡ cells_counted decls count)
register_is decls name (PlainDecl.Register register width count size) kept h =
    (register, width, count, size, refl, sym (ap (λ (z : Cells × ℕ). z.0) (if_some (same name register) (cells_counted decls count, width) kept h)))
register_is decls name other kept h = cc

-- the cells of a unit's register
module _ (allow : Bool) (decls : List PlainDecl) (typed : Typed allow decls) where
  abbrev IsCount : Option Cells → Type 0
  IsCount count = IsCellCount (length (symbols_of decls)) (ones_of decls) count

  amount_counts : (d : ℕ) (name : Name) (width : ℕ) (count : Amount) (size : Option Name) → slice_get decls d ≡ Some (PlainDecl.Register name width count size) → IsCount (Some (cells_counted decls count))
  amount_counts d name width (amount.Num number) size e = tt
  amount_counts d name width (amount.Named symbol) size e =
      let symbols = symbols_of decls in
      let known : among symbols symbol ≡ true = sym (symbol_among decls symbol) ∙ cells_are_symbol allow decls typed d name width symbol size e in
      let below = placed_below symbol symbols known in
      let counts = counted_here (λ name. is_at (place_of_symbol decls symbol) (place_of symbols name)) decls d name width symbol size e (placed_at symbol symbols below) in
      (below, let_through (is_counted symbols (counted_symbols decls)) (place_of_symbol decls symbol) 0 (length symbols) (omega arith) (omega (arith, below)) counts)

  kept_counts : (register : Option Name) → IsCount (option_map (λ (kept : Cells × ℕ). kept.0) (kept_by decls register))
  kept_counts None = tt
  kept_counts (Some name) = by (found (kept_in decls name) decls) refl
    where
      by : (o : Option (Cells × ℕ)) → found (kept_in decls name) decls ≡ o → IsCount (option_map (λ (kept : Cells × ℕ). kept.0) o)
      by None e = tt
      by (Some kept) e =
          let f : FoundAt (kept_in decls name) decls kept = found_at (kept_in decls name) decls kept e in
          let g = register_is decls name f.at kept f.gives_it in
          subst (λ count. IsCount (Some count)) (sym g.5) (amount_counts f.number g.0 g.1 g.2 g.3 (f.here ∙ ap Some g.4))

  unit_counts : (around : Option Around) (piece : Piece) → IsCount (unit_of decls around piece).cells
  unit_counts around piece = kept_counts (found register_of (unit_of decls around piece).writes)

  pub counts_are : All (λ (unit : PlainUnit). IsCount unit.cells) (units_of decls)
  counts_are = all_by (λ (unit : PlainUnit). IsCount unit.cells) (units_of decls) (each_unit decls (λ (unit : PlainUnit). IsCount unit.cells) unit_counts)

-- units and terms of a program are sound
pub units_sound : (decls : List PlainDecl) (units : PlainUnits) → IsSound decls → AreTermsOf decls units.terms → UnitsOf decls units → SoundUnits units
units_sound decls units sound terms are = record {
  numbered = let few = sound_symbols decls sound in let same_length : length units.terms.symbols ≡ length (symbols_of decls) = ap length terms.symbols in omega (arith, few, same_length);
  short = terms.short;
  tables = subst (All IsGoodTable) (sym terms.tables) (tables_are true decls sound.typed);
  bits = ap length are.symbols ∙ length-map (symbols_of decls) (bits_of_symbol decls) ∙ ap length (sym terms.symbols);
  sizes =
      subst (λ n. All (λ (unit : PlainUnit). IsLoopSize n unit.size) units.list) (ap length (sym terms.symbols))
      (subst (All (λ (unit : PlainUnit). IsLoopSize (length (symbols_of decls)) unit.size)) (sym are.list) (sizes_are true decls sound.typed));
  counts =
      subst (λ n. All (λ (unit : PlainUnit). IsCellCount n units.terms.ones unit.cells) units.list) (ap length (sym terms.symbols))
      (subst (λ ones. All (λ (unit : PlainUnit). IsCellCount (length (symbols_of decls)) ones unit.cells) units.list) (sym terms.ones)
      (subst (All (λ (unit : PlainUnit). IsCellCount (length (symbols_of decls)) (ones_of decls) unit.cells)) (sym are.list) (counts_are true decls sound.typed)));
}
