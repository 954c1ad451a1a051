-- The units of a typed program name what is declared so, and loops are over symbols.
use Rattle.std.proofs.Common.{◌≡◌, ℕ, ◌+◌, ◌<◌, ◌==◌, Bool, true, false, not, ◌&&◌, ◌||◌, List, [], ◌∷◌, ◌++◌, map, filter, length, Option, Some, None, is_some, refl, sym, ap, ap₂, ◌∙◌, true≢false, arith}
use Rattle.std.specs.Prelude.{if◌then◌else◌, option_map, All}
use Rattle.std.specs.List.{list_any, position_or_len}
use Rattle.std.proofs.lemmas.Bool.{or_left, or_right}
use Rattle.std.proofs.lemmas.Bool.Decides.{nat_tests}
use Rattle.std.proofs.lemmas.List.Folds.{list_any-append}
use Rattle.elastic_ast.specs.declared.flat.Lit.{Lit}
use Rattle.elastic_ast.specs.declared.flat.Location.{Location}
use Rattle.elastic_ast.specs.declared.flat.Location.TheVariants as location
use Rattle.elastic_ast.specs.Tree.{Name, PlainDecl}
use Rattle.elastic_ast.specs.Typing.Scope.{same, among}
use Rattle.elastic_ast.specs.Typing.Typed.{Typed}
use Rattle.elastic_ast.specs.Sizes.SizeSums.{symbols_of}
use Rattle.elastic_ast.specs.Units.PlainUnits.{PlainUnit, PlainWork, Plain, Call, Apply, Pred}
use Rattle.elastic_ast.specs.Units.Cuts.{Piece, Cuts, Nil, One, Loop}
use Rattle.elastic_ast.specs.Units.Costs.{place_of_symbol}
use Rattle.elastic_ast.specs.Units.Reach.{exprs_read, work_reads, work_assigns, lits_read, same_location, each_once}
use Rattle.elastic_ast.specs.Units.UnitsOf.{Around, unit_of, inner_pieces, flat, units_of, cuts_of}
use Rattle.elastic_laws.proofs.Typing.TypedSymbols.{symbol_among}
use Rattle.elastic_laws.proofs.Units.EachUnit.{AllBy, all_by, all_more, all_both}
use Rattle.unit_flow.specs.OwnLocations.{array_size, register_array_size, IsOfSize, keeps, keeps_beside, IsOfUnit, OwnLocations}
use Rattle.unit_flow.specs.SoundUnits.{IsLoopSize}
use Rattle.unit_flow.proofs.StandLaws.{FitsBy, Fits}
use Rattle.unit_flow.proofs.PieceLaws.{AssignsFit, PieceFits, CutsFit, pieces_fit}
use Rattle.unit_flow.proofs.KeptLaws.{keep, IsKept, LitsKept, OuterKept, pieces_kept}

filtered : {A : Type 0} (P : A → Type 0) (test : A → Bool) (xs : List A) → AllBy P xs → AllBy P (filter test xs)
filtered P test [] h = tt
filtered P test (x ∷ xs) h = by (test x) (filtered P test xs h.1)
  where
    by : (b : Bool) → AllBy P (filter test xs) → AllBy P (if b then x ∷ filter test xs else filter test xs)
    by true rest = (h.0, rest)
    by false rest = rest

once : (P : Location → Type 0) (xs : List Location) → AllBy P xs → AllBy P (each_once xs)
once P [] h = tt
once P (x ∷ xs) h = (h.0, filtered P (λ other. not (same_location x other)) (each_once xs) (once P xs h.1))

itself : (number : ℕ) → (number == number) ≡ true
itself number = grind (arith, nat_tests)

-- the place of a symbol
pub placed_below : (name : Name) (symbols : List Name) → among symbols name ≡ true → position_or_len (same name) symbols < length symbols
placed_below name [] h = absurd (true≢false (sym h))
placed_below name (symbol ∷ symbols) h = by (same name symbol) h (placed_below name symbols)
  where
    by : (b : Bool) → (b || among symbols name) ≡ true → (among symbols name ≡ true → position_or_len (same name) symbols < length symbols)
        → (if not b then 1 + position_or_len (same name) symbols else 0) < length (symbol ∷ symbols)
    by true k ih = omega arith
    by false k ih = let rest = ih k in omega (arith, rest)

module _ (decls : List PlainDecl) (units : List PlainUnit) where
  -- what fits the loop around a piece is of its unit
  module _ (loop : Option Name) (unit : PlainUnit) (size : unit.size ≡ option_map (place_of_symbol decls) loop) where
    of_size : (own : Bool) (declared : Option Name) → FitsBy own loop declared → IsOfSize decls unit own declared
    of_size true (Some name) h = size ∙ ap (option_map (place_of_symbol decls)) h
    of_size true None h = h
    of_size false (Some name) h = h
    of_size false None h = tt

    of_unit : (at : Location) → Fits decls loop at → IsOfUnit decls units unit at
    of_unit (location.Meta name own) h = of_size own (array_size decls name) h
    of_unit (location.Reg name own) h = of_size own (register_array_size decls name) h
    of_unit (location.Pred number own) h = absurd h
    of_unit other h = tt

    all_of_unit : (locations : List Location) → AllBy (Fits decls loop) locations → AllBy (IsOfUnit decls units unit) locations
    all_of_unit locations h = all_more (Fits decls loop) (IsOfUnit decls units unit) of_unit locations h

  -- a predicate that is own is kept beside the unit
  abbrev KeptBeside : PlainUnit → ℕ → Bool → Type 0
  KeptBeside unit number own = own ≡ true → list_any (keeps_beside unit number) units ≡ true

  pred_of_unit : (unit : PlainUnit) (number : ℕ) (own : Bool) → KeptBeside unit number own → IsOfUnit decls units unit (location.Pred number own)
  pred_of_unit unit number true h = h refl
  pred_of_unit unit number false h = tt

  lits_of_unit : (unit : PlainUnit) (lits : List Lit) → AllBy (λ (lit : Lit). KeptBeside unit lit.number lit.own) lits → AllBy (IsOfUnit decls units unit) (lits_read lits)
  lits_of_unit unit [] h = tt
  lits_of_unit unit (lit ∷ lits) h = (pred_of_unit unit lit.number lit.own h.0, lits_of_unit unit lits h.1)

  -- each location that a unit may read or write is of it
  abbrev AreOf : PlainUnit → Type 0
  AreOf unit = AllBy (IsOfUnit decls units unit) unit.reads × AllBy (IsOfUnit decls units unit) unit.writes

  abbrev loop_of : Option Around → Option Name
  loop_of around = option_map (λ (around : Around). around.size) around

  size_is : (around : Option Around) (piece : Piece) → (unit_of decls around piece).size ≡ option_map (place_of_symbol decls) (loop_of around)
  size_is None piece = refl
  size_is (Some around) piece = refl

  assigned : (around : Option Around) (piece : Piece) (work : PlainWork) → AssignsFit decls (loop_of around) work → ((number : ℕ) → keeps number work ≡ true → KeptBeside (unit_of decls around piece) number (is_some around))
      → AllBy (IsOfUnit decls units (unit_of decls around piece)) (work_assigns decls (is_some around) work)
  assigned around piece (Plain statement) h k = all_of_unit (loop_of around) (unit_of decls around piece) (size_is around piece) _ h
  assigned around piece (Call statement) h k = all_of_unit (loop_of around) (unit_of decls around piece) (size_is around piece) _ h
  assigned around piece (Apply table) h k = all_of_unit (loop_of around) (unit_of decls around piece) (size_is around piece) _ h
  assigned around piece (Pred number condition) h k = (pred_of_unit (unit_of decls around piece) number (is_some around) (k number (itself number)), tt)

  unit_is : (around : Option Around) (piece : Piece) → PieceFits decls (loop_of around) piece → AllBy (λ (lit : Lit). KeptBeside (unit_of decls around piece) lit.number lit.own) piece.lits
      → ((number : ℕ) → keeps number piece.work ≡ true → KeptBeside (unit_of decls around piece) number (is_some around)) → AreOf (unit_of decls around piece)
  unit_is around piece h lits k =
      let unit = unit_of decls around piece in
      let Is : Location → Type 0 = IsOfUnit decls units unit in
      let conds = all_of_unit (loop_of around) unit (size_is around piece) (exprs_read piece.conds) h.conds in
      let works = all_of_unit (loop_of around) unit (size_is around piece) (work_reads decls piece.work) h.reads in (
        once Is (lits_read piece.lits ++ (exprs_read piece.conds ++ work_reads decls piece.work))
            (all_both Is (lits_read piece.lits) (exprs_read piece.conds ++ work_reads decls piece.work) (lits_of_unit unit piece.lits lits) (all_both Is (exprs_read piece.conds) (work_reads decls piece.work) conds works)),
        once Is (work_assigns decls (is_some around) piece.work) (assigned around piece piece.work h.assigns k),
      )

  -- the units of a loop
  module _ (around : Around) where
    abbrev unit_in : Piece → PlainUnit
    unit_in piece = unit_of decls (Some around) piece

    beside : (piece : Piece) (number : ℕ) (pieces : List Piece) → list_any (keeps_beside (unit_in piece) number) (map unit_in pieces) ≡ keep pieces number
    beside piece number [] = refl
    beside piece number (first ∷ pieces) =
        ap₂ (λ a b. a || b)
        (ap₂ (λ a b. a && (b && keeps number first.work)) (itself around.number) (itself (place_of_symbol decls around.size)))
        (beside piece number pieces)

    module _ (pieces : List Piece) (stand : (test : PlainUnit → Bool) → list_any test (map unit_in pieces) ≡ true → list_any test units ≡ true) where
      kept_beside : (piece : Piece) (number : ℕ) → keep pieces number ≡ true → list_any (keeps_beside (unit_in piece) number) units ≡ true
      kept_beside piece number h = stand (keeps_beside (unit_in piece) number) (beside piece number pieces ∙ h)

      inner_units : (xs : List Piece) → ((number : ℕ) → keep xs number ≡ true → keep pieces number ≡ true) → AllBy (PieceFits decls (Some around.size)) xs → AllBy (LitsKept pieces) xs → AllBy AreOf (map unit_in xs)
      inner_units [] within h g = tt
      inner_units (piece ∷ xs) within h g = (
        unit_is (Some around) piece h.0
            (all_more (IsKept pieces) (λ (lit : Lit). KeptBeside (unit_in piece) lit.number lit.own) (λ lit is own. kept_beside piece lit.number (is own)) piece.lits g.0)
            (λ number k own. kept_beside piece number (within number (or_left (keeps number piece.work) (keep xs number) k))),
        inner_units xs (λ number k. within number (or_right (keeps number piece.work) (keep xs number) k)) h.1 g.1,
      )

  inner_fit : (size : Name) (cuts : Cuts) → CutsFit decls (Some size) cuts → AllBy (PieceFits decls (Some size)) (inner_pieces cuts)
  inner_fit size Nil h = tt
  inner_fit size (One piece rest) h = (h.0, inner_fit size rest h.1)
  inner_fit size (Loop index other inner rest) h = absurd h

  flat_units : (cuts : Cuts) (k : ℕ) → CutsFit decls None cuts → OuterKept cuts → ((test : PlainUnit → Bool) → list_any test (flat decls cuts k) ≡ true → list_any test units ≡ true) → AllBy AreOf (flat decls cuts k)
  flat_units Nil k h g stand = tt
  flat_units (One piece rest) k h g stand = (
    unit_is None piece h.0
        (all_more (IsKept []) (λ (lit : Lit). KeptBeside (unit_of decls None piece) lit.number lit.own) (λ lit is own. absurd (true≢false (sym (is own)))) piece.lits g.0)
        (λ number e own. absurd (true≢false (sym own))),
    flat_units rest k h.1 g.1 (λ test e. stand test (or_right (test (unit_of decls None piece)) (list_any test (flat decls rest k)) e)),
  )
  flat_units (Loop index size inner rest) k h g stand =
      let around : Around = record { number = k; index = index; size = size } in
      let own : List PlainUnit = map (unit_of decls (Some around)) (inner_pieces inner) in
      let others : List PlainUnit = flat decls rest (k + 1) in
      all_both AreOf own others
      (inner_units around (inner_pieces inner) (λ test e. stand test (list_any-append test own others ∙ or_left (list_any test own) (list_any test others) e)) (inner_pieces inner) (λ number e. e) (inner_fit size inner h.1) g.0)
      (flat_units rest (k + 1) h.2 g.1 (λ test e. stand test (list_any-append test own others ∙ or_right (list_any test own) (list_any test others) e)))

pub own_locations : (allow : Bool) (decls : List PlainDecl) → Typed allow decls → OwnLocations decls (units_of decls)
own_locations allow decls typed =
    let all : AllBy (AreOf decls (units_of decls)) (units_of decls) = flat_units decls (units_of decls) (cuts_of decls) 0 (pieces_fit allow decls typed) (pieces_kept decls) (λ test e. e) in
    record {
      reads =
          all_by (λ (unit : PlainUnit). All (IsOfUnit decls (units_of decls) unit) unit.reads) (units_of decls)
          (all_more (AreOf decls (units_of decls)) (λ (unit : PlainUnit). All (IsOfUnit decls (units_of decls) unit) unit.reads) (λ unit h. all_by (IsOfUnit decls (units_of decls) unit) unit.reads h.0) (units_of decls) all);
      writes =
          all_by (λ (unit : PlainUnit). All (IsOfUnit decls (units_of decls) unit) unit.writes) (units_of decls)
          (all_more (AreOf decls (units_of decls)) (λ (unit : PlainUnit). All (IsOfUnit decls (units_of decls) unit) unit.writes) (λ unit h. all_by (IsOfUnit decls (units_of decls) unit) unit.writes h.1) (units_of decls) all);
    }

-- loops are over symbols
module _ (decls : List PlainDecl) where
  abbrev pub IsOverSymbol : PlainUnit → Type 0
  IsOverSymbol unit = IsLoopSize (length (symbols_of decls)) unit.size

  flat_sizes : (cuts : Cuts) (k : ℕ) → CutsFit decls None cuts → AllBy IsOverSymbol (flat decls cuts k)
  flat_sizes Nil k h = tt
  flat_sizes (One piece rest) k h = (tt, flat_sizes rest k h.1)
  flat_sizes (Loop index size inner rest) k h =
      let around : Around = record { number = k; index = index; size = size } in
      all_both IsOverSymbol (map (unit_of decls (Some around)) (inner_pieces inner)) (flat decls rest (k + 1)) (each (inner_pieces inner)) (flat_sizes rest (k + 1) h.2)
    where
      below : place_of_symbol decls size < length (symbols_of decls)
      below = placed_below size (symbols_of decls) (sym (symbol_among decls size) ∙ h.0)

      each : (pieces : List Piece) → AllBy IsOverSymbol (map (unit_of decls (Some (record { number = k; index = index; size = size }))) pieces)
      each [] = tt
      each (piece ∷ pieces) = (below, each pieces)

pub sizes_are : (allow : Bool) (decls : List PlainDecl) → Typed allow decls → All (IsOverSymbol decls) (units_of decls)
sizes_are allow decls typed = all_by (IsOverSymbol decls) (units_of decls) (flat_sizes decls (cuts_of decls) 0 (pieces_fit allow decls typed))
