-- Names that stand for sizes in a typed program are symbols of it: sizes of arrays and registers, numbers of cells, loops.
use Rattle.std.proofs.Common.{◌≡◌, ℕ, Bool, true, false, ◌||◌, List, [], ◌∷◌, ◌++◌, map, take, drop, Option, Some, None, refl, sym, ap, subst, ◌∙◌, arith}
use Rattle.std.specs.Prelude.{if◌then◌else◌, flat_map, slice_get, Contains, is_some, is_none, unwrap_or}
use Rattle.elastic_ast.specs.declared.statements.Amount.{Amount}
use Rattle.elastic_ast.specs.declared.statements.Amount.TheVariants as amount
use Rattle.elastic_ast.specs.declared.declarations.Field.{Field}
use Rattle.elastic_ast.specs.Tree.{Name, PlainDecl, PlainStmts, PlainLocal}
use Rattle.elastic_ast.specs.Typing.Scope.{same, among, or_else, found, symbol_of, is_symbol, Scope}
use Rattle.elastic_ast.specs.Typing.LookUps.{meta_in, meta_fields}
use Rattle.elastic_ast.specs.Sizes.SizeSums.{symbols_of}
use Rattle.elastic_ast.specs.Typing.Demand.{Known, Wide, Alone, first_broken}
use Rattle.elastic_ast.specs.Typing.AskedOfNames.{asks_names, asks_symbol, asks_amount}
use Rattle.elastic_ast.specs.Typing.AskedInStatements.{asks_loop, in_loop, asks_stmts}
use Rattle.elastic_ast.specs.Typing.Asked.{field_name, asks_field}
use Rattle.elastic_ast.specs.Typing.Typed.{Typed}
use Rattle.elastic_laws.proofs.Typing.TypedFacts.{parts, head_met, typed_own, FoundAt, found_at}
use Rattle.elastic_laws.proofs.Typing.TypedTables.{item_met}
use Rattle.elastic_laws.proofs.Typing.TypedHeaders.{take_drop, meta_given}
use Rattle.elastic_laws.proofs.Typing.TypedStays.{found_stays}

-- a symbol is one of the symbols of the program
pub symbol_among : (ds : List PlainDecl) (name : Name) → is_symbol ds name ≡ among (symbols_of ds) name
symbol_among [] name = refl
symbol_among (PlainDecl.Symbol symbol ∷ ds) name = by (same name symbol) (symbol_among ds name)
  where
    by : (b : Bool) → is_symbol ds name ≡ among (symbols_of ds) name → is_some (or_else (if b then Some symbol else None) (found (symbol_of name) ds)) ≡ (b || among (symbols_of ds) name)
    by true h = refl
    by false h = h
symbol_among (other ∷ ds) name = symbol_among ds name

-- what is a symbol among the first declarations is one of the program
pub symbol_of_all : (n : ℕ) (ds : List PlainDecl) (name : Name) → is_symbol (take n ds) name ≡ true → is_symbol ds name ≡ true
symbol_of_all n ds name h = ap (λ z. is_symbol z name) (sym (take_drop n ds)) ∙ ap is_some (found_stays (symbol_of name) (take n ds) (drop n ds) h) ∙ h

-- the size of an array of the metadata
pub size_is_symbol : (allow : Bool) (ds : List PlainDecl) → Typed allow ds → (field : Field) → Contains (meta_fields ds) field → (size : Name) → field.size ≡ Some size → is_symbol ds size ≡ true
size_is_symbol allow ds t field c size e = by (found meta_in ds) refl c
  where
    asked_of : (before : List PlainDecl) → first_broken allow (asks_symbol before field.size) ≡ None → is_symbol before size ≡ true
    asked_of before h = (head_met allow (Known (is_symbol before size)) [] (subst (λ z. first_broken allow (asks_symbol before z) ≡ None) e h)).0

    by : (o : Option (List Field)) → found meta_in ds ≡ o → Contains (unwrap_or o []) field → is_symbol ds size ≡ true
    by None f k = absurd (omega arith)
    by (Some fields) f k =
        let at : FoundAt meta_in ds fields = found_at meta_in ds fields f in
        let own = typed_own allow ds t at.number (PlainDecl.Meta fields) (at.here ∙ ap Some (meta_given at.at fields at.gives_it)) in
        let p = (parts allow (asks_names [] (map field_name fields)) (flat_map (asks_field (take at.number ds)) fields) own).1 in
        let q = (head_met allow (Wide field.width) (asks_symbol (take at.number ds) field.size) (item_met allow (asks_field (take at.number ds)) fields p field k)).1 in
        symbol_of_all at.number ds size (asked_of (take at.number ds) q)

-- the size of an array of registers, and a number of cells that is named
pub register_size_is_symbol : (allow : Bool) (ds : List PlainDecl) → Typed allow ds → (d : ℕ) (name : Name) (width : ℕ) (cells : Amount) (size : Name) → slice_get ds d ≡ Some (PlainDecl.Register name width cells (Some size)) → is_symbol ds size ≡ true
register_size_is_symbol allow ds t d name width cells size e =
    let before = take d ds in
    let own = typed_own allow ds t d (PlainDecl.Register name width cells (Some size)) e in
    let p = (head_met allow (Wide width) (asks_amount before cells ++ asks_symbol before (Some size)) own).1 in
    symbol_of_all d ds size (head_met allow (Known (is_symbol before size)) [] (parts allow (asks_amount before cells) (asks_symbol before (Some size)) p).1).0

pub cells_are_symbol : (allow : Bool) (ds : List PlainDecl) → Typed allow ds → (d : ℕ) (name : Name) (width : ℕ) (cells : Name) (size : Option Name) → slice_get ds d ≡ Some (PlainDecl.Register name width (amount.Named cells) size) → is_symbol ds cells ≡ true
cells_are_symbol allow ds t d name width cells size e =
    let before = take d ds in
    let own = typed_own allow ds t d (PlainDecl.Register name width (amount.Named cells) size) e in
    let p = (head_met allow (Wide width) (asks_amount before (amount.Named cells) ++ asks_symbol before size) own).1 in
    symbol_of_all d ds cells (head_met allow (Known (is_symbol before cells)) [] (parts allow (asks_amount before (amount.Named cells)) (asks_symbol before size) p).0).0

-- the size of a loop, in the scope where the loop stands
pub loop_is_over_symbol : (allow : Bool) (s : Scope) (locals : List PlainLocal) (index size : Name) (body : PlainStmts) → first_broken allow (asks_loop s index size ++ asks_stmts (in_loop s index size) locals body) ≡ None → is_symbol s.before size ≡ true
loop_is_over_symbol allow s locals index size body h =
    let p = (parts allow (asks_loop s index size) (asks_stmts (in_loop s index size) locals body) h).0 in
    (head_met allow (Known (is_symbol s.before size)) (asks_names [] (index ∷ [])) (head_met allow (Alone (is_none s.index)) (Known (is_symbol s.before size) ∷ asks_names [] (index ∷ [])) p).1).0
