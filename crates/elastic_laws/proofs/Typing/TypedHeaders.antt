-- The headers, the metadata and the parser of a typed program: names differ, widths are widths, and what is extracted or
-- emitted is a header.
use Rattle.std.proofs.Common.{◌≡◌, ℕ, zero, suc, ◌≤◌, inr, Bool, true, List, [], ◌∷◌, ◌++◌, map, take, drop, Option, Some, None, refl, sym, ap, subst, ◌∙◌, arith}
use Rattle.std.specs.Prelude.{flat_map, slice_get, Contains, option_map, option_and_then, unwrap_or, find, nat_lt, ◌^◌, ◌%◌, ◌==◌}
use Rattle.elastic_ast.specs.declared.declarations.Field.{Field}
use Rattle.elastic_ast.specs.declared.rule.Rule.TheVariants.{ParserLoop}
use Rattle.elastic_ast.specs.Tree.{Name, PlainDecl, PlainState}
use Rattle.elastic_ast.specs.Typing.Scope.{same, found}
use Rattle.elastic_ast.specs.Typing.LookUps.{constant_in, declared_constant, members_in, members_of, member_name, is_member, header_type_in, fields_of_type, header_fields, bits_of_fields, meta_in, meta_fields, has_headers, register_in, register_width}
use Rattle.elastic_ast.specs.Typing.Types.{bits_of}
use Rattle.elastic_ast.specs.Packets.MainParts.{Main, main_in, parser_in, states_of, deparser_in, emits_of}
use Rattle.elastic_ast.specs.Typing.ParserLoops.{state_names, Loops}
use Rattle.elastic_ast.specs.Typing.Demand.{Known, Wide, Fits, Bytes, first_broken, fits_type}
use Rattle.elastic_ast.specs.Typing.AskedOfNames.{asks_names, asks_symbol, asks_amount}
use Rattle.elastic_ast.specs.Typing.Asked.{field_name, asks_decl, asks_field, asks_width, asks_member, asks_named_header, asks_next, asks_state, asks_structs}
use Rattle.elastic_ast.specs.Typing.Typed.{Typed}
use Rattle.elastic_laws.proofs.Typing.TypedFacts.{wide_bits, wide_is, parts, head_met, typed_own, IsMet, met_own, if_some, FoundAt, found_at}
use Rattle.elastic_laws.proofs.Typing.TypedNames.{Distinct, names_distinct}
use Rattle.elastic_laws.proofs.Typing.TypedTables.{item_met}
use Rattle.elastic_laws.proofs.Typing.TypedStays.{member_stays}

-- each field has a width from 1 to 128
abbrev pub AreWide : List Field → Type 0
AreWide fields = (field : Field) → Contains fields field → (1 ≤ field.width) × (field.width ≤ 128)

none_distinct : Distinct []
none_distinct i j n e f = cc

none_wide : AreWide []
none_wide field c = absurd (omega arith)

-- the members of `headers_t`
headers_given : (x : PlainDecl) (members : List (Name × Name)) → members_in x ≡ Some members → x ≡ PlainDecl.Headers members
headers_given (PlainDecl.Headers other) members h = let e : other ≡ members = cc in ap PlainDecl.Headers e
headers_given other members h = cc

pub members_distinct : (allow : Bool) (ds : List PlainDecl) → IsMet allow ds → Distinct (map member_name (members_of ds))
members_distinct allow ds t = by (found members_in ds) refl
  where
    by : (o : Option (List (Name × Name))) → found members_in ds ≡ o → Distinct (map member_name (unwrap_or o []))
    by None e = none_distinct
    by (Some members) e =
        let f : FoundAt members_in ds members = found_at members_in ds members e in
        let own = met_own allow ds t f.number (PlainDecl.Headers members) (f.here ∙ ap Some (headers_given f.at members f.gives_it)) in
        names_distinct allow [] (map member_name members) (parts allow (asks_names [] (map member_name members)) (flat_map (asks_member (take f.number ds)) members) own).0

-- the fields of a header type
type_given : (name : Name) (x : PlainDecl) (fields : List Field) → header_type_in name x ≡ Some fields → (type : Name) × (x ≡ PlainDecl.Header type fields)
type_given name (PlainDecl.Header type other) fields h = (type, ap (PlainDecl.Header type) (if_some (same name type) other fields h))
type_given name other fields h = cc

-- names that differ, widths, and whole bytes together
pub record GoodHeader (fields : List Field) : Type 0 where
  pub distinct : Distinct (map field_name fields)
  pub wide : AreWide fields
  pub bytes : (bits_of_fields fields % 8 == 0) ≡ true

no_header : GoodHeader []
no_header = record { distinct = none_distinct; wide = none_wide; bytes = refl }

pub type_good : (allow : Bool) (ds : List PlainDecl) → IsMet allow ds → (name : Name) → GoodHeader (fields_of_type ds name)
type_good allow ds t name = by (found (header_type_in name) ds) refl
  where
    by : (o : Option (List Field)) → found (header_type_in name) ds ≡ o → GoodHeader (unwrap_or o [])
    by None e = no_header
    by (Some fields) e =
        let f : FoundAt (header_type_in name) ds fields = found_at (header_type_in name) ds fields e in
        let g = type_given name f.at fields f.gives_it in
        let own = met_own allow ds t f.number (PlainDecl.Header g.0 fields) (f.here ∙ ap Some g.1) in
        let p = parts allow (asks_names [] (map field_name fields)) (flat_map asks_width fields ++ (Bytes (bits_of_fields fields) ∷ [])) own in
        let q = parts allow (flat_map asks_width fields) (Bytes (bits_of_fields fields) ∷ []) p.1 in
        record {
          distinct = names_distinct allow [] (map field_name fields) p.0;
          wide = λ field c. wide_is field.width (head_met allow (Wide field.width) [] (item_met allow asks_width fields q.0 field c)).0;
          bytes = (head_met allow (Bytes (bits_of_fields fields)) [] q.1).0;
        }

pub header_good : (allow : Bool) (ds : List PlainDecl) → IsMet allow ds → (header : Name) → GoodHeader (header_fields ds header)
header_good allow ds t header = by (find (λ (member : Name × Name). same header member.1) (members_of ds))
  where
    by : (o : Option (Name × Name)) → GoodHeader (unwrap_or (option_map (λ (member : Name × Name). fields_of_type ds member.0) o) [])
    by None = no_header
    by (Some member) = type_good allow ds t member.0

-- the metadata
pub meta_given : (x : PlainDecl) (fields : List Field) → meta_in x ≡ Some fields → x ≡ PlainDecl.Meta fields
meta_given (PlainDecl.Meta other) fields h = let e : other ≡ fields = cc in ap PlainDecl.Meta e
meta_given other fields h = cc

pub meta_good : (allow : Bool) (ds : List PlainDecl) → IsMet allow ds → Distinct (map field_name (meta_fields ds)) × AreWide (meta_fields ds)
meta_good allow ds t = by (found meta_in ds) refl
  where
    by : (o : Option (List Field)) → found meta_in ds ≡ o → Distinct (map field_name (unwrap_or o [])) × AreWide (unwrap_or o [])
    by None e = (none_distinct, none_wide)
    by (Some fields) e =
        let f : FoundAt meta_in ds fields = found_at meta_in ds fields e in
        let own = met_own allow ds t f.number (PlainDecl.Meta fields) (f.here ∙ ap Some (meta_given f.at fields f.gives_it)) in
        let p = parts allow (asks_names [] (map field_name fields)) (flat_map (asks_field (take f.number ds)) fields) own in (
          names_distinct allow [] (map field_name fields) p.0,
          λ field c. wide_is field.width (head_met allow (Wide field.width) (asks_symbol (take f.number ds) field.size) (item_met allow (asks_field (take f.number ds)) fields p.1 field c)).0,
        )

-- the cells of a register
register_given : (name : Name) (x : PlainDecl) (width : ℕ) → register_in name x ≡ Some width → (allow : Bool) (before : List PlainDecl) → first_broken allow (asks_decl before x) ≡ None → (1 ≤ width) × (width ≤ 128)
register_given name (PlainDecl.Register register other cells size) width h allow before k =
    subst (λ z. (1 ≤ z) × (z ≤ 128)) (if_some (same name register) other width h) (wide_is other (head_met allow (Wide other) (asks_amount before cells ++ asks_symbol before size) k).0)
register_given name other width h allow before k = cc

pub register_wide : (allow : Bool) (ds : List PlainDecl) → IsMet allow ds → (name : Name) (width : ℕ) → register_width ds name ≡ Some width → (1 ≤ width) × (width ≤ 128)
register_wide allow ds t name width h =
    let f : FoundAt (register_in name) ds width = found_at (register_in name) ds width h in
    register_given name f.at width f.gives_it allow (take f.number ds) (met_own allow ds t f.number f.at f.here)

-- a constant is below 2 to its width
abbrev IsConstant : ℕ × ℕ → Type 0
IsConstant constant = (1 ≤ constant.0) × (constant.0 ≤ 128) × (nat_lt constant.1 (2 ^ constant.0) ≡ true)

constant_given : (name : Name) (x : PlainDecl) (constant : ℕ × ℕ) → constant_in name x ≡ Some constant → (allow : Bool) (before : List PlainDecl) → first_broken allow (asks_decl before x) ≡ None → IsConstant constant
constant_given name (PlainDecl.Const other width value) constant h allow before k =
    let p = head_met allow (Wide width) (Fits value (bits_of width) ∷ []) k in
    let w = wide_is width p.0 in
    let own : ℕ × ℕ = (width, value) in
    let e : own ≡ constant = if_some (same name other) own constant h in
    let fits : fits_type value (bits_of width) ≡ true = (head_met allow (Fits value (bits_of width)) [] p.1).0 in
    subst IsConstant e (w.0, w.1, ap (fits_type value) (sym (wide_bits width p.0)) ∙ fits)
constant_given name other constant h allow before k = cc

pub constant_fits : (allow : Bool) (ds : List PlainDecl) → IsMet allow ds → (name : Name) (constant : ℕ × ℕ) → declared_constant ds name ≡ Some constant
    → (1 ≤ constant.0) × (constant.0 ≤ 128) × (nat_lt constant.1 (2 ^ constant.0) ≡ true)
constant_fits allow ds t name constant h =
    let f : FoundAt (constant_in name) ds constant = found_at (constant_in name) ds constant h in
    constant_given name f.at constant f.gives_it allow (take f.number ds) (met_own allow ds t f.number f.at f.here)

-- the parser that `main` names
parser_given : (name : Name) (x : PlainDecl) (states : List PlainState) → parser_in name x ≡ Some states → (parser : Name) × (x ≡ PlainDecl.Parser parser states)
parser_given name (PlainDecl.Parser parser other) states h = (parser, ap (PlainDecl.Parser parser) (if_some (same name parser) other states h))
parser_given name other states h = cc

pub record ParserAt (ds : List PlainDecl) (states : List PlainState) : Type 0 where
  pub number : ℕ
  pub name : Name
  pub here : slice_get ds number ≡ Some (PlainDecl.Parser name states)

pub parser_at : (ds : List PlainDecl) (states : List PlainState) → states_of ds ≡ Some states → ParserAt ds states
parser_at ds states h = by (found main_in ds) h
  where
    by : (o : Option Main) → option_and_then (λ (main : Main). found (parser_in main.0) ds) o ≡ Some states → ParserAt ds states
    by None e = cc
    by (Some main) e =
        let f : FoundAt (parser_in main.0) ds states = found_at (parser_in main.0) ds states e in
        let g = parser_given main.0 f.at states f.gives_it in
        record { number = f.number; name = g.0; here = f.here ∙ ap Some g.1 }

-- no state of it comes back to itself, and there is a state `start`
pub parser_ends : (allow : Bool) (ds : List PlainDecl) → Typed allow ds → (states : List PlainState) → states_of ds ≡ Some states → Loops states → ⊥
parser_ends allow ds t states h l =
    let p : ParserAt ds states = parser_at ds states h in
    t ParserLoop p.number (PlainDecl.Parser p.name states, p.here, inr l)

pub take_drop : (n : ℕ) (ds : List PlainDecl) → take n ds ++ drop n ds ≡ ds
take_drop zero ds = refl
take_drop (suc n) [] = refl
take_drop (suc n) (x ∷ xs) = ap (λ z. x ∷ z) (take_drop n xs)

-- what is a header among the first declarations is one of the program
pub member_of_all : (n : ℕ) (ds : List PlainDecl) (header : Name) → is_member (take n ds) header ≡ true → is_member ds header ≡ true
member_of_all n ds header h = ap (λ z. is_member z header) (sym (take_drop n ds)) ∙ member_stays (take n ds) (drop n ds) header h

pub extracted_is_member : (allow : Bool) (ds : List PlainDecl) → Typed allow ds → (states : List PlainState) → states_of ds ≡ Some states
    → (state : PlainState) → Contains states state → (header : Name) → Contains state.extracts header → is_member ds header ≡ true
extracted_is_member allow ds t states h state c header k =
    let p : ParserAt ds states = parser_at ds states h in
    let before = take p.number ds in
    let own = typed_own allow ds t p.number (PlainDecl.Parser p.name states) p.here in
    let q = parts allow (asks_structs before) (asks_names [] (state_names states) ++ flat_map (asks_state before states) states) own in
    let r = parts allow (asks_names [] (state_names states)) (flat_map (asks_state before states) states) q.1 in
    let s = item_met allow (asks_state before states) states r.1 state c in
    let e = (parts allow (flat_map (asks_named_header before) state.extracts) (asks_next before states state.next) s).0 in
    member_of_all p.number ds header (head_met allow (Known (is_member before header)) [] (item_met allow (asks_named_header before) state.extracts e header k)).0

-- the deparser that `main` names
deparser_given : (name : Name) (x : PlainDecl) (emits : List Name) → deparser_in name x ≡ Some emits → (deparser : Name) × (x ≡ PlainDecl.Deparser deparser emits)
deparser_given name (PlainDecl.Deparser deparser other) emits h = (deparser, ap (PlainDecl.Deparser deparser) (if_some (same name deparser) other emits h))
deparser_given name other emits h = cc

pub emitted_is_member : (allow : Bool) (ds : List PlainDecl) → Typed allow ds → (header : Name) → Contains (emits_of ds) header → is_member ds header ≡ true
emitted_is_member allow ds t header c = by (found main_in ds) c
  where
    here : (name : Name) (o : Option (List Name)) → found (deparser_in name) ds ≡ o → Contains (unwrap_or o []) header → is_member ds header ≡ true
    here name None e k = absurd (omega arith)
    here name (Some emits) e k =
        let f : FoundAt (deparser_in name) ds emits = found_at (deparser_in name) ds emits e in
        let g = deparser_given name f.at emits f.gives_it in
        let own = typed_own allow ds t f.number (PlainDecl.Deparser g.0 emits) (f.here ∙ ap Some g.1) in
        let p = head_met allow (Known (has_headers (take f.number ds))) (flat_map (asks_named_header (take f.number ds)) emits) own in
        member_of_all f.number ds header (head_met allow (Known (is_member (take f.number ds) header)) [] (item_met allow (asks_named_header (take f.number ds)) emits p.1 header k)).0

    by : (o : Option Main) → Contains (unwrap_or (option_and_then (λ (main : Main). found (deparser_in main.2) ds) o) []) header → is_member ds header ≡ true
    by None k = absurd (omega arith)
    by (Some main) k = here main.2 (found (deparser_in main.2) ds) refl k
