-- The properties of a table: how a table is made of them, and that none is of the kind of another.
use Rattle.std.proofs.Common.{zero, suc, ◌≡◌, ◌≢◌, ℕ, ◌+◌, ◌<◌, All, List, [], ◌∷◌, ◌++◌, codes, inl, inr, length, map, refl, sym, ap, subst, ◌∙◌, add-one, arith, length-append}
use Rattle.std.proofs.Math.Seq.{get_or-append_seam}
use Rattle.std.proofs.lemmas.List.{get_or_append_left}
use Rattle.elastic_ast.specs.Tree.{PlainTable}
use Rattle.spelling.specs.Words.{Word}
use Rattle.spelling.specs.Grammar.{Grammar, ◌⨟◌, Begins, IsNamed, IsReserved, IsSign, Named, Reserved, is_sign, Sign, Where}
use Rattle.spelling.specs.Reading.{MayTake, Takes}
use Rattle.spelling.proofs.Only.{not_sign, reserved_no_sign, split}
use Rattle.spelling.proofs.Deeper.{Under, itself, under_both}
use Rattle.spelling.specs.Readers.{InCurly, Many}
use Rattle.spelling.proofs.Taking.{takes_as}
use Rattle.p4_tables.specs.declared.properties.Part.{Part}
use Rattle.p4_tables.specs.Reading.{OfDifferentKinds, SpellsProperties}
use Rattle.p4_tables.specs.Seen.{seen_part}
use Rattle.p4_tables.specs.Tables.{Property, SpellsProperty, SpellsTable, kind_of, table_with}
use Rattle.p4_tables.proofs.PropertySpelling.{FirstWords, first_words}

-- a table that has the properties behind those that are left
pub record Built (name : List ℕ) (parts left : List Part) (table : PlainTable) : Type 0 where
  pub done : List Part
  pub whole : parts ≡ left ++ done
  pub is : table ≡ table_with name (map seen_part done)

pub apart_before : (read : List Property) (one : Property) (later all : List Property) → all ≡ read ++ one ∷ later → OfDifferentKinds all → All (λ other. kind_of other ≢ kind_of one) read
apart_before read one later all whole apart = λ k d within.
    let Both : List Property → Type 0 = OfDifferentKinds in
    let h : OfDifferentKinds (read ++ one ∷ later) = subst Both whole apart in
    let long : length (read ++ one ∷ later) ≡ length read + length (one ∷ later) = length-append read (one ∷ later) in
    let here : length read < length (read ++ one ∷ later) = omega (arith, long, add-one (length later)) in
    λ same. h k (length read) d within here (ap kind_of (get_or_append_left read (one ∷ later) d k within) ∙ same ∙ ap kind_of (sym (get_or-append_seam read one later d)))

-- the words of a table, which say that no two properties are of one kind
abbrev pub TableWords : List ℕ → List Property → ℕ → Grammar
TableWords name properties depth = Reserved (codes "table") ⨟ Named name ⨟ InCurly SpellsProperties depth properties

in_curly : (depth : ℕ) (properties : List Property) → OfDifferentKinds properties → Under (InCurly (Many SpellsProperty) depth properties) (InCurly SpellsProperties depth properties)
in_curly zero properties apart ws h = absurd h
in_curly (suc depth) properties apart ws h = under_both (itself (Sign (codes "{"))) (under_both (λ ws g. (apart, g)) (itself (Sign (codes "}")))) ws h

out_of_curly : (depth : ℕ) (properties : List Property) → Under (InCurly SpellsProperties depth properties) (InCurly (Many SpellsProperty) depth properties)
out_of_curly zero properties ws h = absurd h
out_of_curly (suc depth) properties ws h = under_both (itself (Sign (codes "{"))) (under_both (λ ws g. g.1) (itself (Sign (codes "}")))) ws h

apart_in : (depth : ℕ) (properties : List Property) (ws : List Word) → InCurly SpellsProperties depth properties ws → OfDifferentKinds properties
apart_in zero properties ws h = absurd h
apart_in (suc depth) properties ws h = h.second.first.0

pub with_name : (name : List ℕ) (properties : List Property) → (table_with name properties).name ≡ name
with_name name [] = refl
with_name name (Property.Keys keys ∷ properties) = with_name name properties
with_name name (Property.Actions names ∷ properties) = with_name name properties
with_name name (Property.Fallback action arguments ∷ properties) = with_name name properties
with_name name (Property.Size size ∷ properties) = with_name name properties
with_name name (Property.Entries entries ∷ properties) = with_name name properties

pub no_pairs : OfDifferentKinds []
no_pairs = λ i j d less inside. absurd (omega (arith, inside))

pub may_where : {fact : Type 0} {Of : Grammar} {a b : List Word} → fact → MayTake Of a b → MayTake (Where fact Of) a b
may_where holds m = record { front = m.front; joined = m.joined; spelled = (holds, m.spelled) }

pub takes_table : (depth : ℕ) (name : List ℕ) (properties : List Property) (table : PlainTable) {a c : List Word} → table ≡ table_with name properties → Takes (TableWords name properties depth) a c → Takes (SpellsTable depth table) a c
takes_table depth name properties table is t =
    let named : name ≡ table.name = sym (ap (λ table. table.name) is ∙ with_name name properties) in
    takes_as
    (λ ws s.
    let plain = under_both (itself (Reserved (codes "table"))) (under_both (itself (Named name)) (out_of_curly depth properties)) ws s in
    let again : (name : List ℕ) → List Word → Type 0 = λ name. Reserved (codes "table") ⨟ Named name ⨟ InCurly (Many SpellsProperty) depth properties in
    record { properties = properties; spelled = subst (λ name. again name ws) named plain; no_two = apart_in depth properties s.second.back s.second.second; has_them = is ∙ ap (λ name. table_with name properties) named }) t

pub table_words : (depth : ℕ) (table : PlainTable) {a c : List Word} (m : MayTake (SpellsTable depth table) a c) → MayTake (TableWords table.name m.spelled.properties depth) a c
table_words depth table m = record { front = m.front; joined = m.joined; spelled = under_both (itself (Reserved (codes "table"))) (under_both (itself (Named table.name)) (in_curly depth m.spelled.properties m.spelled.no_two)) m.front m.spelled.spelled }

-- a property does not begin with a closing bracket
named_no_end : (name : List ℕ) (ws : List Word) → Begins (IsNamed name) ws → Begins (IsSign (codes "}")) ws → ⊥
named_no_end name ws first at = not_sign (codes "}") ws (λ word h. ap is_sign h.0) first at

const_no_end : (ws : List Word) → Begins (IsReserved (codes "const")) ws → Begins (IsSign (codes "}")) ws → ⊥
const_no_end ws first at = not_sign (codes "}") ws (λ word h. reserved_no_sign word.kind h.0) first at

words_no_end : (property : Property) (ws : List Word) → FirstWords property ws → Begins (IsSign (codes "}")) ws → ⊥
words_no_end (Property.Keys keys) ws first at = named_no_end (codes "key") ws first at
words_no_end (Property.Actions names) ws first at = named_no_end (codes "actions") ws first at
words_no_end (Property.Fallback action arguments) ws (inl first) at = named_no_end (codes "default_action") ws first at
words_no_end (Property.Fallback action arguments) ws (inr first) at = const_no_end ws first.0 at
words_no_end (Property.Size size) ws first at = named_no_end (codes "size") ws first at
words_no_end (Property.Entries entries) ws first at = const_no_end ws first.0 at

pub property_no_end : (depth : ℕ) (property : Property) {Q : Grammar} {a c : List Word} → MayTake (SpellsProperty depth property ⨟ Q) a c → Begins (IsSign (codes "}")) a → ⊥
property_no_end depth property {a = a} m at = words_no_end property a (first_words depth property (split m).first) at
