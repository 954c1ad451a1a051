-- The first words of a property say of which kind it is.
use Rattle.spelling.specs.Bounds.{IfTooDeep, Opens, OpensNext, Stops}
use Rattle.std.specs.Result.{IsErrAnd}
use Rattle.p4_tables.specs.Seen.{seen_parts}
use Rattle.p4_tables.specs.Reading.{ReadsOfKind, ReadsOther}
use Rattle.std.proofs.Common.{◌≡◌, ℕ, List, bytes_eq, codes, cond, drop, false, ◌⊎◌, inl, inr, refl, sym, ap, ◌∙◌, All, Err, Ok, Result, subst, ◌≢◌, ◌≤◌}
use Rattle.spelling.specs.Words.{Word}
use Rattle.spelling.specs.declared.error.SyntaxError.{SyntaxError}
use Rattle.spelling.specs.declared.reader.Reader.{Reader}
use Rattle.p4_tables.specs.declared.properties.Part.{Part}
use Rattle.spelling.specs.Grammar.{Begins, IsNamed, IsReserved}
use Rattle.spelling.specs.Reading.{MayTake, WantsOr, ahead}
use Rattle.spelling.proofs.Only.{begins_both, begins_first, of_where, other_text, split, which}
use Rattle.spelling.proofs.Peeling.{begins_second, past_none}
use Rattle.spelling.proofs.Taking.{may_both}
use Rattle.p4_tables.specs.Tables.{Property, Says, SpellsProperty, kind_of, property_of}
use Rattle.p4_tables.specs.declared.properties.Kind.{Kind}
use Rattle.p4_tables.specs.declared.properties.Kind.TheVariants as kind

-- the words with which a property begins
abbrev pub FirstWords : Property → List Word → Type 0
FirstWords (Property.Keys keys) ws = Begins (IsNamed (codes "key")) ws
FirstWords (Property.Actions names) ws = Begins (IsNamed (codes "actions")) ws
FirstWords (Property.Fallback action arguments) ws = Begins (IsNamed (codes "default_action")) ws ⊎ (Begins (IsReserved (codes "const")) ws × Begins (IsNamed (codes "default_action")) (drop 1 ws))
FirstWords (Property.Size size) ws = Begins (IsNamed (codes "size")) ws
FirstWords (Property.Entries entries) ws = Begins (IsReserved (codes "const")) ws × Begins (IsNamed (codes "entries")) (drop 1 ws)

pub first_words : (depth : ℕ) (property : Property) {a c : List Word} → MayTake (SpellsProperty depth property) a c → FirstWords property a
first_words depth (Property.Keys keys) m = begins_first m
first_words depth (Property.Actions names) m = begins_first m
first_words depth (Property.Fallback action arguments) {a = a} m =
    let s = split m in
    elim (which s.first) [ inl none ↦ inl (begins_first (past_none (may_both none s.second))) | inr const ↦ inr (begins_first (may_both const s.second), begins_second a (may_both const s.second)) ]
first_words depth (Property.Size size) m = begins_first (of_where m)
first_words depth (Property.Entries entries) {a = a} m = (begins_first m, begins_second a m)

-- the kind that has this name
abbrev pub kind_by : List ℕ → Kind
kind_by text = cond (bytes_eq text (codes "key")) kind.Keys (cond (bytes_eq text (codes "actions")) kind.Actions (cond (bytes_eq text (codes "default_action")) kind.Fallback (cond (bytes_eq text (codes "size")) kind.Size kind.Entries)))

same_names : (s t : List ℕ) (ws : List Word) → Begins (IsNamed s) ws → Begins (IsNamed t) ws → s ≡ t
same_names s t ws f g = let b = begins_both ws f g in sym b.1.1 ∙ b.2.1

name_no_const : (text : List ℕ) (ws : List Word) → bytes_eq text (codes "const") ≡ false → Begins (IsNamed text) ws → Begins (IsReserved (codes "const")) ws → ⊥
name_no_const text ws differ f g = other_text text (codes "const") ws differ (λ word h. h.1) (λ word h. h.1) f g

-- by its name, where that stands first
pub named_kind : (text : List ℕ) → bytes_eq text (codes "const") ≡ false → (property : Property) (ws : List Word) → FirstWords property ws → Begins (IsNamed text) ws → kind_by text ≡ kind_of property
named_kind text differ (Property.Keys keys) ws first at = ap kind_by (same_names text (codes "key") ws at first)
named_kind text differ (Property.Actions names) ws first at = ap kind_by (same_names text (codes "actions") ws at first)
named_kind text differ (Property.Fallback action arguments) ws (inl first) at = ap kind_by (same_names text (codes "default_action") ws at first)
named_kind text differ (Property.Fallback action arguments) ws (inr first) at = absurd (name_no_const text ws differ at first.0)
named_kind text differ (Property.Size size) ws first at = ap kind_by (same_names text (codes "size") ws at first)
named_kind text differ (Property.Entries entries) ws first at = absurd (name_no_const text ws differ at first.0)

-- by the name behind `const`
pub const_kind : (text : List ℕ) (property : Property) (ws : List Word) → FirstWords property ws → Begins (IsReserved (codes "const")) ws → Begins (IsNamed text) (drop 1 ws) → kind_by text ≡ kind_of property
const_kind text (Property.Keys keys) ws first const at = absurd (name_no_const (codes "key") ws refl first const)
const_kind text (Property.Actions names) ws first const at = absurd (name_no_const (codes "actions") ws refl first const)
const_kind text (Property.Fallback action arguments) ws (inl first) const at = absurd (name_no_const (codes "default_action") ws refl first const)
const_kind text (Property.Fallback action arguments) ws (inr first) const at = ap kind_by (same_names text (codes "default_action") (drop 1 ws) at first.1)
const_kind text (Property.Size size) ws first const at = absurd (name_no_const (codes "size") ws refl first const)
const_kind text (Property.Entries entries) ws first const at = ap kind_by (same_names text (codes "entries") (drop 1 ws) at first.1)

-- none begins where none of these words stands
pub none_begins : (property : Property) (ws : List Word) → FirstWords property ws → (Begins (IsNamed (codes "key")) ws → ⊥) → (Begins (IsNamed (codes "actions")) ws → ⊥) → (Begins (IsNamed (codes "default_action")) ws → ⊥) → (Begins (IsNamed (codes "size")) ws → ⊥) → (Begins (IsReserved (codes "const")) ws → Begins (IsNamed (codes "default_action")) (drop 1 ws) ⊎ Begins (IsNamed (codes "entries")) (drop 1 ws) → ⊥) → ⊥
none_begins (Property.Keys keys) ws first key actions default size const = key first
none_begins (Property.Actions names) ws first key actions default size const = actions first
none_begins (Property.Fallback action arguments) ws (inl first) key actions default size const = default first
none_begins (Property.Fallback action arguments) ws (inr first) key actions default size const = const first.0 (inl first.1)
none_begins (Property.Size bound) ws first key actions default size const = size first
none_begins (Property.Entries entries) ws first key actions default size const = const first.0 (inr first.1)

-- what a property of its kind says
pub said : (property : Property) → (says : Says (kind_of property)) × (property ≡ property_of (kind_of property) says)
said (Property.Keys keys) = (keys, refl)
said (Property.Actions names) = (names, refl)
said (Property.Fallback action arguments) = ((action, arguments), refl)
said (Property.Size size) = (size, refl)
said (Property.Entries entries) = (entries, refl)

pub refused_of_kind : {kind : Kind} {depth : ℕ} {before after : Reader} {result : Result Part SyntaxError} (e : SyntaxError) → IsErrAnd result (λ d. d ≡ e) → ((more : ℕ) (says : Says kind) (rest : List Word) → MayTake (SpellsProperty more (property_of kind says)) (ahead before) rest → WantsOr (more ≤ depth) e) → IfTooDeep (Stops (Opens depth) OpensNext (ahead before) (ahead after)) e → ReadsOfKind kind depth before after result
refused_of_kind {result = Ok part} e is want deep = absurd is
refused_of_kind {depth = depth} {before = before} {after = end} {result = Err d} e is want deep =
    record {
      taken = tt;
      is_of_it = tt;
      only = λ more says rest m. subst (WantsOr (more ≤ depth)) (sym is) (want more says rest m);
      deep = subst (IfTooDeep (Stops (Opens depth) OpensNext (ahead before) (ahead end))) (sym is) deep;
    }

pub said_as : {kind : Kind} (property : Property) → kind_of property ≡ kind → (says : Says kind) × (property ≡ property_of kind says)
said_as property is = subst (λ kind. (says : Says kind) × (property ≡ property_of kind says)) is (said property)

pub refused_other : {parts : List Part} {depth : ℕ} {before after : Reader} {result : Result Part SyntaxError} (e : SyntaxError) → IsErrAnd result (λ d. d ≡ e) → ((more : ℕ) (property : Property) (rest : List Word) → MayTake (SpellsProperty more property) (ahead before) rest → All (λ one. kind_of one ≢ kind_of property) (seen_parts parts) → WantsOr (more ≤ depth) e) → IfTooDeep (Stops (Opens depth) OpensNext (ahead before) (ahead after)) e → ReadsOther parts depth before after result
refused_other {result = Ok part} e is want deep = absurd is
refused_other {depth = depth} {before = before} {after = end} {result = Err d} e is want deep =
    record {
      taken = tt;
      other = tt;
      only = λ more property rest m others. subst (WantsOr (more ≤ depth)) (sym is) (want more property rest m others);
      deep = subst (IfTooDeep (Stops (Opens depth) OpensNext (ahead before) (ahead end))) (sym is) deep;
    }
