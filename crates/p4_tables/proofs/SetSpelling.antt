-- What the spelling of a value and of a set leaves no choice of.
use Rattle.std.proofs.Common.{◌≡◌, ℕ, IsTrue, List, [], ◌∷◌, Option, Some, None, codes, refl, sym, ap, subst, ◌∙◌, inl, inr}
use Rattle.std.proofs.lemmas.Bool.{false≢true}
use Rattle.p4_lexer.specs.declared.token.Kind.{Kind}
use Rattle.p4_lexer.specs.declared.token.Kind.TheVariants as kind
use Rattle.elastic_ast.specs.Tree.{PlainExpr, PlainKeyset}
use Rattle.spelling.specs.Words.{Word}
use Rattle.spelling.specs.Grammar.{Grammar, Empty, ◌⨟◌, Begins, Bracketed, IsReserved, IsSign, Named, Reserved, Sign, is_number, is_reserved, is_sign}
use Rattle.spelling.specs.Reading.{Ends, MayTake}
use Rattle.spelling.proofs.Only.{alone, begins, begins_both, begins_bracketed, begins_first, empty_same, not_sign, of_where, reserved_no_sign, split, which}
use Rattle.p4_expr.specs.Parts.{IsNumber, SpellsNumber}
use Rattle.p4_tables.specs.GoesOn.{set_signs}
use Rattle.p4_tables.specs.Tables.{SpellsOneSet, SpellsSet, SpellsSetList, SpellsSets, SpellsValue}

-- a value that is a name, and one that is a number
pub record NamedValue (value : PlainExpr) (a c : List Word) : Type 0 where
  pub name : List ℕ
  pub is : value ≡ PlainExpr.Named name
  pub ahead : MayTake (Named name) a c

pub record NumberValue (value : PlainExpr) (a c : List Word) : Type 0 where
  pub width : Option ℕ
  pub number : ℕ
  pub is : value ≡ PlainExpr.Num width number
  pub ahead : MayTake (SpellsNumber width number) a c

number_there : (width : Option ℕ) (number : ℕ) (ws : List Word) → Begins (IsNumber width number) ws → Begins (λ word. IsTrue (is_number word.kind)) ws
number_there width number [] b = b
number_there width number (word ∷ ws) b = ap is_number b

begins_number : (width : Option ℕ) (number : ℕ) {a c : List Word} → MayTake (SpellsNumber width number) a c → Begins (λ word. IsTrue (is_number word.kind)) a
begins_number width number {a = a} m = number_there width number a (begins (of_where m))

pub named_value : (value : PlainExpr) {a c : List Word} → MayTake (SpellsValue value) a c → (Begins (λ word. IsTrue (is_number word.kind)) a → ⊥) → NamedValue value a c
named_value (PlainExpr.Num width number) m none = absurd (none (begins_number width number m))
named_value (PlainExpr.Named name) m none = record { name = name; is = refl; ahead = m }
named_value other m none = absurd m.spelled

name_no_number : (n : List ℕ) {a c : List Word} → MayTake (Named n) a c → Begins (λ word. IsTrue (is_number word.kind)) a → ⊥
name_no_number n {a = a} m at =
    let b = begins_both a (begins m) at in
    false≢true (sym (ap is_number b.1.0) ∙ b.2)

pub number_value : (value : PlainExpr) {a c : List Word} → MayTake (SpellsValue value) a c → Begins (λ word. IsTrue (is_number word.kind)) a → NumberValue value a c
number_value (PlainExpr.Num width number) m at = record { width = width; number = number; is = refl; ahead = m }
number_value (PlainExpr.Named name) m at = absurd (name_no_number name m at)
number_value other m at = absurd m.spelled

-- no value begins with a reserved word
reserved_no_number : (text : List ℕ) (k : Kind) → IsTrue (is_reserved k) → IsTrue (is_number k) → ⊥
reserved_no_number text (kind.Reserved code) h g = false≢true g
reserved_no_number text other h g = false≢true h

pub value_no_reserved : (value : PlainExpr) {a c : List Word} (text : List ℕ) → MayTake (SpellsValue value) a c → Begins (IsReserved text) a → ⊥
value_no_reserved (PlainExpr.Num width number) {a = a} text m at = let b = begins_both a (begins_number width number m) at in reserved_no_number text b.0.kind b.2.0 b.1
value_no_reserved (PlainExpr.Named name) {a = a} text m at = let b = begins_both a (begins m) at in false≢true (sym (ap is_reserved b.1.0) ∙ b.2.0)
value_no_reserved other text m at = absurd m.spelled

-- a set is `_`, where that stands there
pub any_there : (set : PlainKeyset) {a c : List Word} → MayTake (SpellsSet set) a c → Begins (IsReserved (codes "_")) a → (PlainKeyset.Any ≡ set) × MayTake (Reserved (codes "_")) a c
any_there (PlainKeyset.One value) m at = absurd (value_no_reserved value (codes "_") m at)
any_there (PlainKeyset.Masked value mask) m at = absurd (value_no_reserved value (codes "_") (split m).first at)
any_there PlainKeyset.Any m at = (refl, m)

-- else it is a value, perhaps with a mask
abbrev pub SpellsMask : Option PlainExpr → Grammar
SpellsMask None = Empty
SpellsMask (Some mask) = Sign (codes "&&&") ⨟ SpellsValue mask

abbrev pub masked : PlainExpr → Option PlainExpr → PlainKeyset
masked value None = PlainKeyset.One value
masked value (Some mask) = PlainKeyset.Masked value mask

pub record ValueThere (set : PlainKeyset) (a c : List Word) : Type 0 where
  pub value : PlainExpr
  pub mask : Option PlainExpr
  pub is : set ≡ masked value mask
  pub ahead : MayTake (SpellsValue value ⨟ SpellsMask mask) a c

pub value_there : (set : PlainKeyset) {a c : List Word} → MayTake (SpellsSet set) a c → (Begins (IsReserved (codes "_")) a → ⊥) → ValueThere set a c
value_there (PlainKeyset.One value) m none = record { value = value; mask = None; is = refl; ahead = alone m }
value_there (PlainKeyset.Masked value mask) m none = record { value = value; mask = Some mask; is = refl; ahead = m }
value_there PlainKeyset.Any m none = absurd (none (begins m))

-- the mask is there where its sign is
pub mask_missing : (mask : Option PlainExpr) {a c : List Word} → MayTake (SpellsMask mask) a c → (Begins (IsSign (codes "&&&")) a → ⊥) → (None ≡ mask) × (a ≡ c)
mask_missing None m none = (refl, empty_same m)
mask_missing (Some mask) m none = absurd (none (begins_first m))

pub record MaskThere (mask : Option PlainExpr) (a c : List Word) : Type 0 where
  pub of : PlainExpr
  pub is : mask ≡ Some of
  pub ahead : MayTake (Sign (codes "&&&") ⨟ SpellsValue of) a c

pub mask_there : (mask : Option PlainExpr) {a c : List Word} → MayTake (SpellsMask mask) a c → Ends set_signs c → Begins (IsSign (codes "&&&")) a → MaskThere mask a c
mask_there None m ends at = absurd (ends.0 (subst (Begins (IsSign (codes "&&&"))) (empty_same m) at))
mask_there (Some mask) m ends at = record { of = mask; is = refl; ahead = m }

-- a list of one set
pub record OneSet (sets : List PlainKeyset) (a c : List Word) : Type 0 where
  pub set : PlainKeyset
  pub is : sets ≡ set ∷ []
  pub ahead : MayTake (SpellsSet set) a c

pub one_set_there : (sets : List PlainKeyset) {a c : List Word} → MayTake (SpellsOneSet sets) a c → OneSet sets a c
one_set_there [] m = absurd m.spelled
one_set_there (set ∷ []) m = record { set = set; is = refl; ahead = m }
one_set_there (set ∷ other ∷ sets) m = absurd m.spelled

-- no set begins with an opening bracket
pub value_no_sign : (value : PlainExpr) {a c : List Word} (sign : List ℕ) → MayTake (SpellsValue value) a c → Begins (IsSign sign) a → ⊥
value_no_sign (PlainExpr.Num width number) {a = a} sign m at = not_sign sign a (λ word h. ap is_sign h) (begins (of_where m)) at
value_no_sign (PlainExpr.Named name) {a = a} sign m at = not_sign sign a (λ word h. ap is_sign h.0) (begins m) at
value_no_sign other sign m at = absurd m.spelled

pub set_no_sign : (set : PlainKeyset) {a c : List Word} (sign : List ℕ) → MayTake (SpellsSet set) a c → Begins (IsSign sign) a → ⊥
set_no_sign (PlainKeyset.One value) sign m at = value_no_sign value sign m at
set_no_sign (PlainKeyset.Masked value mask) sign m at = value_no_sign value sign (split m).first at
set_no_sign PlainKeyset.Any {a = a} sign m at = not_sign sign a (λ word h. reserved_no_sign word.kind h.0) (begins m) at

-- sets in brackets, where a bracket stands there; else one set
one_no_sign : (sets : List PlainKeyset) {a c : List Word} (sign : List ℕ) → MayTake (SpellsOneSet sets) a c → Begins (IsSign sign) a → ⊥
one_no_sign sets {a = a} sign m at = set_no_sign (one_set_there sets m).set sign (one_set_there sets m).ahead at

pub brackets_there : (depth : ℕ) (sets : List PlainKeyset) {a c : List Word} → MayTake (SpellsSets depth sets) a c → Begins (IsSign (codes "(")) a → MayTake (Bracketed (codes "(") (codes ")") depth (λ _. SpellsSetList sets)) a c
brackets_there depth sets m at = elim (which m) [ inl o ↦ absurd (one_no_sign sets (codes "(") o at) | inr b ↦ b ]

pub one_there : (depth : ℕ) (sets : List PlainKeyset) {a c : List Word} → MayTake (SpellsSets depth sets) a c → (Begins (IsSign (codes "(")) a → ⊥) → MayTake (SpellsOneSet sets) a c
one_there depth sets m none = elim (which m) [ inl o ↦ o | inr b ↦ absurd (none (begins_bracketed (codes "(") (codes ")") depth (λ _. SpellsSetList sets) b)) ]
