-- What the spelling of a parser's states and cases leaves no choice of.
use Rattle.p4_tables.proofs.SetSpelling.{set_no_sign, value_no_reserved}
use Rattle.p4_parser.specs.Reading.{NextHasFew}
use Rattle.std.proofs.Common.{◌≡◌, ℕ, ◌≤◌, List, All, Result, codes, refl, sym, ap, ◌∙◌, inl, inr}
use Rattle.std.proofs.lemmas.Bool.{false≢true}
use Rattle.elastic_ast.specs.Seen.{seen_next}
use Rattle.elastic_ast.specs.Tree.{Name, PlainExpr, PlainKeyset, PlainNext, PlainState}
use Rattle.elastic_ast.specs.declared.declarations.Next.{Next}
use Rattle.spelling.specs.Words.{Word}
use Rattle.spelling.specs.Grammar.{Grammar, ◌⨟◌, Begins, IsReserved, IsSign, Named, Reserved, Sign, is_reserved}
use Rattle.spelling.specs.Reading.{MayTake, IsReading}
use Rattle.spelling.specs.declared.error.SyntaxError.{SyntaxError}
use Rattle.spelling.proofs.Only.{begins, begins_both, begins_first, fact_of, not_sign, of_where, other_text, reserved_no_sign, split, which}
use Rattle.p4_expr.specs.Expressions.{HasFewOperators}
use Rattle.p4_tables.specs.Tables.{SpellsSet}
use Rattle.p4_parser.specs.Declarations.{SpellsCase, SpellsCaseSet, SpellsExtract, SpellsNext, SpellsState}
use Rattle.p4_parser.specs.ExpressionsIn.{expressions_of_next}

-- a name is no reserved word
name_no_reserved : (name text : List ℕ) {a c : List Word} → MayTake (Named name) a c → Begins (IsReserved text) a → ⊥
name_no_reserved name text {a = a} m at =
    let b = begins_both a (begins m) at in
    false≢true (sym (ap is_reserved b.1.0) ∙ b.2.0)

pub extract_no_reserved : (depth : ℕ) (header : List ℕ) {Q : Grammar} {a c : List Word} (text : List ℕ) → MayTake (SpellsExtract depth header ⨟ Q) a c → Begins (IsReserved text) a → ⊥
extract_no_reserved depth header text m = name_no_reserved (codes "pkt") text (split (split m).first).first

set_no_default : (set : PlainKeyset) {a c : List Word} → MayTake (SpellsSet set) a c → Begins (IsReserved (codes "default")) a → ⊥
set_no_default (PlainKeyset.One value) m at = value_no_reserved value (codes "default") m at
set_no_default (PlainKeyset.Masked value mask) m at = value_no_reserved value (codes "default") (split m).first at
set_no_default PlainKeyset.Any {a = a} m at = other_text (codes "_") (codes "default") a refl (λ word h. h.1) (λ word h. h.1) (begins m) at

pub default_there : (set : PlainKeyset) {a c : List Word} → MayTake (SpellsCaseSet set) a c → Begins (IsReserved (codes "default")) a → (PlainKeyset.Any ≡ set) × MayTake (Reserved (codes "default")) a c
default_there set m at = elim (which m) [ inl s ↦ absurd (set_no_default set s at) | inr d ↦ (sym (fact_of d), of_where d) ]

pub set_there : (set : PlainKeyset) {a c : List Word} → MayTake (SpellsCaseSet set) a c → (Begins (IsReserved (codes "default")) a → ⊥) → MayTake (SpellsSet set) a c
set_there set m none = elim (which m) [ inl s ↦ s | inr d ↦ absurd (none (begins (of_where d))) ]

-- neither a case nor a state begins with a sign
case_set_no_sign : (set : PlainKeyset) (sign : List ℕ) {a c : List Word} → MayTake (SpellsCaseSet set) a c → Begins (IsSign sign) a → ⊥
case_set_no_sign set sign {a = a} m at = elim (which m) [ inl s ↦ set_no_sign set sign s at | inr d ↦ not_sign sign a (λ word h. reserved_no_sign word.kind h.0) (begins (of_where d)) at ]

pub case_no_sign : (chosen : PlainKeyset × Name) (sign : List ℕ) {Q : Grammar} {a c : List Word} → MayTake (SpellsCase chosen ⨟ Q) a c → Begins (IsSign sign) a → ⊥
case_no_sign chosen sign m at = case_set_no_sign chosen.0 sign (split (split m).first).first at

pub state_no_sign : (depth : ℕ) (state : PlainState) (sign : List ℕ) {Q : Grammar} {a c : List Word} → MayTake (SpellsState depth state ⨟ Q) a c → Begins (IsSign sign) a → ⊥
state_no_sign depth state sign {a = a} m at = not_sign sign a (λ word h. reserved_no_sign word.kind h.0) (begins_first (split m).first) at

-- what follows `transition` is a `select` where that stands there
pub select_read : (more depth : ℕ) (next : PlainNext) {a c : List Word} (now : List Word) (r : Result Next SyntaxError) → MayTake (SpellsNext more next) a c → Begins (IsReserved (codes "select")) a → ((of : PlainExpr) (cases : List (PlainKeyset × Name)) → MayTake (SpellsNext more (PlainNext.Select of cases)) a c → IsReading ((more ≤ depth) × NextHasFew (PlainNext.Select of cases)) seen_next (PlainNext.Select of cases) c now r) → IsReading ((more ≤ depth) × All HasFewOperators (expressions_of_next next)) seen_next next c now r
select_read more depth (PlainNext.To state) now r m at reads = absurd (name_no_reserved state (codes "select") (split m).first at)
select_read more depth (PlainNext.Select of cases) now r m at reads = reads of cases m

-- and else the name of a state
pub record ToState (next : PlainNext) (a c : List Word) : Type 0 where
  pub state : Name
  pub is : next ≡ PlainNext.To state
  pub ahead : MayTake (Named state ⨟ Sign (codes ";")) a c

pub to_there : (more : ℕ) (next : PlainNext) {a c : List Word} → MayTake (SpellsNext more next) a c → (Begins (IsReserved (codes "select")) a → ⊥) → ToState next a c
to_there more (PlainNext.To state) m none = record { state = state; is = refl; ahead = m }
to_there more (PlainNext.Select of cases) m none = absurd (none (begins_first m))

-- what is made of the same parts is the same
abbrev pub a_state : Name → List Name × PlainNext → PlainState
a_state name body = record { name = name; extracts = body.0; next = body.1 }

pub same_state : {n k : Name} {b d : List Name × PlainNext} → n ≡ k → b ≡ d → a_state n b ≡ a_state k d
same_state {k = k} {b = b} e f = ap (λ n. a_state n b) e ∙ ap (a_state k) f
