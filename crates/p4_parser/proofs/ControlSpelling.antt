-- What the spelling of a control leaves no choice of, and how few operators its expressions have.
use Rattle.std.proofs.Common.{◌≡◌, ℕ, List, ◌⊎◌, inl, inr, codes, refl, ap, ◌∙◌}
use Rattle.elastic_ast.specs.Tree.{PlainAction, PlainLocal, PlainStmts, PlainTable}
use Rattle.spelling.specs.Words.{Word}
use Rattle.spelling.specs.Grammar.{Grammar, ◌⨟◌, Begins, Bracketed, Each, IsNamed, IsReserved, Named, Reserved}
use Rattle.spelling.specs.Reading.{MayTake}
use Rattle.spelling.proofs.Only.{begins_first, other_text, split}
use Rattle.p4_tables.specs.Tables.{SpellsProperty, SpellsTable}
use Rattle.p4_parser.specs.Declarations.{SpellsLocal, SpellsAction}

pub table_first : (more : ℕ) (table : PlainTable) {a c : List Word} → MayTake (SpellsTable more table) a c → Begins (IsReserved (codes "table")) a
table_first more table {a = a} {c = c} m =
    let words : MayTake (Reserved (codes "table") ⨟ Named table.name ⨟ Bracketed (codes "{") (codes "}") more (λ inner. Each (SpellsProperty inner) m.spelled.properties)) a c = record { front = m.front; joined = m.joined; spelled = m.spelled.spelled } in
    begins_first words

pub not_both_reserved : (ws : List Word) → Begins (IsReserved (codes "action")) ws → Begins (IsReserved (codes "table")) ws → ⊥
not_both_reserved ws f g = other_text (codes "action") (codes "table") ws refl (λ word h. h.1) (λ word h. h.1) f g

pub local_first : (more : ℕ) (local : PlainLocal) {Q : Grammar} {a c : List Word} → MayTake (SpellsLocal more local ⨟ Q) a c → Begins (IsReserved (codes "action")) a ⊎ Begins (IsReserved (codes "table")) a
local_first more (PlainLocal.OfAction action) m = inl (begins_first (split m).first)
local_first more (PlainLocal.OfTable table) m = inr (table_first more table (split m).first)

-- the name that stands behind the locals begins none
pub apply_no_local : (ws : List Word) → Begins (IsNamed (codes "apply")) ws → Begins (IsReserved (codes "action")) ws ⊎ Begins (IsReserved (codes "table")) ws → ⊥
apply_no_local ws named at =
    elim at [
      | inl h ↦ other_text (codes "apply") (codes "action") ws refl (λ word h. h.1) (λ word h. h.1) named h
      | inr h ↦ other_text (codes "apply") (codes "table") ws refl (λ word h. h.1) (λ word h. h.1) named h
    ]

-- which of the two it is, by its first word
pub record ActionThere (more : ℕ) (local : PlainLocal) (a c : List Word) : Type 0 where
  pub action : PlainAction
  pub is : local ≡ PlainLocal.OfAction action
  pub ahead : MayTake (SpellsAction more action) a c

pub record TableThere (more : ℕ) (local : PlainLocal) (a c : List Word) : Type 0 where
  pub table : PlainTable
  pub is : local ≡ PlainLocal.OfTable table
  pub ahead : MayTake (SpellsTable more table) a c

pub action_there : (more : ℕ) (local : PlainLocal) {a c : List Word} → MayTake (SpellsLocal more local) a c → Begins (IsReserved (codes "action")) a → ActionThere more local a c
action_there more (PlainLocal.OfAction action) m at = record { action = action; is = refl; ahead = m }
action_there more (PlainLocal.OfTable table) {a = a} m at = absurd (not_both_reserved a at (table_first more table m))

pub table_there : (more : ℕ) (local : PlainLocal) {a c : List Word} → MayTake (SpellsLocal more local) a c → (Begins (IsReserved (codes "action")) a → ⊥) → TableThere more local a c
table_there more (PlainLocal.OfAction action) m none = absurd (none (begins_first m))
table_there more (PlainLocal.OfTable table) m none = record { table = table; is = refl; ahead = m }

pub same_contents : {k l : List PlainLocal} {a b : PlainStmts} → k ≡ l → a ≡ b → ◌≡◌ {A = List PlainLocal × PlainStmts} (k, a) (l, b)
same_contents {l = l} {a = a} e f = ap (λ x. (x, a)) e ∙ ap (λ x. (l, x)) f
