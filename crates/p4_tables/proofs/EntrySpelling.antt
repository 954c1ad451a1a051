-- What the spelling of a key and of an entry leaves no choice of.
use Rattle.std.proofs.Common.{◌≡◌, ℕ, Bool, true, false, List, [], ◌∷◌, Result, Ok, Err, codes, refl, ap, ◌∙◌, inl, inr}
use Rattle.elastic_ast.specs.Tree.{PlainEntry, PlainExpr, PlainKeyset}
use Rattle.elastic_ast.specs.declared.declarations.Key.{Key}
use Rattle.elastic_ast.specs.declared.statements.Lval.{Lval}
use Rattle.elastic_ast.specs.declared.statements.Lval.TheVariants as lval
use Rattle.spelling.specs.Words.{Word}
use Rattle.spelling.specs.Grammar.{Grammar, ◌⨟◌, Begins, IsNamed, IsSign, Named, Sign, is_sign}
use Rattle.spelling.specs.Reading.{Ends, MayTake}
use Rattle.spelling.proofs.Only.{begins, begins_bracketed, begins_first, ends_sign, not_sign, other_text, split, which}
use Rattle.p4_expr.specs.GoesOn.{EndsIndex}
use Rattle.p4_expr.specs.Parts.{ReadsPlace, SpellsLval}
use Rattle.spelling.specs.Readers.{ReadsWithinBefore, itself}
use Rattle.spelling.specs.declared.error.SyntaxError.{SyntaxError}
use Rattle.spelling.specs.declared.reader.Reader.{Reader}
use Rattle.spelling.proofs.Bounds.{if_deep, line_opens, stop_as}
use Rattle.p4_tables.specs.GoesOn.{set_signs}
use Rattle.p4_tables.specs.Tables.{SpellsActionName, SpellsEntry, SpellsKey, SpellsMatch, SpellsSetList}
use Rattle.p4_tables.proofs.SetSpelling.{one_set_there, set_no_sign}

-- how a key matches
pub match_true : (ternary : Bool) {a c : List Word} → MayTake (SpellsMatch ternary) a c → Begins (IsNamed (codes "ternary")) a → (true ≡ ternary) × MayTake (Named (codes "ternary")) a c
match_true true m at = (refl, m)
match_true false {a = a} m at = absurd (other_text (codes "exact") (codes "ternary") a refl (λ word h. h.1) (λ word h. h.1) (begins m) at)

pub match_false : (ternary : Bool) {a c : List Word} → MayTake (SpellsMatch ternary) a c → (Begins (IsNamed (codes "ternary")) a → ⊥) → (false ≡ ternary) × MayTake (Named (codes "exact")) a c
match_false true m none = absurd (none (begins m))
match_false false m none = (refl, m)

-- a place and a set end where a colon follows
pub colon_is_no_index : (ws : List Word) → Begins (IsSign (codes ":")) ws → EndsIndex ws
colon_is_no_index ws colon = λ at. absurd ((ends_sign (codes "[" ∷ []) (codes ":") ws refl colon).0 at)

pub colon_is_no_set : (ws : List Word) → Begins (IsSign (codes ":")) ws → Ends set_signs ws
colon_is_no_set ws colon = ends_sign set_signs (codes ":") ws refl colon

pub colon_ends_set : {Q : Grammar} {a c : List Word} → MayTake (Sign (codes ":") ⨟ Q) a c → Ends set_signs a
colon_ends_set {a = a} m = colon_is_no_set a (begins_first m)

-- a reader of a place, by its depth alone
pub place_within : {depth : ℕ} {before after : Reader} {result : Result Lval SyntaxError} → ReadsPlace itself depth before after result → ReadsWithinBefore EndsIndex SpellsLval itself depth before after result
place_within {depth = depth} {result = Ok place} r = record { taken = r.taken; only = r.only; deep = tt }
place_within {depth = depth} {result = Err e} r = record { taken = tt; only = r.only; deep = if_deep e (λ s. stop_as (λ ws. line_opens depth ws) s) r.deep }

pub same_key : (f g : Key) → f.field ≡ g.field → f.ternary ≡ g.ternary → f ≡ g
same_key f g field ternary =
    let made : Lval → Bool → Key = λ l t. record { field = l; ternary = t } in
    let same : made f.field f.ternary ≡ made g.field g.ternary = ap (λ l. made l f.ternary) field ∙ ap (λ t. made g.field t) ternary in
    same

named_no_sign : (name : List ℕ) {Q : Grammar} {a c : List Word} (sign : List ℕ) → MayTake (Named name ⨟ Q) a c → Begins (IsSign sign) a → ⊥
named_no_sign name {a = a} sign m at = not_sign sign a (λ word h. ap is_sign h.0) (begins_first m) at

-- a key's first word is no sign
lval_no_sign : (depth : ℕ) (place : Lval) {a c : List Word} (sign : List ℕ) → MayTake (SpellsLval depth place) a c → Begins (IsSign sign) a → ⊥
lval_no_sign depth (lval.Header header field) sign m at = named_no_sign (codes "hdr") sign (split m).first at
lval_no_sign depth (lval.Meta name index) sign m at = named_no_sign (codes "meta") sign m at
lval_no_sign depth (lval.Std name) sign m at = named_no_sign (codes "std") sign m at

pub key_no_sign : (depth : ℕ) (key : Key) {Q : Grammar} {a c : List Word} (sign : List ℕ) → MayTake (SpellsKey depth key ⨟ Q) a c → Begins (IsSign sign) a → ⊥
key_no_sign depth key sign m at = lval_no_sign depth key.field sign (split (split m).first).first at

-- an entry begins with no closing bracket
pub entry_no_end : (depth : ℕ) (entry : PlainEntry) {Q : Grammar} {a c : List Word} → MayTake (SpellsEntry depth entry ⨟ Q) a c → Begins (IsSign (codes "}")) a → ⊥
entry_no_end depth entry {a = a} m at =
    elim (which (split (split m).first).first) [
      | inl o ↦ set_no_sign (one_set_there entry.keys o).set (codes "}") (one_set_there entry.keys o).ahead at
      | inr b ↦ (ends_sign (codes "(" ∷ []) (codes "}") a refl at).0 (begins_bracketed (codes "(") (codes ")") depth (λ _. SpellsSetList entry.keys) b)
    ]

abbrev pub an_entry : List PlainKeyset → List ℕ × List PlainExpr → PlainEntry
an_entry keys call = record { keys = keys; action = call.0; args = call.1 }

pub same_entry : {keys others : List PlainKeyset} {call other : List ℕ × List PlainExpr} → keys ≡ others → call ≡ other → an_entry keys call ≡ an_entry others other
same_entry {others = others} {call = call} keys same = ap (λ k. an_entry k call) keys ∙ ap (an_entry others) same

pub name_no_sign : (name : List ℕ) {Q : Grammar} {a c : List Word} (sign : List ℕ) → MayTake (SpellsActionName name ⨟ Q) a c → Begins (IsSign sign) a → ⊥
name_no_sign name sign m at = named_no_sign name sign (split m).first at
