-- No table is spelled with a key property behind a key property.
use Rattle.std.proofs.Common.{◌≡◌, ◌≢◌, ℕ, List, [], ◌∷◌, AllPairs, codes, refl, ap, subst, ◌∙◌, ◌⊎◌, inl, inr, arith}
use Rattle.p4_lexer.specs.declared.token.Kind.TheVariants as kind
use Rattle.elastic_ast.specs.declared.statements.Lval.{Lval}
use Rattle.elastic_ast.specs.declared.statements.Lval.TheVariants as lval
use Rattle.elastic_ast.specs.declared.declarations.Key.{Key}
use Rattle.elastic_ast.specs.Tree.{PlainTable}
use Rattle.spelling.specs.Words.{Word}
use Rattle.spelling.specs.Grammar.{Grammar, Empty, Either, ◌⨟◌, Each, Sign, Reserved, Named, Bracketed}
use Rattle.spelling.specs.Reading.{MayTake}
use Rattle.spelling.proofs.Only.{alone, regroup, split, which}
use Rattle.spelling.proofs.Taking.{all_taken, may_both}
use Rattle.p4_expr.specs.Parts.{SpellsLval}
use Rattle.p4_tables.specs.Tables.{Property, kind_of, SpellsKey, SpellsProperty, SpellsTable}
use Rattle.p4_parser.specs.Examples.{two_empty_keys}
use Rattle.spelling.proofs.Peeling.{first_is, opened, past_none, peel, under_fact}

pub not_two : (one other : List Key) (rest : List Property) → AllPairs (λ a b. kind_of a ≢ kind_of b) (Property.Keys one ∷ Property.Keys other ∷ rest) → ⊥
not_two one other rest h = h 0 1 (Property.Keys one) (omega arith) (omega arith) refl

pub no_two_keys : (depth : ℕ) (table : PlainTable) (ws : List Word) (spelled : SpellsTable depth table ws) (one other : List Key) (rest : List Property) → spelled.properties ≡ Property.Keys one ∷ Property.Keys other ∷ rest → ⊥
no_two_keys depth table ws spelled one other rest e =
    let Apart : List Property → Type 0 = λ l. AllPairs (λ a b. kind_of a ≢ kind_of b) l in
    not_two one other rest (subst Apart e spelled.no_two)

-- after `key = { }` comes the rest of the properties
pub record AfterKeys (depth : ℕ) (Q : Grammar) (properties : List Property) (ws c : List Word) : Type 0 where
  pub later : List Property
  pub whole : properties ≡ Property.Keys [] ∷ later
  pub ahead : MayTake (Each (SpellsProperty depth) later ⨟ Q) ws c

-- no field stands at a closing bracket
no_field : (depth : ℕ) (place : Lval) {Q : Grammar} {w : Word} {ws c : List Word} → w.kind ≡ kind.Sign 1 → MayTake (SpellsLval depth place ⨟ Q) (w ∷ ws) c → ⊥
no_field depth (lval.Header header field) {w = w} k m = let e : w.kind ≡ kind.Name = (first_is (regroup (regroup m))).0 in cc
no_field depth (lval.Meta name index) {w = w} k m = let e : w.kind ≡ kind.Name = (first_is (regroup m)).0 in cc
no_field depth (lval.Std name) {w = w} k m = let e : w.kind ≡ kind.Name = (first_is (regroup m)).0 in cc

-- so there are no keys before it
no_keys : (depth : ℕ) (keys : List Key) {Q : Grammar} {w : Word} {ws c : List Word} → w.kind ≡ kind.Sign 1 → MayTake (Each (SpellsKey depth) keys ⨟ Sign (codes "}") ⨟ Q) (w ∷ ws) c → (keys ≡ []) × MayTake Q ws c
no_keys depth [] k m = (refl, peel (past_none m))
no_keys depth (key ∷ keys) k m = absurd (no_field depth key.field k (regroup (regroup m)))

no_const : {X Q : Grammar} {w : Word} {ws c : List Word} → w.piece ≡ codes "key" → MayTake (Empty ⨟ (Named (codes "default_action") ⨟ X) ⨟ Q) (w ∷ ws) c ⊎ MayTake (Reserved (codes "const") ⨟ (Named (codes "default_action") ⨟ X) ⨟ Q) (w ∷ ws) c → ⊥
no_const {w = w} p (inl m) = let e : w.piece ≡ codes "default_action" = (first_is (regroup (past_none m))).1 in cc
no_const {w = w} p (inr m) = let e : w.piece ≡ codes "const" = (first_is m).1 in cc

one_of_two : {P R Q : Grammar} {a c : List Word} → MayTake (Either P R ⨟ Q) a c → MayTake (P ⨟ Q) a c ⊎ MayTake (R ⨟ Q) a c
one_of_two {P = P} {R = R} {Q = Q} {a = a} {c = c} m =
    let s = split m in
    elim (which s.first) [ inl h ↦ inl (may_both h s.second) | inr h ↦ inr (may_both h s.second) ]

pub keys_first : (depth : ℕ) (properties : List Property) {Q : Grammar} {w equals opening closing : Word} {ws c : List Word} → w.kind ≡ kind.Name → w.piece ≡ codes "key" → closing.kind ≡ kind.Sign 1 → MayTake (Each (SpellsProperty depth) properties ⨟ Sign (codes "}") ⨟ Q) (w ∷ equals ∷ opening ∷ closing ∷ ws) c → AfterKeys depth (Sign (codes "}") ⨟ Q) properties ws c
keys_first depth [] {w = w} k p q m = let e : w.piece ≡ codes "}" = (first_is (past_none m)).1 in absurd cc
keys_first depth (Property.Keys keys ∷ later) k p q m =
    let o = opened (codes "{") (codes "}") depth (λ inner. Each (SpellsKey inner) keys) (peel (regroup (peel (regroup (regroup m))))) in
    let n = no_keys o.inner keys q (peel o.ahead) in
    record { later = later; whole = ap (λ l. Property.Keys l ∷ later) n.0; ahead = n.1 }
keys_first depth (Property.Actions names ∷ later) {w = w} k p q m = let e : w.piece ≡ codes "actions" = (first_is (regroup (regroup m))).1 in absurd cc
keys_first depth (Property.Fallback action arguments ∷ later) k p q m = absurd (no_const p (one_of_two (regroup (regroup m))))
keys_first depth (Property.Size size ∷ later) {w = w} k p q m = let e : w.piece ≡ codes "size" = (first_is (regroup (under_fact (regroup m)).1)).1 in absurd cc
keys_first depth (Property.Entries entries ∷ later) {w = w} k p q m = let e : w.piece ≡ codes "const" = (first_is (regroup (regroup m))).1 in absurd cc

pub two_keys_refused : (depth : ℕ) (table : PlainTable) → SpellsTable depth table two_empty_keys → ⊥
two_keys_refused depth table h =
    let m = peel (peel (all_taken (Reserved (codes "table") ⨟ Named table.name ⨟ Bracketed (codes "{") (codes "}") depth (λ inner. Each (SpellsProperty inner) h.properties)) h.spelled)) in
    let o = opened (codes "{") (codes "}") depth (λ inner. Each (SpellsProperty inner) h.properties) (alone m) in
    let one = keys_first o.inner h.properties refl refl refl (peel o.ahead) in
    let other = keys_first o.inner one.later refl refl refl one.ahead in
    no_two_keys depth table two_empty_keys h [] [] other.later (one.whole ∙ ap (λ l. Property.Keys [] ∷ l) other.whole)
