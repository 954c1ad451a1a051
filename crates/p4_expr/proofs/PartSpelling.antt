-- What the spelling of a part of an expression leaves no choice of.
use Rattle.std.proofs.Common.{◌≡◌, ℕ, zero, suc, ◌<◌, ◌^◌, true, false, bytes_eq, IsTrue, List, drop, Option, Some, None, codes, refl, ap, sym, subst, ◌∙◌}
use Rattle.p4_lexer.specs.declared.token.Kind.TheVariants as kind
use Rattle.elastic_ast.specs.declared.statements.Amount.{Amount}
use Rattle.elastic_ast.specs.declared.statements.Amount.TheVariants as amount
use Rattle.elastic_ast.specs.declared.statements.Lval.{Lval}
use Rattle.elastic_ast.specs.declared.statements.Lval.TheVariants as lval
use Rattle.elastic_ast.specs.declared.statements.RegRef.{RegRef}
use Rattle.spelling.specs.Words.{Word}
use Rattle.spelling.specs.Grammar.{Named, Num, Begins, Bracketed, IsNamed, IsSign, IsNum, is_number}
use Rattle.spelling.specs.Reading.{MayTake}
use Rattle.spelling.proofs.Peeling.{begins_second}
use Rattle.spelling.proofs.Only.{begins, begins_as, begins_both, begins_bracketed, begins_first, empty_same, fact_of, of_where, other_text, split}
use Rattle.p4_expr.specs.Parts.{SpellsAmount, SpellsIndex, SpellsLval}
use Rattle.p4_expr.specs.GoesOn.{EndsIndex}

-- a number without a width is a number
pub number_there : (n : ℕ) (ws : List Word) → Begins (IsNum n) ws → Begins (λ word. IsTrue (is_number word.kind)) ws
number_there n ws b = begins_as (λ word h. let e : is_number word.kind ≡ true = ap is_number h in e) ws b

-- and a name isn't
pub name_no_number : (ws : List Word) → Begins (λ word. word.kind ≡ kind.Name) ws → Begins (λ word. IsTrue (is_number word.kind)) ws → ⊥
name_no_number ws name number =
    let b = begins_both ws name number in
    let e : is_number b.0.kind ≡ true = b.2 in
    let f : b.0.kind ≡ kind.Name = b.1 in
    cc

pub named_kind : {n : List ℕ} {a c : List Word} → MayTake (Named n) a c → Begins (λ word. word.kind ≡ kind.Name) a
named_kind {a = a} m = begins_as (λ word h. h.0) a (begins m)

pub amount_name : (of : Amount) {a c : List Word} → MayTake (SpellsAmount of) a c → (Begins (λ word. IsTrue (is_number word.kind)) a → ⊥) → (name : List ℕ) × (of ≡ amount.Named name) × MayTake (Named name) a c
amount_name (amount.Num value) {a = a} m none = absurd (none (number_there value a (begins (of_where m))))
amount_name (amount.Named name) m none = (name, refl, m)

pub amount_number : (of : Amount) {a c : List Word} → MayTake (SpellsAmount of) a c → Begins (λ word. IsTrue (is_number word.kind)) a → (value : ℕ) × (of ≡ amount.Num value) × (value < 2 ^ 32) × MayTake (Num value) a c
amount_number (amount.Num value) m at = (value, refl, fact_of m, of_where m)
amount_number (amount.Named name) {a = a} m at = absurd (name_no_number a (named_kind m) at)

index_begins : (more : ℕ) (name : List ℕ) {a c : List Word} → MayTake (Bracketed (codes "[") (codes "]") more (λ _. Named name)) a c → Begins (λ word. word.kind ≡ kind.Name) (drop 1 a)
index_begins zero name m = absurd m.spelled
index_begins (suc more) name {a = a} m = begins_as (λ word h. h.0) (drop 1 a) (begins_second a m)

-- where no bracket stands that begins an index, there is none
pub index_missing : (more : ℕ) (index : Option (List ℕ)) {a rest : List Word} → MayTake (SpellsIndex more index) a rest → EndsIndex a → (None ≡ index) × (a ≡ rest)
index_missing more None m none = (refl, empty_same m)
index_missing more (Some name) {a = a} m none = absurd (name_no_number (drop 1 a) (index_begins more name m) (none (begins_bracketed (codes "[") (codes "]") more (λ _. Named name) m)))

-- an index between its brackets
pub record Indexed (more : ℕ) (index : Option (List ℕ)) (a rest : List Word) : Type 0 where
  pub name : List ℕ
  pub is : index ≡ Some name
  pub ahead : MayTake (Bracketed (codes "[") (codes "]") more (λ _. Named name)) a rest

-- where one stands, there is an index
pub index_there : (more : ℕ) (index : Option (List ℕ)) {a rest : List Word} → MayTake (SpellsIndex more index) a rest → EndsIndex rest → Begins (IsSign (codes "[")) a → (Begins (λ word. IsTrue (is_number word.kind)) (drop 1 a) → ⊥) → Indexed more index a rest
index_there more None {a = a} m ends at none = absurd (let e = empty_same m in none (subst (λ ws. Begins (λ word. IsTrue (is_number word.kind)) (drop 1 ws)) (sym e) (ends (subst (Begins (IsSign (codes "["))) e at))))
index_there more (Some name) m ends at none = record { name = name; is = refl; ahead = m }

pub same_register : (f g : RegRef) → f.name ≡ g.name → f.index ≡ g.index → f ≡ g
same_register f g name index =
    let made : List ℕ → Option (List ℕ) → RegRef = λ n i. record { name = n; index = i } in
    let same : made f.name f.index ≡ made g.name g.index = ap (λ n. made n f.index) name ∙ ap (λ i. made g.name i) index in
    same

-- a place by its first word
pub by_place : (more : ℕ) (Answer : Lval → Type 0) (place : Lval) {a c : List Word} → MayTake (SpellsLval more place) a c → ((header field : List ℕ) → MayTake (SpellsLval more (lval.Header header field)) a c → Begins (IsNamed (codes "hdr")) a → Answer (lval.Header header field)) → ((name : List ℕ) (index : Option (List ℕ)) → MayTake (SpellsLval more (lval.Meta name index)) a c → Begins (IsNamed (codes "meta")) a → Answer (lval.Meta name index)) → ((name : List ℕ) → MayTake (SpellsLval more (lval.Std name)) a c → Begins (IsNamed (codes "std")) a → Answer (lval.Std name)) → Answer place
by_place more Answer (lval.Header header field) {a = a} m h t s = h header field m (begins_first (split m).first)
by_place more Answer (lval.Meta name index) {a = a} m h t s = t name index m (begins_first m)
by_place more Answer (lval.Std name) {a = a} m h t s = s name m (begins_first m)

-- a sign other than the opening bracket begins no index
pub ends_index : (sign : List ℕ) (ws : List Word) → bytes_eq sign (codes "[") ≡ false → Begins (IsSign sign) ws → EndsIndex ws
ends_index sign ws other at = λ bracket. absurd (other_text sign (codes "[") ws other (λ word h. h.1) (λ word h. h.1) at bracket)
