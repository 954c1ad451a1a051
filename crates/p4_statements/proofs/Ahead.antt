-- Words at fixed places of a statement, by which its form is told.
use Rattle.std.proofs.Common.{◌≡◌, ℕ, zero, suc, Bool, true, false, List, [], ◌∷◌, drop, Option, Some, None, codes, refl, ap, ◌⊎◌, inl, inr}
use Rattle.p4_lexer.specs.declared.token.Kind.TheVariants as kind
use Rattle.elastic_ast.specs.declared.statements.Lval.{Lval}
use Rattle.elastic_ast.specs.declared.statements.Lval.TheVariants as lval
use Rattle.elastic_ast.specs.declared.statements.RegRef.{RegRef}
use Rattle.elastic_ast.specs.Tree.{Name, PlainExpr, PlainStmt}
use Rattle.spelling.specs.Words.{Word}
use Rattle.spelling.specs.Grammar.{Grammar, ◌⨟◌, Named, Sign, Begins, IsNamed, IsSign, Bracketed, is_sign}
use Rattle.spelling.specs.Reading.{MayTake}
use Rattle.spelling.proofs.Only.{begins_as, begins_bracketed, begins_first, behind_first, no_sign, not_sign, other_text, regroup, split}
use Rattle.spelling.proofs.Peeling.{past_none}
use Rattle.p4_expr.specs.Parts.{SpellsIndex, SpellsLval}
use Rattle.p4_expr.specs.Expressions.{SpellsExpr}
use Rattle.p4_statements.specs.Statements.{SpellsApply, SpellsCall, SpellsPlain, SpellsValidity}
use Rattle.p4_statements.specs.Reading.{IsReadAhead, SpellsReadOf, SpellsSimple}

-- so many words on, counted behind the first
pub later_word : (P : List Word → Type 0) (n : ℕ) (a : List Word) → P (drop n (drop 1 a)) → P (drop (suc n) a)
later_word P zero [] h = h
later_word P (suc n) [] h = h
later_word P n (w ∷ a) h = h

pub earlier_word : (P : List Word → Type 0) (n : ℕ) (a : List Word) → P (drop (suc n) a) → P (drop n (drop 1 a))
earlier_word P zero [] h = h
earlier_word P (suc n) [] h = h
earlier_word P n (w ∷ a) h = h

pub at_second : (P : List Word → Type 0) (a : List Word) → P (drop 1 (drop 1 a)) → P (drop 2 a)
at_second P a h = later_word P 1 a h

pub at_third : (P : List Word → Type 0) (a : List Word) → P (drop 1 (drop 1 (drop 1 a))) → P (drop 3 a)
at_third P a h = later_word P 2 a (at_second P (drop 1 a) h)

at_fourth : (P : List Word → Type 0) (a : List Word) → P (drop 1 (drop 1 (drop 1 (drop 1 a)))) → P (drop 4 a)
at_fourth P a h = later_word P 3 a (at_third P (drop 1 a) h)

at_fifth : (P : List Word → Type 0) (a : List Word) → P (drop 1 (drop 1 (drop 1 (drop 1 (drop 1 a))))) → P (drop 5 a)
at_fifth P a h = later_word P 4 a (at_fourth P (drop 1 a) h)

-- the words up to the sign behind a place that is assigned to
pub record PlaceAhead (a : List Word) : Type 0 where
  pub dot : Begins (IsSign (codes ".")) (drop 1 a)
  pub third : (Begins (IsSign (codes ".")) (drop 3 a) × Begins (IsSign (codes "=")) (drop 5 a)) ⊎ Begins (IsSign (codes "=")) (drop 3 a) ⊎ Begins (IsSign (codes "[")) (drop 3 a)

pub place_ahead : (more : ℕ) (to : Lval) {Q : Grammar} {a c : List Word} → MayTake (SpellsLval more to ⨟ Sign (codes "=") ⨟ Q) a c → PlaceAhead a
place_ahead more (lval.Header header field) {a = a} m =
    let m0 = regroup (regroup m) in
    let m1 = behind_first m0 in
    let m2 = behind_first (regroup m1) in
    let m3 = behind_first m2 in
    let m4 = behind_first (regroup m3) in
    let m5 = behind_first m4 in
    record {
      dot = begins_first (regroup m1);
      third = inl (at_third (Begins (IsSign (codes "."))) a (begins_first (regroup m3)), at_fifth (Begins (IsSign (codes "="))) a (begins_first m5));
    }
place_ahead more (lval.Meta name None) {a = a} m =
    let m1 = behind_first (regroup m) in
    let m2 = behind_first (regroup m1) in
    let m3 = past_none (behind_first (regroup m2)) in
    record { dot = begins_first (regroup m1); third = inr (inl (at_third (Begins (IsSign (codes "="))) a (begins_first m3))) }
place_ahead more (lval.Meta name (Some index)) {a = a} m =
    let m1 = behind_first (regroup m) in
    let m2 = behind_first (regroup m1) in
    let m3 = behind_first (regroup m2) in
    record { dot = begins_first (regroup m1); third = inr (inr (at_third (Begins (IsSign (codes "["))) a (begins_bracketed (codes "[") (codes "]") more (λ _. Named index) (split m3).first))) }
place_ahead more (lval.Std name) {a = a} m =
    let m1 = behind_first (regroup m) in
    let m2 = behind_first (regroup m1) in
    let m3 = behind_first m2 in
    record { dot = begins_first (regroup m1); third = inr (inl (at_third (Begins (IsSign (codes "="))) a (begins_first m3))) }

pub place_no_index : {a : List Word} → PlaceAhead a → Begins (IsSign (codes "[")) (drop 1 a) → ⊥
place_no_index {a = a} p at = no_sign (codes ".") (codes "[") (drop 1 a) refl p.dot at

pub place_no_call : {a : List Word} → PlaceAhead a → Begins (IsSign (codes "(")) (drop 3 a) → ⊥
place_no_call {a = a} p at =
    elim p.third [
      | inl h ↦ no_sign (codes ".") (codes "(") (drop 3 a) refl h.0 at
      | inr h ↦ elim h [ inl e ↦ no_sign (codes "=") (codes "(") (drop 3 a) refl e at | inr b ↦ no_sign (codes "[") (codes "(") (drop 3 a) refl b at ]
    ]

pub place_no_validity : {a : List Word} → PlaceAhead a → Begins (IsSign (codes ".")) (drop 3 a) → Begins (IsSign (codes "(")) (drop 5 a) → ⊥
place_no_validity {a = a} p dot at =
    elim p.third [
      | inl h ↦ no_sign (codes "=") (codes "(") (drop 5 a) refl h.1 at
      | inr h ↦ elim h [ inl e ↦ no_sign (codes "=") (codes ".") (drop 3 a) refl e dot | inr b ↦ no_sign (codes "[") (codes ".") (drop 3 a) refl b dot ]
    ]

-- the words up to the bracket behind a change of validity
pub record ValidityAhead (a : List Word) : Type 0 where
  pub dot : Begins (IsSign (codes ".")) (drop 1 a)
  pub third : Begins (IsSign (codes ".")) (drop 3 a)
  pub call : Begins (IsSign (codes "(")) (drop 5 a)

validity_word : (on : Bool) {Q : Grammar} {a c : List Word} → MayTake (SpellsValidity on ⨟ Q) a c → MayTake Q (drop 1 a) c
validity_word true m = behind_first m
validity_word false m = behind_first m

pub validity_ahead : (more : ℕ) (header : Name) (on : Bool) {a c : List Word} → MayTake (SpellsPlain more (PlainStmt.Valid header on)) a c → ValidityAhead a
validity_ahead more header on {a = a} m =
    let m1 = behind_first (regroup m) in
    let m2 = behind_first (regroup m1) in
    let m3 = behind_first m2 in
    let m4 = behind_first m3 in
    let m5 = validity_word on m4 in
    record {
      dot = begins_first (regroup m1);
      third = at_third (Begins (IsSign (codes "."))) a (begins_first m3);
      call = at_fifth (Begins (IsSign (codes "("))) a (begins_bracketed (codes "(") (codes ")") more _ (split m5).first);
    }

pub validity_no_index : {a : List Word} → ValidityAhead a → Begins (IsSign (codes "[")) (drop 1 a) → ⊥
validity_no_index {a = a} p at = no_sign (codes ".") (codes "[") (drop 1 a) refl p.dot at

pub validity_no_call : {a : List Word} → ValidityAhead a → Begins (IsSign (codes "(")) (drop 3 a) → ⊥
validity_no_call {a = a} p at = no_sign (codes ".") (codes "(") (drop 3 a) refl p.third at

-- a plain statement by its form
pub by_plain : (more : ℕ) (Answer : PlainStmt → Type 0) (stmt : PlainStmt) {a c : List Word} → MayTake (SpellsPlain more stmt) a c → ((to : Lval) (value : PlainExpr) → MayTake (SpellsLval more to ⨟ Sign (codes "=") ⨟ SpellsExpr more value ⨟ Sign (codes ";")) a c → Answer (PlainStmt.Assign to value)) → ((to : Lval) (register : RegRef) (cell : PlainExpr) → MayTake (SpellsLval more to ⨟ Sign (codes "=") ⨟ SpellsReadOf more register cell) a c → Answer (PlainStmt.Read to register cell)) → ((register : RegRef) (cell value : PlainExpr) → MayTake (SpellsPlain more (PlainStmt.Write register cell value)) a c → Answer (PlainStmt.Write register cell value)) → ((header : Name) (on : Bool) → MayTake (SpellsPlain more (PlainStmt.Valid header on)) a c → Answer (PlainStmt.Valid header on)) → Answer stmt
by_plain more Answer (PlainStmt.Assign to value) m f g h k = f to value m
by_plain more Answer (PlainStmt.Read to register cell) m f g h k = g to register cell m
by_plain more Answer (PlainStmt.Write register cell value) m f g h k = h register cell value m
by_plain more Answer (PlainStmt.Valid header on) m f g h k = k header on m
by_plain more Answer _ m f g h k = absurd m.spelled

index_first : (more : ℕ) (index : Name) {Q : Grammar} {b c : List Word} → MayTake (Bracketed (codes "[") (codes "]") more (λ _. Named index) ⨟ Q) b c → Begins (IsSign (codes "[")) b × Begins (λ word. word.kind ≡ kind.Name) (drop 1 b)
index_first zero index m = absurd (split m).first.spelled
index_first (suc more) index {b = b} m =
    let s = (split m).first in
    (begins_first s, begins_as (λ word h. h.0) (drop 1 b) (begins_first (behind_first s)))

-- what follows a register's name where one of its calls is made
pub call_ahead : (more : ℕ) (of : Name) (index : Option Name) (Between : ℕ → Grammar) {Q : Grammar} {b c : List Word} → MayTake (SpellsIndex more index ⨟ Sign (codes ".") ⨟ Named of ⨟ Bracketed (codes "(") (codes ")") more Between ⨟ Q) b c → (Begins (IsSign (codes "[")) b × Begins (λ word. word.kind ≡ kind.Name) (drop 1 b)) ⊎ (Begins (IsSign (codes ".")) b × Begins (IsNamed of) (drop 1 b) × Begins (IsSign (codes "(")) (drop 1 (drop 1 b)))
call_ahead more of None Between m =
    let m1 = past_none m in
    let m2 = behind_first m1 in
    let m3 = behind_first m2 in
    inr (begins_first m1, begins_first m2, begins_bracketed (codes "(") (codes ")") more Between (split m3).first)
call_ahead more of (Some index) Between m = inl (index_first more index m)

-- so a write is told by its second or its fourth word
pub write_ahead : (more : ℕ) (register : RegRef) (cell value : PlainExpr) {a c : List Word} → MayTake (SpellsPlain more (PlainStmt.Write register cell value)) a c → Begins (IsSign (codes "[")) (drop 1 a) ⊎ Begins (IsSign (codes "(")) (drop 3 a)
write_ahead more register cell value {a = a} m =
    elim (call_ahead more (codes "write") register.index _ (behind_first (regroup m))) [
      | inl h ↦ inl h.0
      | inr h ↦ inr (at_third (Begins (IsSign (codes "("))) a h.2)
    ]

-- and a read by its first words
pub read_ahead : (more : ℕ) (register : RegRef) (cell : PlainExpr) {a c : List Word} → MayTake (SpellsReadOf more register cell) a c → IsReadAhead a
read_ahead more register cell {a = a} m =
    let first = begins_as (λ word h. h.0) a (begins_first (regroup m)) in
    elim (call_ahead more (codes "read") register.index _ (behind_first (regroup m))) [
      | inl h ↦ (first, inl (h.0, at_second (Begins (λ word. word.kind ≡ kind.Name)) a h.1))
      | inr h ↦ (first, inr (h.0, at_second (Begins (IsNamed (codes "read"))) a h.1, at_third (Begins (IsSign (codes "("))) a h.2))
    ]

pub no_write : (more : ℕ) (register : RegRef) (cell value : PlainExpr) {a c : List Word} → MayTake (SpellsPlain more (PlainStmt.Write register cell value)) a c → (Begins (IsSign (codes "[")) (drop 1 a) → ⊥) → (Begins (IsSign (codes "(")) (drop 3 a) → ⊥) → ⊥
no_write more register cell value m no_index no_call = elim (write_ahead more register cell value m) [ inl h ↦ no_index h | inr h ↦ no_call h ]

pub reads_on : (a : List Word) → IsReadAhead a → (Begins (IsSign (codes "[")) (drop 1 a) → Begins (λ word. word.kind ≡ kind.Name) (drop 2 a) → ⊥) → (Begins (IsSign (codes ".")) (drop 1 a) → Begins (IsNamed (codes "read")) (drop 2 a) → Begins (IsSign (codes "(")) (drop 3 a) → ⊥) → ⊥
reads_on a r no_index no_call = elim r.1 [ inl h ↦ no_index h.0 h.1 | inr h ↦ no_call h.0 h.1 h.2 ]

place_first : (more : ℕ) (to : Lval) {Q : Grammar} {a c : List Word} → MayTake (SpellsLval more to ⨟ Q) a c → Begins (λ word. word.kind ≡ kind.Name) a
place_first more (lval.Header header field) {a = a} m = begins_as (λ word h. h.0) a (begins_first (regroup (regroup m)))
place_first more (lval.Meta name index) {a = a} m = begins_as (λ word h. h.0) a (begins_first (regroup m))
place_first more (lval.Std name) {a = a} m = begins_as (λ word h. h.0) a (begins_first (regroup m))

-- a plain statement begins with a name
pub plain_first : (more : ℕ) (stmt : PlainStmt) {Q : Grammar} {a c : List Word} → MayTake (SpellsPlain more stmt ⨟ Q) a c → Begins (λ word. word.kind ≡ kind.Name) a
plain_first more stmt {a = a} m =
    by_plain more (λ _. Begins (λ word. word.kind ≡ kind.Name) a) stmt (split m).first
    (λ to value f. place_first more to f)
    (λ to register cell f. place_first more to f)
    (λ register cell value f. begins_as (λ word h. h.0) a (begins_first (regroup f)))
    (λ header on f. begins_as (λ word h. h.0) a (begins_first (regroup f)))

pub plain_no_sign : (more : ℕ) (stmt : PlainStmt) (sign : List ℕ) {Q : Grammar} {a c : List Word} → MayTake (SpellsPlain more stmt ⨟ Q) a c → Begins (IsSign sign) a → ⊥
plain_no_sign more stmt sign {a = a} m at = not_sign sign a (λ word h. ap is_sign h) (plain_first more stmt m) at

index_words : (more : ℕ) (index : Name) {Q : Grammar} {b c : List Word} → MayTake (Bracketed (codes "[") (codes "]") more (λ _. Named index) ⨟ Q) b c → Begins (IsSign (codes "[")) b × Begins (IsSign (codes "]")) (drop 1 (drop 1 b)) × MayTake Q (drop 1 (drop 1 (drop 1 b))) c
index_words zero index m = absurd (split m).first.spelled
index_words (suc more) index m =
    let m0 = regroup m in
    let m2 = behind_first (regroup (behind_first m0)) in
    (begins_first m0, begins_first m2, behind_first m2)

-- where a name's call follows, perhaps behind an index
pub record CallWords (a : List Word) : Type 0 where
  pub told : Begins (IsSign (codes "(")) (drop 1 a) ⊎ (Begins (IsSign (codes "[")) (drop 1 a) × Begins (IsSign (codes "(")) (drop 4 a))

call_of : (more : ℕ) (index : Option Name) (Between : ℕ → Grammar) {Q : Grammar} {a c : List Word} → MayTake (SpellsIndex more index ⨟ Bracketed (codes "(") (codes ")") more Between ⨟ Q) (drop 1 a) c → CallWords a
call_of more None Between m = record { told = inl (begins_bracketed (codes "(") (codes ")") more Between (split (past_none m)).first) }
call_of more (Some index) Between {a = a} m =
    let w = index_words more index m in
    record { told = inr (w.0, at_fourth (Begins (IsSign (codes "("))) a (begins_bracketed (codes "(") (codes ")") more Between (split w.2).first)) }

pub call_words : (more : ℕ) (action : Name) (index : Option Name) (args : List PlainExpr) {a c : List Word} → MayTake (SpellsCall more action index args) a c → CallWords a
call_words more action index args m = call_of more index _ (behind_first m)

-- the words of a write
write_of : (more : ℕ) (index : Option Name) {Q : Grammar} (a : List Word) {c : List Word} → MayTake (SpellsIndex more index ⨟ Sign (codes ".") ⨟ Named (codes "write") ⨟ Q) (drop 1 a) c → (Begins (IsSign (codes ".")) (drop 1 a) × Begins (IsNamed (codes "write")) (drop 2 a)) ⊎ (Begins (IsSign (codes "[")) (drop 1 a) × Begins (IsSign (codes "]")) (drop 3 a) × Begins (IsSign (codes ".")) (drop 4 a))
write_of more None a m =
    let m1 = past_none m in
    inl (begins_first m1, at_second (Begins (IsNamed (codes "write"))) a (begins_first (behind_first m1)))
write_of more (Some index) a m =
    let w = index_words more index m in
    inr (w.0, at_third (Begins (IsSign (codes "]"))) a w.1, at_fourth (Begins (IsSign (codes "."))) a (begins_first w.2))

-- no plain statement is a call, nor an application
pub record NoCall (a : List Word) : Type 0 where
  pub plain : Begins (IsSign (codes "(")) (drop 1 a) → ⊥
  pub index : Begins (IsSign (codes "[")) (drop 1 a) → Begins (IsSign (codes "(")) (drop 4 a) → ⊥
  pub apply : Begins (IsNamed (codes "apply")) (drop 2 a) → Begins (IsSign (codes "(")) (drop 3 a) → ⊥

place_none : {a : List Word} → PlaceAhead a → NoCall a
place_none {a = a} p =
    record {
      plain = no_sign (codes ".") (codes "(") (drop 1 a) refl p.dot;
      index = λ at _. place_no_index p at;
      apply = λ _ at. place_no_call p at;
    }

write_none : (a : List Word) → (Begins (IsSign (codes ".")) (drop 1 a) × Begins (IsNamed (codes "write")) (drop 2 a)) ⊎ (Begins (IsSign (codes "[")) (drop 1 a) × Begins (IsSign (codes "]")) (drop 3 a) × Begins (IsSign (codes ".")) (drop 4 a)) → NoCall a
write_none a (inl h) =
    record {
      plain = no_sign (codes ".") (codes "(") (drop 1 a) refl h.0;
      index = λ at _. no_sign (codes ".") (codes "[") (drop 1 a) refl h.0 at;
      apply = λ at _. other_text (codes "write") (codes "apply") (drop 2 a) refl (λ word h. h.1) (λ word h. h.1) h.1 at;
    }
write_none a (inr h) =
    record {
      plain = no_sign (codes "[") (codes "(") (drop 1 a) refl h.0;
      index = λ _ at. no_sign (codes ".") (codes "(") (drop 4 a) refl h.2 at;
      apply = λ _ at. no_sign (codes "]") (codes "(") (drop 3 a) refl h.1 at;
    }

validity_none : {a : List Word} → ValidityAhead a → NoCall a
validity_none {a = a} v =
    record {
      plain = no_sign (codes ".") (codes "(") (drop 1 a) refl v.dot;
      index = λ at _. validity_no_index v at;
      apply = λ _ at. validity_no_call v at;
    }

pub plain_none : (more : ℕ) (stmt : PlainStmt) {a c : List Word} → MayTake (SpellsPlain more stmt) a c → NoCall a
plain_none more stmt {a = a} m =
    by_plain more (λ _. NoCall a) stmt m
    (λ to value f. place_none (place_ahead more to f))
    (λ to register cell f. place_none (place_ahead more to f))
    (λ register cell value f. write_none a (write_of more register.index a (behind_first (regroup f))))
    (λ header on f. validity_none (validity_ahead more header on f))

-- nor is an application a call
pub apply_words : (more : ℕ) (table : Name) {a c : List Word} → MayTake (SpellsApply more table) a c → Begins (IsSign (codes ".")) (drop 1 a) × Begins (IsNamed (codes "apply")) (drop 2 a) × Begins (IsSign (codes "(")) (drop 3 a)
apply_words more table {a = a} m =
    let m1 = behind_first m in
    let m2 = behind_first m1 in
    let m3 = behind_first m2 in
    (begins_first m1, at_second (Begins (IsNamed (codes "apply"))) a (begins_first m2), at_third (Begins (IsSign (codes "("))) a (begins_bracketed (codes "(") (codes ")") more _ (split m3).first))

-- by its form
pub by_simple : (more : ℕ) (Answer : PlainStmt → Type 0) (stmt : PlainStmt) {a c : List Word} → MayTake (SpellsSimple more stmt) a c → ((action : Name) (index : Option Name) (args : List PlainExpr) → MayTake (SpellsCall more action index args) a c → Answer (PlainStmt.Call action index args)) → ((table : Name) → MayTake (SpellsApply more table) a c → Answer (PlainStmt.Apply table)) → ((plain : PlainStmt) → MayTake (SpellsPlain more plain) a c → Answer plain) → Answer stmt
by_simple more Answer (PlainStmt.Call action index args) m f g h = f action index args m
by_simple more Answer (PlainStmt.Apply table) m f g h = g table m
by_simple more Answer stmt m f g h = h stmt m

pub plain_simple : (depth : ℕ) (stmt : PlainStmt) (ws : List Word) → SpellsPlain depth stmt ws → SpellsSimple depth stmt ws
plain_simple depth (PlainStmt.Call action index args) ws h = absurd h
plain_simple depth (PlainStmt.Apply table) ws h = absurd h
plain_simple depth _ ws h = h
