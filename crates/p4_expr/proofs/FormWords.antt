-- The first words of each form of primary expressions.
use Rattle.std.proofs.Common.{◌≡◌, ℕ, ◌+◌, true, false, List, Option, [], ◌∷◌, codes, drop, refl, sym, ap, subst, ◌∙◌, bytes_eq, ◌⊎◌, inl, inr, IsTrue}
use Rattle.std.proofs.lemmas.List.{drop-drop}
use Rattle.std.proofs.lemmas.Bool.{false≢true}
use Rattle.p4_lexer.specs.declared.token.Kind.{Kind}
use Rattle.p4_lexer.specs.declared.token.Kind.TheVariants as kind
use Rattle.elastic_ast.specs.declared.statements.Lval.{Lval}
use Rattle.elastic_ast.specs.declared.statements.Lval.TheVariants as lval
use Rattle.elastic_ast.specs.Tree.{PlainExpr}
use Rattle.spelling.specs.Words.{Word}
use Rattle.spelling.specs.Grammar.{Grammar, ◌⨟◌, One, IsSign, IsNamed, IsReserved, Begins, IsAnyNumber, is_number, is_reserved, is_sign}
use Rattle.spelling.specs.Reading.{MayTake}
use Rattle.spelling.proofs.Only.{alone, begins, begins_bracketed, begins_first, behind_first, empty_same, not_sign, of_where, other_text, regroup}
use Rattle.p4_expr.proofs.PartSpelling.{name_no_number}
use Rattle.p4_expr.specs.Parts.{SpellsHeader, SpellsLval, SpellsIsValid}
use Rattle.p4_expr.specs.Bases.{SpellsOwn, form_of}
use Rattle.p4_expr.specs.Expressions.{SpellsExpr}
use Rattle.p4_expr.specs.FormsAhead.{TellsForm, Told}
use Rattle.p4_expr.specs.Readings.{BeginsName, BeginsTest}
use Rattle.p4_expr.specs.Standing.{EndsBase, StandsTest, StandsHash}
use Rattle.p4_expr.specs.declared.forms.Form.{Form}
use Rattle.p4_expr.specs.declared.forms.Form.TheVariants as form

-- and what follows the next
pub behind_next : {F : Word → Type 0} {Q : Grammar} (n : ℕ) (a : List Word) {c : List Word} → MayTake (One F ⨟ Q) (drop n a) c → MayTake Q (drop (n + 1) a) c
behind_next {Q = Q} n a {c = c} m = subst (λ ws. MayTake Q ws c) (drop-drop 1 n a) (behind_first m)

-- the words of a header
pub record HeaderWords (Q : Grammar) (a c : List Word) : Type 0 where
  pub header : Begins (IsNamed (codes "hdr")) a
  pub dot : Begins (IsSign (codes ".")) (drop 1 a)
  pub behind : MayTake Q (drop 3 a) c

pub header_words : (name : List ℕ) (Q : Grammar) (a c : List Word) → MayTake (SpellsHeader name ⨟ Q) a c → HeaderWords Q a c
header_words name Q a c m =
    let m0 = regroup m in
    let m1 = regroup (behind_first m0) in
    record { header = begins_first m0; dot = begins_first m1; behind = behind_next 2 a (behind_next 1 a m1) }

-- the words of a test of a header
pub test_words : (depth : ℕ) (name : List ℕ) (a c : List Word) → MayTake (SpellsIsValid depth name) a c → Begins (IsNamed (codes "hdr")) a × Begins (IsSign (codes ".")) (drop 1 a) × StandsTest a
test_words depth name a c m =
    let w = header_words name _ a c m in
    let m4 = behind_next 3 a w.behind in
    (w.header, w.dot, (begins_first w.behind, begins_first m4, begins_bracketed _ _ depth _ (behind_next 4 a m4)))

-- no word has two texts
pub two_names : (s t : List ℕ) (ws : List Word) → bytes_eq s t ≡ false → Begins (IsNamed s) ws → Begins (IsNamed t) ws → ⊥
two_names s t ws differ b d = other_text s t ws differ (λ word h. h.1) (λ word h. h.1) b d

-- the words of a place
pub record LvalWords (a c : List Word) : Type 0 where
  pub first : Begins (IsNamed (codes "hdr")) a ⊎ Begins (IsNamed (codes "meta")) a ⊎ Begins (IsNamed (codes "std")) a
  pub dot : Begins (IsSign (codes ".")) (drop 1 a)
  pub test : Begins (IsNamed (codes "hdr")) a → StandsTest a → Begins (IsSign (codes "(")) c

pub lval_words : (depth : ℕ) (l : Lval) (a c : List Word) → MayTake (SpellsLval depth l) a c → LvalWords a c
lval_words depth (lval.Header header field) a c m =
    let w = header_words header _ a c m in
    let m4 = behind_next 3 a w.behind in
    let end : drop 5 a ≡ c = empty_same (behind_next 4 a (alone m4)) in
    record { first = inl w.header; dot = w.dot; test = λ h t. subst (Begins (IsSign (codes "("))) end t.2 }
lval_words depth (lval.Meta name index) a c m =
    record { first = inr (inl (begins_first m)); dot = begins_first (behind_first m); test = λ h t. absurd (two_names (codes "meta") (codes "hdr") a refl (begins_first m) h) }
lval_words depth (lval.Std name) a c m =
    record { first = inr (inr (begins_first m)); dot = begins_first (behind_first m); test = λ h t. absurd (two_names (codes "std") (codes "hdr") a refl (begins_first m) h) }

pub begins_name : (n : List ℕ) (a : List Word) → Begins (IsNamed n) a → Begins (λ word. word.kind ≡ kind.Name) a
begins_name n [] b = b
begins_name n (word ∷ ws) b = b.0

lval_name : (a c : List Word) → LvalWords a c → Begins (λ word. word.kind ≡ kind.Name) a
lval_name a c w = elim w.first [ inl h ↦ begins_name _ a h | inr (inl h) ↦ begins_name _ a h | inr (inr h) ↦ begins_name _ a h ]

number_there : (width : Option ℕ) (value : ℕ) (a : List Word) → Begins (λ word. word.kind ≡ kind.Number width value) a → Begins (λ word. IsTrue (is_number word.kind)) a
number_there width value [] b = b
number_there width value (word ∷ ws) b = ap is_number b

name_no_word : (t : List ℕ) (a : List Word) → Begins (IsReserved t) a → Begins (λ word. word.kind ≡ kind.Name) a → ⊥
name_no_word t [] b n = b
name_no_word t (word ∷ ws) b n = let e : is_reserved word.kind ≡ false = ap is_reserved n in let h = b.0 in cc

-- by the first word of what is spelled by words of its own
pub own_first : (R : Form → Type 0) (depth : ℕ) (e : PlainExpr) {a c : List Word} → MayTake (SpellsOwn depth e) a c → (Begins (λ word. IsTrue (is_number word.kind)) a → R form.Number) → (Begins (IsReserved (codes "true")) a ⊎ Begins (IsReserved (codes "false")) a → R form.Truth) → (Begins (λ word. word.kind ≡ kind.Name) a → R (form_of e)) → R (form_of e)
own_first R depth (PlainExpr.Num width value) {a = a} m number truth name = number (number_there _ _ a (begins (of_where m)))
own_first R depth (PlainExpr.Truth true) m number truth name = truth (inl (begins m))
own_first R depth (PlainExpr.Truth false) m number truth name = truth (inr (begins m))
own_first R depth (PlainExpr.Named n) {a = a} m number truth name = name (begins_name _ a (begins m))
own_first R depth (PlainExpr.At l) {a = a} {c = c} m number truth name = name (lval_name a c (lval_words depth l a c m))
own_first R depth (PlainExpr.IsValid header) {a = a} {c = c} m number truth name = name (begins_name _ a (test_words depth header a c m).0)
own_first R depth (PlainExpr.Hash k of modulus) {a = a} m number truth name = name (begins_name _ a (begins_first m))
own_first R depth _ m number truth name = absurd m.spelled

-- by the form of what begins with a name
pub by_name : (R : Form → Type 0) (depth : ℕ) (e : PlainExpr) {a c : List Word} → MayTake (SpellsOwn depth e) a c → Begins (λ word. word.kind ≡ kind.Name) a → (drop 1 a ≡ c → R form.Name) → (LvalWords a c → R form.Place) → (Begins (IsNamed (codes "hdr")) a × Begins (IsSign (codes ".")) (drop 1 a) × StandsTest a → R form.Validity) → (StandsHash a → R form.Hash) → R (form_of e)
by_name R depth (PlainExpr.Num width value) {a = a} m b name place test hash = absurd (name_no_number a b (number_there _ _ a (begins (of_where m))))
by_name R depth (PlainExpr.Truth true) {a = a} m b name place test hash = absurd (name_no_word _ a (begins m) b)
by_name R depth (PlainExpr.Truth false) {a = a} m b name place test hash = absurd (name_no_word _ a (begins m) b)
by_name R depth (PlainExpr.Named n) m b name place test hash = name (empty_same (behind_first (alone m)))
by_name R depth (PlainExpr.At l) {a = a} {c = c} m b name place test hash = place (lval_words depth l a c m)
by_name R depth (PlainExpr.IsValid header) {a = a} {c = c} m b name place test hash = test (test_words depth header a c m)
by_name R depth (PlainExpr.Hash k of modulus) m b name place test hash = hash (begins_first m, begins_bracketed _ _ depth _ (behind_first m))
by_name R depth _ m b name place test hash = absurd m.spelled

pub name_no_sign : (t : List ℕ) (a : List Word) → Begins (λ word. word.kind ≡ kind.Name) a → Begins (IsSign t) a → ⊥
name_no_sign t a b s = not_sign t a (λ word h. ap is_sign h) b s

pub number_sort : (k : Kind) → IsTrue (is_number k) → (is_sign k ≡ false) × (is_reserved k ≡ false)
number_sort (kind.Number width value) h = (refl, refl)
number_sort _ h = absurd (false≢true h)

pub number_no_sign : (t : List ℕ) (a : List Word) → Begins (λ word. IsTrue (is_number word.kind)) a → Begins (IsSign t) a → ⊥
number_no_sign t a b s = not_sign t a (λ word h. (number_sort word.kind h).0) b s

pub number_no_word : (t : List ℕ) (a : List Word) → Begins (λ word. IsTrue (is_number word.kind)) a → Begins (IsReserved t) a → ⊥
number_no_word t [] b r = b
number_no_word t (word ∷ ws) b r = false≢true (sym (number_sort word.kind b).1 ∙ r.0)

told_same : (told spelled : Form) (rest : List Word) → told ≡ spelled → Told told spelled rest
told_same form.Place spelled rest is = inl is
told_same form.Validity spelled rest is = inl is
told_same form.Hash spelled rest is = inl is
told_same _ spelled rest is = is

-- where nothing goes on behind what is spelled, it is of the form that is told
pub told_whole : (told spelled : Form) (rest : List Word) → Told told spelled rest → EndsBase rest → told ≡ spelled
told_whole form.Place spelled rest t ends = elim t [ inl is ↦ is | inr n ↦ absurd (ends.place n.1) ]
told_whole form.Validity spelled rest t ends = elim t [ inl is ↦ is | inr (inl n) ↦ absurd (ends.place n.1) | inr (inr p) ↦ absurd (ends.call p.1) ]
told_whole form.Hash spelled rest t ends = elim t [ inl is ↦ is | inr n ↦ absurd (ends.call n.1) ]
told_whole _ spelled rest t ends = t

tells : (told : Form) {ws : List Word} → ((depth : ℕ) (e : PlainExpr) (rest : List Word) → MayTake (SpellsOwn depth e) ws rest → Told told (form_of e) rest) → (Begins (IsSign (codes "(")) ws → told ≡ form.Bracketed) → (told ≡ form.Hash → StandsHash ws) → (told ≡ form.Validity → BeginsTest ws) → TellsForm ws told
tells told own bracket hash test =
    record {
      told = own;
      bracketed = λ depth e rest m. bracket (begins_bracketed (codes "(") (codes ")") depth (λ inner. SpellsExpr inner e) m);
      hash = hash;
      test = test;
    }

-- the form of words that begin with a name
pub named_form : (told : Form) {ws : List Word} → BeginsName ws → ((rest : List Word) → drop 1 ws ≡ rest → Told told form.Name rest) → ((rest : List Word) → LvalWords ws rest → Told told form.Place rest) → ((rest : List Word) → Begins (IsNamed (codes "hdr")) ws × Begins (IsSign (codes ".")) (drop 1 ws) × StandsTest ws → Told told form.Validity rest) → ((rest : List Word) → StandsHash ws → Told told form.Hash rest) → (told ≡ form.Hash → StandsHash ws) → (told ≡ form.Validity → BeginsTest ws) → TellsForm ws told
named_form told {ws = ws} b name place test hash =
    tells told (λ depth e rest m. by_name (λ f. Told told f rest) depth e m b (name rest) (place rest) (test rest) (hash rest)) (λ s. absurd (name_no_sign (codes "(") ws b s))

-- that of a place with a dot behind its first word
pub place_form : {ws : List Word} → BeginsName ws → Begins (IsSign (codes ".")) (drop 1 ws) → (StandsHash ws → ⊥) → (Begins (IsNamed (codes "hdr")) ws → StandsTest ws → ⊥) → TellsForm ws form.Place
place_form b dot no_hash no_test =
    named_form form.Place b
    (λ rest end. inr (refl, subst (Begins (IsSign (codes "."))) end dot))
    (λ rest w. inl refl)
    (λ rest w. absurd (no_test w.0 w.2))
    (λ rest h. absurd (no_hash h))
    (λ h. absurd cc)
    (λ t. absurd cc)

-- and that of words that don't
pub unnamed_form : (told : Form) {ws : List Word} → (BeginsName ws → ⊥) → (Begins IsAnyNumber ws → told ≡ form.Number) → (Begins (IsReserved (codes "true")) ws ⊎ Begins (IsReserved (codes "false")) ws → told ≡ form.Truth) → (Begins (IsSign (codes "(")) ws → told ≡ form.Bracketed) → (told ≡ form.Hash → ⊥) → (told ≡ form.Validity → ⊥) → TellsForm ws told
unnamed_form told none number truth bracket no_hash no_test =
    tells told
    (λ depth e rest m. told_same told (form_of e) rest (own_first (λ f. told ≡ f) depth e m number truth (λ b. absurd (none b))))
    bracket
    (λ h. absurd (no_hash h))
    (λ t. absurd (no_test t))

pub truth_form : {ws : List Word} → (BeginsName ws → ⊥) → (Begins IsAnyNumber ws → ⊥) → (Begins (IsSign (codes "(")) ws → ⊥) → TellsForm ws form.Truth
truth_form none no_number no_bracket =
    unnamed_form form.Truth none (λ b. absurd (no_number b)) (λ w. refl) (λ b. absurd (no_bracket b)) (λ h. cc) (λ t. cc)
