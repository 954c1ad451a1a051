-- Readers of one form of what has words of its own.
use Rattle.std.proofs.Common.{◌≡◌, ℕ, ◌+◌, ◌≤◌, List, length, Ok, Result, ap, arith, codes, inl, inr, refl, subst, sym, ◌∙◌}
use Rattle.std.specs.Result.{IsErrAnd}
use Rattle.elastic_ast.specs.declared.statements.Expr.{Expr}
use Rattle.elastic_ast.specs.declared.statements.Lval.{Lval}
use Rattle.elastic_ast.specs.declared.statements.Lval.TheVariants as lval
use Rattle.elastic_ast.specs.Seen.{seen_expr}
use Rattle.elastic_ast.specs.Tree.{PlainExpr}
use Rattle.spelling.specs.Words.{Word}
use Rattle.spelling.specs.Grammar.{Grammar}
use Rattle.spelling.specs.Bounds.{IfTooDeep}
use Rattle.spelling.specs.Reading.{ahead, MayTake, Takes, WantsOr}
use Rattle.spelling.specs.declared.error.SyntaxError.{SyntaxError}
use Rattle.spelling.specs.declared.reader.Reader.{Reader}
use Rattle.spelling.proofs.Only.{alone, begins_first, empty_same, opened}
use Rattle.spelling.proofs.Refusals.{of_refusal}
use Rattle.spelling.proofs.Taking.{may, no_longer}
use Rattle.p4_expr.specs.Bases.{SpellsOwn, form_of}
use Rattle.p4_expr.specs.FormsAhead.{ReadsForm, Told}
use Rattle.p4_expr.specs.GoesOn.{EndsIndex}
use Rattle.p4_expr.specs.Operators.{operators_in}
use Rattle.p4_expr.specs.Parts.{SpellsIsValid, SpellsLval}
use Rattle.p4_expr.specs.Passing.{ExprPassed}
use Rattle.p4_expr.specs.declared.forms.Form.{Form}
use Rattle.p4_expr.specs.declared.forms.Form.TheVariants as form
use Rattle.p4_expr.proofs.Counting.{counted}
use Rattle.p4_expr.proofs.FormCases.{name_there, place_there, test_there}
use Rattle.p4_expr.proofs.FormWords.{behind_next, header_words, two_names}

-- what is read, with a tree that is spelled there
pub form_read : {which : Form} {depth left used fewer : ℕ} {before after : Reader} (tree : PlainExpr) {e : Expr} → seen_expr e ≡ tree → operators_in tree ≡ used → left ≡ used + fewer → Takes (SpellsOwn depth tree) (ahead before) (ahead after) → ((more : ℕ) (x : PlainExpr) (rest : List Word) → MayTake (SpellsOwn more x) (ahead before) rest → EndsIndex rest → which ≡ form_of x → (tree ≡ x) × (ahead after ≡ rest)) → ((more : ℕ) (x : PlainExpr) (rest : List Word) → MayTake (SpellsOwn more x) (ahead before) rest → Told which (form_of x) rest → length (ahead after) ≤ length rest) → ReadsForm which depth left before after (Ok (e, fewer))
form_read {depth = depth} {left = left} {used = used} {fewer = fewer} {before = before} {after = end} tree seen few sum taken only longest =
    record {
      taken = subst (λ t. Takes (SpellsOwn depth t) (ahead before) (ahead end)) (sym seen) taken;
      count = counted tree left used fewer seen few sum;
      only = λ more x rest m ends is no. let r = only more x rest m ends is in (seen ∙ r.0, r.1);
      longest = longest;
      deep = λ at. tt;
    }

-- the same of a form that is told for no other
pub form_exact : {which : Form} {depth left : ℕ} {before after : Reader} (tree : PlainExpr) {e : Expr} → ((spelled : Form) (rest : List Word) → Told which spelled rest → which ≡ spelled) → seen_expr e ≡ tree → operators_in tree ≡ 0 → Takes (SpellsOwn depth tree) (ahead before) (ahead after) → ((more : ℕ) (x : PlainExpr) (rest : List Word) → MayTake (SpellsOwn more x) (ahead before) rest → which ≡ form_of x → (tree ≡ x) × (ahead after ≡ rest)) → ReadsForm which depth left before after (Ok (e, left))
form_exact tree told seen none taken only =
    form_read tree seen none (omega arith) taken (λ more x rest m ends is. only more x rest m is) (λ more x rest m t. omega (arith, ap length (only more x rest m (told (form_of x) rest t)).1))

pub refused_form : {which : Form} {depth left : ℕ} {before after : Reader} {result : Result (Expr × ℕ) SyntaxError} (e : SyntaxError) → IsErrAnd result (λ d. d ≡ e) → ((more : ℕ) (x : PlainExpr) (rest : List Word) → MayTake (SpellsOwn more x) (ahead before) rest → EndsIndex rest → which ≡ form_of x → WantsOr ((more ≤ depth) × (operators_in x ≤ left)) e) → IfTooDeep (ExprPassed depth left (ahead before) (ahead after)) e → ReadsForm which depth left before after result
refused_form {which = which} {depth = depth} {left = left} {before = before} {after = end} e is want deep =
    of_refusal (λ r. ReadsForm which depth left before end r) is record { taken = tt; count = tt; only = λ more x rest m ends is no. want more x rest m ends is; longest = tt; deep = λ at. deep }

-- the reader of a form that is this one
pub of_form : {which other : Form} {depth left : ℕ} {before after : Reader} {result : Result (Expr × ℕ) SyntaxError} → which ≡ other → ReadsForm other depth left before after result → ReadsForm which depth left before after result
of_form {depth = depth} {left = left} {before = before} {after = end} {result = result} is r = subst (λ f. ReadsForm f depth left before end result) (sym is) r

-- a place that is read is no shorter than a name
pub place_longest : {Of : Grammar} (more : ℕ) (x : PlainExpr) {a b rest : List Word} → Takes Of a b → MayTake (SpellsOwn more x) a rest → Told form.Place (form_of x) rest → ((place : Lval) → MayTake (SpellsLval more place) a rest → length b ≤ length rest) → length b ≤ length rest
place_longest more x {b = b} {rest = rest} t m told place =
    elim told [
      | inl is ↦ place_there (λ _. length b ≤ length rest) more x is m place
      | inr n ↦ name_there (λ _. length b ≤ length rest) more x n.0 m (λ name n. omega (arith, ap length (opened n), t.fewer))
    ]

-- nor is a test of a header than a place
place_in_test : (depth more : ℕ) (header : List ℕ) (place : Lval) {a b c : List Word} → MayTake (SpellsIsValid depth header) a b → MayTake (SpellsLval more place) a c → length b ≤ length c
place_in_test depth more header (lval.Header other field) {a = a} t m =
    let w = header_words other _ a _ m in
    let v = header_words header _ a _ t in
    let end = empty_same (behind_next 4 a (alone (behind_next 3 a w.behind))) in
    omega (arith, ap length end, no_longer (behind_next 4 a (behind_next 3 a v.behind)))
place_in_test depth more header (lval.Meta name index) {a = a} t m = absurd (two_names (codes "meta") (codes "hdr") a refl (begins_first m) (header_words header _ a _ t).header)
place_in_test depth more header (lval.Std name) {a = a} t m = absurd (two_names (codes "std") (codes "hdr") a refl (begins_first m) (header_words header _ a _ t).header)

pub test_longest : (depth more : ℕ) (header : List ℕ) (x : PlainExpr) {a b rest : List Word} → Takes (SpellsIsValid depth header) a b → MayTake (SpellsOwn more x) a rest → Told form.Validity (form_of x) rest → ((header : List ℕ) → MayTake (SpellsIsValid more header) a rest → b ≡ rest) → length b ≤ length rest
test_longest depth more header x {b = b} {rest = rest} t m told same =
    elim told [
      | inl is ↦ test_there (λ _. length b ≤ length rest) more x is m (λ other n. omega (arith, ap length (same other n)))
      | inr (inl n) ↦ name_there (λ _. length b ≤ length rest) more x n.0 m (λ name n. omega (arith, ap length (opened n), t.fewer))
      | inr (inr p) ↦ place_there (λ _. length b ≤ length rest) more x p.0 m (λ place n. place_in_test depth more header place (may t) n)
    ]
