-- What a reader of expressions answers, drawn from what its parts answer.
use Rattle.std.proofs.Common.{◌≡◌, ℕ, ◌+◌, ◌-◌, ◌≤◌, arith, ap, List, Ok, Err, codes, inl, inr, refl, length, subst, sym, ◌∙◌}
use Rattle.std.specs.Result.{IsErrAnd}
use Rattle.std.proofs.lemmas.Result.{IfOk-weaker}
use Rattle.elastic_ast.specs.declared.statements.Expr.{Expr}
use Rattle.elastic_ast.specs.Seen.{seen_expr}
use Rattle.elastic_ast.specs.Tree.{PlainExpr}
use Rattle.elastic_ast.specs.declared.statements.Amount.{Amount}
use Rattle.spelling.specs.Words.{Word}
use Rattle.spelling.specs.Grammar.{Grammar, ◌⨟◌, Named, Sign}
use Rattle.spelling.specs.Bounds.{IfTooDeep}
use Rattle.spelling.specs.Reading.{ahead, MayTake, Takes, WantsOr}
use Rattle.spelling.specs.declared.error.SyntaxError.{SyntaxError}
use Rattle.spelling.specs.declared.error.SyntaxError.TheVariants as error
use Rattle.spelling.specs.declared.reader.Reader.{Reader}
use Rattle.spelling.proofs.Bounds.{holds_deep}
use Rattle.spelling.proofs.Limits.{Inside, past_opening}
use Rattle.spelling.proofs.Only.{opened, after_one, begins_first, fact_of, of_where, regroup, split, which}
use Rattle.spelling.proofs.Refusals.{of_refusal}
use Rattle.spelling.proofs.Taking.{may, may_both, may_where, takes_as, takes_both, takes_bracketed, takes_where}
use Rattle.p4_expr.specs.Bases.{SpellsBase, SpellsHash, SpellsInBrackets, SpellsOwn, form_of}
use Rattle.p4_expr.specs.Expressions.{SpellsExpr, SpellsLevel, SpellsPrefixed}
use Rattle.p4_expr.specs.FormsAhead.{ReadsLongestForm, TellsForm}
use Rattle.p4_expr.specs.Operators.{operators_in}
use Rattle.p4_expr.specs.Parts.{SpellsAmount, SpellsAmountBefore, SpellsHashEnd}
use Rattle.p4_expr.specs.Passing.{ExprPassed}
use Rattle.p4_expr.specs.Readings.{Anything, Counted, CountsOperators, IsCountedRead, ReadsAnywhere, ReadsCounted, ReadsLevel, RefusesPast, TakesExpr}
use Rattle.p4_expr.specs.Standing.{EndsBase, EndsLevel, Passes, NoneStands}
use Rattle.p4_expr.specs.declared.forms.Form.{Form}
use Rattle.p4_expr.specs.declared.forms.Form.TheVariants as form
use Rattle.p4_expr.proofs.FormWords.{told_whole}
use Rattle.p4_expr.proofs.FormCases.{hash_there, name_there}
use Rattle.p4_expr.proofs.Longest.{as_long, one_word}
use Rattle.p4_expr.proofs.PassingLaws.{first_passed}
use Rattle.p4_expr.proofs.Prefixes.{hash_count}
use Rattle.p4_expr.proofs.Refusing.{hash_not_bracketed, none_bracketed, too_deep_or, zero_ahead}
use Rattle.p4_expr.proofs.StepsLeft.{ends_before}

-- at a `?`
pub refused_expr : {Follows Ended : Grammar} {Of : ℕ → PlainExpr → Grammar} {depth left : ℕ} {before after : Reader} {result : Counted} (e : SyntaxError) → IsErrAnd result (λ d. d ≡ e) → ((more : ℕ) (x : PlainExpr) (rest : List Word) → MayTake (Of more x) (ahead before) rest → Follows rest → WantsOr ((more ≤ depth) × (operators_in x ≤ left)) e) → IfTooDeep (ExprPassed depth left (ahead before) (ahead after)) e → ReadsCounted Follows Ended Of depth left before after result
refused_expr {Follows = Follows} {Ended = Ended} {Of = Of} {depth = depth} {left = left} {before = before} {after = end} e is want deep =
    of_refusal (λ r. ReadsCounted Follows Ended Of depth left before end r) is record { taken = tt; count = tt; only = want; longest = tt; whole = tt; deep = deep }

-- where as many operators are passed as may be
pub past_expr : {Follows Ended : Grammar} {Of : ℕ → PlainExpr → Grammar} {depth left : ℕ} {before after : Reader} {e : SyntaxError} {at : ℕ} → e ≡ error.TooDeep at → ((more : ℕ) (x : PlainExpr) (rest : List Word) → MayTake (Of more x) (ahead before) rest → Follows rest → operators_in x ≤ left → ⊥) → ExprPassed depth left (ahead before) (ahead after) → ReadsCounted Follows Ended Of depth left before after (Err e)
past_expr {e = e} {at = at} is many passed =
    record { taken = tt; count = tt; only = λ more x rest m ends. too_deep_or _ e at is (λ few. many more x rest m ends few.1); longest = tt; whole = tt; deep = holds_deep e passed }

-- a tree that is made of what is read
pub made_expr : {Follows Ended : Grammar} {Of : ℕ → PlainExpr → Grammar} {depth left fewer : ℕ} {before after : Reader} {e : Expr} (tree : PlainExpr) → seen_expr e ≡ tree → Takes (Of depth tree) (ahead before) (ahead after) → left ≡ operators_in tree + fewer → ((more : ℕ) (x : PlainExpr) (rest : List Word) → MayTake (Of more x) (ahead before) rest → Follows rest → (tree ≡ x) × (ahead after ≡ rest)) → ((more : ℕ) (x : PlainExpr) (rest : List Word) → MayTake (Of more x) (ahead before) rest → length (ahead after) ≤ length rest) → Ended (ahead after) → ReadsCounted Follows Ended Of depth left before after (Ok (e, fewer))
made_expr {Of = Of} {depth = depth} {before = before} {after = end} tree made taken count only longest ended =
    record {
      taken = subst (λ x. Takes (Of depth x) (ahead before) (ahead end)) (sym made) taken;
      count = omega (arith, ap operators_in made, count);
      only = λ more x rest m ends. let r = only more x rest m ends in (made ∙ r.0, r.1);
      longest = longest;
      whole = ended;
      deep = tt;
    }

-- where only one thing is read, whatever follows
pub exact_expr : {Of : ℕ → PlainExpr → Grammar} {depth left fewer : ℕ} {before after : Reader} {e : Expr} (tree : PlainExpr) → seen_expr e ≡ tree → Takes (Of depth tree) (ahead before) (ahead after) → left ≡ operators_in tree + fewer → ((more : ℕ) (x : PlainExpr) (rest : List Word) → MayTake (Of more x) (ahead before) rest → (tree ≡ x) × (ahead after ≡ rest)) → ReadsAnywhere Of depth left before after (Ok (e, fewer))
exact_expr tree made taken count only = made_expr tree made taken count (λ more x rest m any. only more x rest m) (λ more x rest m. as_long (only more x rest m).1) tt

-- what is spelled here is spelled by a part, and the part's reader reads it
pub expr_as : {Follows Ended Behind Then : Grammar} {Of Part : ℕ → PlainExpr → Grammar} {depth left : ℕ} {before after : Reader} {result : Counted} → ((x : PlainExpr) (ws : List Word) → Part depth x ws → Of depth x ws) → ((more : ℕ) (x : PlainExpr) (rest : List Word) → MayTake (Of more x) (ahead before) rest → MayTake (Part more x) (ahead before) rest) → ((ws : List Word) → Follows ws → Behind ws) → ((ws : List Word) → Then ws → Ended ws) → ReadsCounted Behind Then Part depth left before after result → ReadsCounted Follows Ended Of depth left before after result
expr_as {after = end} {result = result} spelled part follows ended r =
    record {
      taken = IfOk-weaker result _ _ (λ y t. takes_as (spelled _) t) r.taken;
      count = r.count;
      only = λ more x rest m ends. r.only more x rest (part more x rest m) (follows rest ends);
      longest = IfOk-weaker result _ _ (λ y longest more x rest m. longest more x rest (part more x rest m)) r.longest;
      whole = IfOk-weaker result _ _ (λ y at. ended (ahead end) at) r.whole;
      deep = r.deep;
    }

-- at level 0
pub zero_expr : {level depth left : ℕ} {before after : Reader} {result : Counted} → level ≡ 0 → ReadsLevel 0 SpellsPrefixed depth left before after result → ReadsLevel level (λ n. SpellsLevel n level) depth left before after result
zero_expr {level = level} {depth = depth} {left = left} {before = before} {after = end} {result = result} is r =
    subst (λ l. ReadsLevel l (λ n. SpellsLevel n l) depth left before end result) (sym is) (expr_as (λ x ws h. SpellsLevel.prefixed h) (λ more x rest m. zero_ahead more 0 x refl m) (λ ws h. h) (λ ws h. h) r)

-- what is read by words of its own, of the form that is told
pub own_base : {told : Form} {depth left : ℕ} {before after : Reader} {result : Counted} → TellsForm (ahead before) told → (told ≡ form.Bracketed → ⊥) → TakesExpr (SpellsOwn depth) before after result → CountsOperators left result → ((more : ℕ) (e : PlainExpr) (rest : List Word) → MayTake (SpellsOwn more e) (ahead before) rest → EndsBase rest → told ≡ form_of e → IsCountedRead depth left more e rest after result) → ReadsLongestForm told before after result → RefusesPast depth left before after result → ReadsCounted EndsBase Anything SpellsBase depth left before after result
own_base {told = told} {result = result} tells none taken count only longest deep =
    record {
      taken = IfOk-weaker result _ _ (λ y t. takes_as (λ ws h. inl h) t) taken;
      count = count;
      only = λ more x rest m ends. elim (which m) [ inl own ↦ only more x rest own ends (told_whole told (form_of x) rest (tells.told more x rest own) ends) | inr b ↦ absurd (none (tells.bracketed more x rest b)) ];
      longest = IfOk-weaker result _ _ (λ y longest more x rest m. elim (which m) [ inl own ↦ longest more x rest own (tells.told more x rest own) | inr b ↦ absurd (none (tells.bracketed more x rest b)) ]) longest;
      whole = IfOk-weaker result _ _ (λ y t. tt) taken;
      deep = deep;
    }

-- and of what stands in brackets
pub bracketed_base : {depth left : ℕ} {before after : Reader} {result : Counted} → TellsForm (ahead before) form.Bracketed → ReadsAnywhere SpellsInBrackets depth left before after result → ReadsCounted EndsBase Anything SpellsBase depth left before after result
bracketed_base tells r =
    expr_as (λ x ws h. inr h) (λ more x rest m. elim (which m) [ inl own ↦ absurd (none_bracketed x (tells.told more x rest own)) | inr b ↦ b ]) (λ ws ends. tt) (λ ws h. h) r

-- a hash is no shorter than the name with which it begins
hash_longest : {depth left : ℕ} {before after : Reader} (result : Counted) → ReadsAnywhere SpellsHash depth left before after result → ReadsLongestForm form.Hash before after result
hash_longest (Err e) r = tt
hash_longest {after = end} (Ok y) r = λ more x rest m told.
    elim told [
      | inl is ↦ r.longest more x rest (may_where is m)
      | inr name ↦ name_there (λ _. length (ahead end) ≤ length rest) more x name.0 m (λ text n. one_word n r.taken)
    ]

pub hash_base : {depth left : ℕ} {before after : Reader} {result : Counted} → TellsForm (ahead before) form.Hash → (left ≡ 0 → ⊥) → ReadsAnywhere SpellsHash depth (left - 1 + 1) before after result → ReadsCounted EndsBase Anything SpellsBase depth left before after result
hash_base {depth = depth} {left = left} {before = before} {after = end} {result = result} tells some part =
    let r = subst (λ n. ReadsAnywhere SpellsHash depth n before end result) (omega (arith, some)) part in
    own_base tells hash_not_bracketed (IfOk-weaker result _ _ (λ y t. takes_as (λ ws h. h.1) t) r.taken) r.count (λ more x rest m ends is. r.only more x rest (may_where is m) tt) (hash_longest result r) r.deep

-- a hash where no more operators may be
pub hash_past : {depth left : ℕ} {before : Reader} {e : SyntaxError} {at : ℕ} → TellsForm (ahead before) form.Hash → left ≡ 0 → e ≡ error.TooDeep at → ReadsCounted EndsBase Anything SpellsBase depth left before before (Err e)
hash_past {depth = depth} {left = left} {e = e} {at = at} tells none deep =
    own_base tells hash_not_bracketed tt tt
    (λ more x rest m ends is. too_deep_or _ e at deep (λ few. hash_there (λ x. operators_in x ≤ left → ⊥) more x is m (λ number of modulus n used. omega (arith, used, hash_count number of modulus, none)) few.1))
    tt (holds_deep e (first_passed left depth _ none (inr (inr (inl (tells.hash refl))))))

-- what is spelled in the brackets of a hash
abbrev pub SpellsHashed : (number modulus : Amount) → PlainExpr → ℕ → Grammar
SpellsHashed number modulus of depth = (SpellsAmount number ⨟ Sign (codes ",")) ⨟ SpellsExpr depth of ⨟ Sign (codes ",") ⨟ SpellsAmount modulus

-- behind `hash(`
pub hash_behind : (P : PlainExpr → Type 0) (more depth inner : ℕ) (e : PlainExpr) {a b c d : List Word} → MayTake (SpellsHash more e) a d → Takes (Named (codes "hash")) a b → depth ≡ inner + 1 → Takes (Sign (codes "(")) b c → ((number : Amount) (of : PlainExpr) (modulus : Amount) → Inside more depth inner (λ n. SpellsAmountBefore (codes ",") number ⨟ SpellsExpr n of ⨟ SpellsHashEnd modulus) c d → P (PlainExpr.Hash number of modulus)) → P e
hash_behind P more depth inner e m name deeper bracket next =
    hash_there P more e (fact_of m) (of_where m) (λ number of modulus n.
    let i = past_opening (codes "(") (codes ")") more depth inner (SpellsHashed number modulus of) deeper bracket (after_one n name) in
    let s = split (regroup i.parts) in
    let t = split (regroup s.second) in
    next number of modulus record { within = i.within; fewer = i.fewer; parts = may_both s.first (may_both t.first (regroup t.second)) })

-- a hash, from its parts
pub hash_taken : (depth inner : ℕ) (number : Amount) (of : PlainExpr) (modulus : Amount) {a b c d e f : List Word} → Takes (Named (codes "hash")) a b → depth ≡ inner + 1 → Takes (Sign (codes "(")) b c → Takes (SpellsAmountBefore (codes ",") number) c d → Takes (SpellsExpr inner of) d e → Takes (SpellsHashEnd modulus) e f → Takes (SpellsHash depth (PlainExpr.Hash number of modulus)) a f
hash_taken depth inner number of modulus {f = f} name deeper bracket first hashed end =
    let s = split (may end) in
    let t = split s.second in
    let closing : Takes (Sign (codes ")")) t.between f = record { front = t.second.front; joined = t.second.joined; spelled = t.second.spelled; fewer = omega (arith, ap length (opened t.second)) } in
    takes_where refl (takes_both name (takes_bracketed (codes "(") (codes ")") depth inner (SpellsHashed number modulus of) deeper bracket (may_both (may first) (may_both (may hashed) (may_both s.first t.first))) closing))

-- the expression in it ends before a comma
pub before_comma : {P : Grammar} (a : List Word) {c : List Word} → MayTake (Sign (codes ",") ⨟ P) a c → EndsLevel 10 a
before_comma a m = ends_before (codes ",") a refl (begins_first m)

-- an operator was passed, or none stands, from the reader's own place on
pub passes_at : {level code : ℕ} {a b c : List Word} → a ≡ b → Passes level code a c → Passes level code b c
passes_at {level = level} {code = code} {c = c} same p = subst (λ ws. Passes level code ws c) same p

pub none_at : {level : ℕ} {a b : List Word} → a ≡ b → NoneStands level a → NoneStands level b
none_at {level = level} same none = subst (NoneStands level) same none
