-- From the first broken rule to the rules: where one is named it is broken there, and where none is named none is broken.
use Rattle.std.proofs.Common.{◌≡◌, ℕ, zero, suc, ◌+◌, ◌&&◌, ◌⊎◌, inl, inr, Bool, true, false, List, [], ◌∷◌, ◌++◌, take, Option, Some, None, refl, sym, ap, subst, ◌∙◌, true≢false, arith, add-zero, append_assoc}
use Rattle.std.proofs.lemmas.List.{append-nil}
use Rattle.std.specs.Prelude.{if◌then◌else◌, option_map, slice_get, Contains}
use Rattle.std.specs.List.{list_all}
use Rattle.elastic_ast.specs.declared.rule.Rule.{Rule}
use Rattle.elastic_ast.specs.declared.rule.Rule.TheVariants.{RegisterTwice, RegisterUnused, ParserLoop, NoMain}
use Rattle.elastic_ast.specs.Tree.{PlainDecl}
use Rattle.elastic_ast.specs.Typing.Scope.{or_else}
use Rattle.elastic_ast.specs.Typing.Demand.{Demand, met, rule_of, first_broken}
use Rattle.elastic_ast.specs.Typing.Asked.{asked}
use Rattle.elastic_ast.specs.Typing.Typed.{BreaksWhole, Breaks, Typed, broken_rule, first_of}

-- a demand of this rule isn't met
pub record Unmet (allow : Bool) (qs : List Demand) (r : Rule) : Type 0 where
  pub demand : Demand
  pub there : Contains qs demand
  pub of_rule : rule_of demand ≡ r
  pub unmet : met allow demand ≡ false

by_test : {A : Type 0} (b : Bool) (x y : Option A) (r : A) → (if b then x else y) ≡ Some r → ((b ≡ true) × (x ≡ Some r)) ⊎ ((b ≡ false) × (y ≡ Some r))
by_test true x y r h = inl (refl, h)
by_test false x y r h = inr (refl, h)

pub first_unmet : (allow : Bool) (qs : List Demand) (r : Rule) → first_broken allow qs ≡ Some r → Unmet allow qs r
first_unmet allow [] r h = cc
first_unmet allow (q ∷ qs) r h = by (by_test (met allow q) (first_broken allow qs) (Some (rule_of q)) r h) (first_unmet allow qs r)
  where
    by : ((met allow q ≡ true) × (first_broken allow qs ≡ Some r)) ⊎ ((met allow q ≡ false) × (Some (rule_of q) ≡ Some r)) → (first_broken allow qs ≡ Some r → Unmet allow qs r) → Unmet allow (q ∷ qs) r
    by (inl a) ih = let u : Unmet allow qs r = ih a.1 in record { demand = u.demand; there = (suc u.there.0, omega arith, u.there.2); of_rule = u.of_rule; unmet = u.unmet }
    by (inr a) ih = let e : rule_of q ≡ r = cc in record { demand = q; there = (0, omega arith, refl); of_rule = e; unmet = a.0 }

left : (b : Bool) (o : Option Rule) (r : Rule) → (if b then o else Some r) ≡ None → b ≡ true
left true o r h = refl
left false o r h = cc

right : (b : Bool) (o : Option Rule) (r : Rule) → (if b then o else Some r) ≡ None → o ≡ None
right true o r h = h
right false o r h = cc

pub all_met : (allow : Bool) (qs : List Demand) → first_broken allow qs ≡ None → (q : Demand) → Contains qs q → met allow q ≡ true
all_met allow [] h q c = absurd (omega arith)
all_met allow (x ∷ xs) h q (zero, k, e) = subst (λ z. met allow z ≡ true) e (left (met allow x) (first_broken allow xs) (rule_of x) h)
all_met allow (x ∷ xs) h q (suc i, k, e) = all_met allow xs (right (met allow x) (first_broken allow xs) (rule_of x) h) q (i, omega arith, e)

pub none_both : {A : Type 0} (a b : Option A) → or_else a b ≡ None → (a ≡ None) × (b ≡ None)
none_both None b h = (refl, h)
none_both (Some x) b h = cc

or_some : {A : Type 0} (a b : Option A) (r : A) → or_else a b ≡ Some r → (a ≡ Some r) ⊎ ((a ≡ None) × (b ≡ Some r))
or_some None b r h = inr (refl, h)
or_some (Some x) b r h = inl h

mapped : (o : Option Rule) (k d : ℕ) (r : Rule) → option_map (λ x. let p : Rule × ℕ = (x, k) in p) o ≡ Some (r, d) → (o ≡ Some r) × (k ≡ d)
mapped None k d r h = cc
mapped (Some x) k d r h = let e : (let p : Rule × ℕ = (x, k) in p) ≡ (r, d) = cc in (ap (λ z. Some z.0) e, ap (λ z. z.1) e)

pub if_none : {A : Type 0} (b : Bool) (x : A) (o : Option A) → (if b then o else Some x) ≡ None → (b ≡ true) × (o ≡ None)
if_none true x o h = (refl, h)
if_none false x o h = cc

pub unmapped : (o : Option Rule) (k : ℕ) → option_map (λ x. let p : Rule × ℕ = (x, k) in p) o ≡ None → o ≡ None
unmapped None k h = refl
unmapped (Some x) k h = cc

-- the declaration at a place of the second list, counted from k, breaks the rule by f
pub record FoundAt (f : List PlainDecl → PlainDecl → Option Rule) (k : ℕ) (before xs : List PlainDecl) (r : Rule) (d : ℕ) : Type 0 where
  pub place : ℕ
  pub number : k + place ≡ d
  pub at : PlainDecl
  pub here : slice_get xs place ≡ Some at
  pub broken : f (before ++ take place xs) at ≡ Some r

pub first_of_some : (f : List PlainDecl → PlainDecl → Option Rule) (k : ℕ) (before xs : List PlainDecl) (r : Rule) (d : ℕ) → first_of f k before xs ≡ Some (r, d) → FoundAt f k before xs r d
first_of_some f k before [] r d h = cc
first_of_some f k before (x ∷ xs) r d h =
    by (or_some (option_map (λ z. (z, k)) (f before x)) (first_of f (k + 1) (before ++ x ∷ []) xs) (r, d) h) (first_of_some f (k + 1) (before ++ x ∷ []) xs r d)
  where
    by : (option_map (λ z. let p : Rule × ℕ = (z, k) in p) (f before x) ≡ Some (r, d)) ⊎ ((option_map (λ z. let p : Rule × ℕ = (z, k) in p) (f before x) ≡ None) × (first_of f (k + 1) (before ++ x ∷ []) xs ≡ Some (r, d)))
        → (first_of f (k + 1) (before ++ x ∷ []) xs ≡ Some (r, d) → FoundAt f (k + 1) (before ++ x ∷ []) xs r d) → FoundAt f k before (x ∷ xs) r d
    by (inl a) ih = let m = mapped (f before x) k d r a in record { place = 0; number = add-zero k ∙ m.1; at = x; here = refl; broken = ap (λ z. f z x) (append-nil before) ∙ m.0 }
    by (inr a) ih =
        let u : FoundAt f (k + 1) (before ++ x ∷ []) xs r d = ih a.1 in
        let n : k + suc u.place ≡ d = omega (arith, u.number) in
        record { place = suc u.place; number = n; at = u.at; here = u.here; broken = ap (λ z. f z u.at) (sym (append_assoc before (x ∷ []) (take u.place xs))) ∙ u.broken }

pub first_of_none : (f : List PlainDecl → PlainDecl → Option Rule) (k : ℕ) (before xs : List PlainDecl) → first_of f k before xs ≡ None → (i : ℕ) (x : PlainDecl) → slice_get xs i ≡ Some x → f (before ++ take i xs) x ≡ None
first_of_none f k before [] h i x e = cc
first_of_none f k before (y ∷ ys) h zero x e =
    let s : y ≡ x = cc in
    ap (λ z. f z x) (append-nil before) ∙ ap (f before) (sym s) ∙ unmapped (f before y) k (none_both (option_map (λ z. (z, k)) (f before y)) (first_of f (k + 1) (before ++ y ∷ []) ys) h).0
first_of_none f k before (y ∷ ys) h (suc i) x e =
    ap (λ z. f z x) (sym (append_assoc before (y ∷ []) (take i ys))) ∙ first_of_none f (k + 1) (before ++ y ∷ []) ys (none_both (option_map (λ z. (z, k)) (f before y)) (first_of f (k + 1) (before ++ y ∷ []) ys) h).1 i x e

-- what the walk over the declarations names is broken there
pub walk_names : (allow : Bool) (ds : List PlainDecl) (r : Rule) (d : ℕ) → first_of (broken_rule allow) 0 [] ds ≡ Some (r, d) → Breaks allow ds r d
unfolding broken_rule
walk_names allow ds r d h =
    let u : FoundAt (broken_rule allow) 0 [] ds r d = first_of_some (broken_rule allow) 0 [] ds r d h in
    let e : u.place ≡ d = omega (arith, u.number) in
    let m : Unmet allow (asked (take u.place ds) u.at) r = first_unmet allow (asked (take u.place ds) u.at) r u.broken in
    (u.at, ap (slice_get ds) (sym e) ∙ u.here, inl (m.demand, subst (λ z. Contains (asked (take z ds) u.at) m.demand) e m.there, m.of_rule, m.unmet))

-- and where it names nothing, each demand of each declaration is met
pub walk_meets : (allow : Bool) (ds : List PlainDecl) → first_of (broken_rule allow) 0 [] ds ≡ None → (d : ℕ) (x : PlainDecl) → slice_get ds d ≡ Some x → (q : Demand) → Contains (asked (take d ds) x) q → met allow q ≡ true
unfolding broken_rule
walk_meets allow ds h d x e q there = all_met allow (asked (take d ds) x) (first_of_none (broken_rule allow) 0 [] ds h d x e) q there

-- no declaration breaks one of the rules of the whole program
abbrev pub MeetsWhole : List PlainDecl → Type 0
MeetsWhole ds = (r : Rule) (d : ℕ) (x : PlainDecl) → slice_get ds d ≡ Some x → BreaksWhole ds r x → ⊥

pub walk_passes : (allow : Bool) (ds : List PlainDecl) → first_of (broken_rule allow) 0 [] ds ≡ None → MeetsWhole ds → Typed allow ds
walk_passes allow ds h whole r d (x, e, inl (q, there, of_rule, unmet)) = true≢false (sym (walk_meets allow ds h d x e q there) ∙ unmet)
walk_passes allow ds h whole r d (x, e, inr broken) = whole r d x e broken

-- the declaration is of a form that no rule of the whole program speaks of
abbrev pub is_no_part : PlainDecl → Bool
is_no_part (PlainDecl.Register name width cells size) = false
is_no_part (PlainDecl.Parser name states) = false
is_no_part (PlainDecl.Control name locals body) = false
is_no_part (PlainDecl.Deparser name emits) = false
is_no_part (PlainDecl.Main parser control deparser) = false
is_no_part _ = true

no_part : (ds : List PlainDecl) (r : Rule) (x : PlainDecl) → is_no_part x ≡ true → BreaksWhole ds r x → ⊥
no_part ds ParserLoop (PlainDecl.Parser name states) h b = true≢false (sym h)
no_part ds RegisterTwice (PlainDecl.Register name width cells size) h b = true≢false (sym h)
no_part ds RegisterUnused (PlainDecl.Register name width cells size) h b = true≢false (sym h)
no_part ds NoMain (PlainDecl.Parser name states) h b = true≢false (sym h)
no_part ds NoMain (PlainDecl.Control name locals body) h b = true≢false (sym h)
no_part ds NoMain (PlainDecl.Deparser name emits) h b = true≢false (sym h)
no_part ds NoMain (PlainDecl.Main parser control deparser) h b = true≢false (sym h)
no_part ds _ _ h b = b

pub each : (f : PlainDecl → Bool) (ds : List PlainDecl) (d : ℕ) (x : PlainDecl) → list_all f ds ≡ true → slice_get ds d ≡ Some x → f x ≡ true
each f [] d x h e = cc
each f (y ∷ ys) zero x h e = let s : y ≡ x = cc in ap f (sym s) ∙ first (f y) (list_all f ys) h
  where
    first : (a b : Bool) → (a && b) ≡ true → a ≡ true
    first true b h = refl
    first false b h = cc
each f (y ∷ ys) (suc d) x h e = each f ys d x (rest (f y) (list_all f ys) h) e
  where
    rest : (a b : Bool) → (a && b) ≡ true → b ≡ true
    rest true b h = h
    rest false b h = cc

-- declarations of such forms break no rule of the whole program
pub no_parts : (ds : List PlainDecl) → list_all is_no_part ds ≡ true → MeetsWhole ds
no_parts ds h r d x e b = no_part ds r x (each is_no_part ds d x h e) b
