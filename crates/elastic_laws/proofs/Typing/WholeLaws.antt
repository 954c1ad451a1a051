-- Tests for the rules of the whole program: where they pass, no declaration breaks such a rule.
use Rattle.std.proofs.Common.{◌≡◌, ℕ, zero, suc, ◌<◌, ◌≤◌, ◌⊎◌, inl, inr, Bool, true, false, not, ◌&&◌, ◌||◌, List, [], ◌∷◌, ◌++◌, take, Option, Some, None, refl, sym, ap, ◌∙◌, true≢false, arith, append_assoc}
use Rattle.std.proofs.lemmas.Bool.{and_parts, not-true, or_left, or_right}
use Rattle.std.specs.Prelude.{slice_get, Contains, is_none, codes}
use Rattle.std.specs.List.{list_any, list_all}
use Rattle.std.specs.Cmp.Lexicographic.{same_text, nat_list_eq_equiv}
use Rattle.std.proofs.lemmas.Map.Views.{list_any-from_Contains}
use Rattle.elastic_ast.specs.declared.rule.Rule.{Rule}
use Rattle.elastic_ast.specs.declared.rule.Rule.TheVariants.{RegisterTwice, RegisterUnused, ParserLoop, NoMain}
use Rattle.elastic_ast.specs.Tree.{Name, PlainDecl, PlainState}
use Rattle.elastic_ast.specs.Typing.Scope.{same, among}
use Rattle.elastic_ast.specs.Typing.Asked.{DeclKind, has}
use Rattle.elastic_ast.specs.Typing.ParserLoops.{state_name, state_names, targets_of, goes, LeadsToState, direct, further, Loops}
use Rattle.elastic_ast.specs.Typing.NamedRegisters.{Naming, named_registers, IsUnnamed}
use Rattle.elastic_ast.specs.Typing.Conflicts.{conflict_of}
use Rattle.elastic_ast.specs.Typing.Typed.{has_parts, LacksMain, BreaksWhole}
use Rattle.elastic_ast.proofs.Typing.TypedLaws.{MeetsWhole, each}
use Rattle.elastic_laws.proofs.Typing.ConflictLaws.{not_twice}

-- each state goes on to states behind it alone
abbrev pub forward : List PlainState → List PlainState → Bool
forward before [] = true
forward before (state ∷ states) = not (list_any (among (targets_of state.next)) (state_names (before ++ state ∷ []))) && forward (before ++ state ∷ []) states

forward_at : (before ss : List PlainState) → forward before ss ≡ true → (i : ℕ) (s : PlainState) → slice_get ss i ≡ Some s → list_any (among (targets_of s.next)) (state_names (before ++ take (suc i) ss)) ≡ false
forward_at before [] h i s e = cc
forward_at before (x ∷ ss) h zero s e =
    let k : x ≡ s = cc in
    ap (λ z. list_any (among (targets_of z.next)) (state_names (before ++ x ∷ []))) (sym k)
    ∙ not-true (list_any (among (targets_of x.next)) (state_names (before ++ x ∷ []))) ((and_parts (not (list_any (among (targets_of x.next)) (state_names (before ++ x ∷ [])))) (forward (before ++ x ∷ []) ss) h).0)
forward_at before (x ∷ ss) h (suc i) s e =
    ap (λ z. list_any (among (targets_of s.next)) (state_names z)) (sym (append_assoc before (x ∷ []) (take (suc i) ss)))
    ∙ forward_at (before ++ x ∷ []) ss ((and_parts (not (list_any (among (targets_of x.next)) (state_names (before ++ x ∷ [])))) (forward (before ++ x ∷ []) ss) h).1) i s e

within : (f : Name → Bool) (ss : List PlainState) (i j : ℕ) (t : PlainState) → j ≤ i → slice_get ss j ≡ Some t → f t.name ≡ true → list_any f (state_names (take (suc i) ss)) ≡ true
within f [] i j t less e h = cc
within f (x ∷ ss) i zero t less e h = let k : x ≡ t = cc in or_left (f x.name) (list_any f (state_names (take i ss))) (ap (λ z. f z.name) k ∙ h)
within f (x ∷ ss) zero (suc j) t less e h = absurd (omega arith)
within f (x ∷ ss) (suc i) (suc j) t less e h = or_right (f x.name) (list_any f (state_names (take (suc i) ss))) (within f ss i j t (omega arith) e h)

goes_forward : (ss : List PlainState) → forward [] ss ≡ true → (i j : ℕ) → goes ss i j ≡ true → i < j
goes_forward ss h i j g = by (slice_get ss i) (slice_get ss j) refl refl g
  where
    by : (a b : Option PlainState) → slice_get ss i ≡ a → slice_get ss j ≡ b → Rattle.elastic_ast.specs.Typing.ParserLoops.goes_on a b ≡ true → i < j
    by None b p q k = absurd (true≢false (sym k))
    by (Some a) None p q k = absurd (true≢false (sym k))
    by (Some a) (Some b) p q k = not_less (λ (less : j ≤ i). true≢false (sym (within (among (targets_of a.next)) ss i j b less q k) ∙ forward_at [] ss h i a p))
      where
        not_less : (j ≤ i → ⊥) → i < j
        not_less n = omega (arith, n)

leads_forward : (ss : List PlainState) → forward [] ss ≡ true → (i j : ℕ) → LeadsToState ss i j → i < j
leads_forward ss h i _ (direct j g) = goes_forward ss h i j g
leads_forward ss h i _ (further m j l g) = let p : i < m = leads_forward ss h i m l in let q : m < j = goes_forward ss h m j g in omega (arith, p, q)

abbrev pub has_no_loop : List PlainState → Bool
has_no_loop ss = forward [] ss && among (state_names ss) (codes "start")

no_loop : (ss : List PlainState) → has_no_loop ss ≡ true → Loops ss → ⊥
no_loop ss h (inl (i, l)) = let p : i < i = leads_forward ss ((and_parts (forward [] ss) (among (state_names ss) (codes "start")) h).0) i i l in omega (arith, p)
no_loop ss h (inr e) = true≢false (sym ((and_parts (forward [] ss) (among (state_names ss) (codes "start")) h).1) ∙ e)

-- a unit names the register
abbrev pub is_named : List PlainDecl → Name → Bool
is_named ds r = list_any (λ (naming : Naming). among naming.1 r) (named_registers ds)

-- the declaration breaks no rule of the whole program, by tests
abbrev pub meets_loop : List PlainDecl → PlainDecl → Bool
meets_loop ds (PlainDecl.Parser name states) = has_no_loop states
meets_loop ds _ = true

abbrev pub meets_named : List PlainDecl → PlainDecl → Bool
meets_named ds (PlainDecl.Register name width cells size) = is_named ds name
meets_named ds _ = true

abbrev pub meets_main : List PlainDecl → PlainDecl → Bool
meets_main ds (PlainDecl.Parser name states) = has DeclKind.Main ds
meets_main ds (PlainDecl.Control name locals body) = has DeclKind.Main ds
meets_main ds (PlainDecl.Deparser name emits) = has DeclKind.Main ds
meets_main ds (PlainDecl.Main parser control deparser) = has_parts ds
meets_main ds _ = true

abbrev pub loops_met : List PlainDecl → Bool
loops_met ds = list_all (meets_loop ds) ds

abbrev pub names_met : List PlainDecl → Bool
names_met ds = list_all (meets_named ds) ds

abbrev pub main_met : List PlainDecl → Bool
main_met ds = list_all (meets_main ds) ds

abbrev pub twice_met : List PlainDecl → Bool
twice_met ds = is_none (conflict_of ds)

-- a register that a unit names isn't unnamed
found_in : (r : Name) (ns : List Name) → among ns r ≡ true → Contains ns r
found_in r [] h = cc
found_in r (n ∷ ns) h = by (same r n) refl h (found_in r ns)
  where
    by : (b : Bool) → same r n ≡ b → (b || among ns r) ≡ true → (among ns r ≡ true → Contains ns r) → Contains (n ∷ ns) r
    by true e k ih = (0, omega arith, sym (same_text r n (sym e)))
    by false e k ih = let c : Contains ns r = ih k in (suc c.0, omega (arith, c.1), c.2)

abbrev Names : List Naming → Name → Type 0
Names us r = (u : ℕ) × (naming : Naming) × (slice_get us u ≡ Some naming) × Contains naming.1 r

names_one : (r : Name) (us : List Naming) → list_any (λ (naming : Naming). among naming.1 r) us ≡ true → Names us r
names_one r [] h = cc
names_one r (u ∷ us) h = by (among u.1 r) refl h (names_one r us)
  where
    by : (b : Bool) → among u.1 r ≡ b → (b || list_any (λ (naming : Naming). among naming.1 r) us) ≡ true → (list_any (λ (naming : Naming). among naming.1 r) us ≡ true → Names us r) → Names (u ∷ us) r
    by true e k ih = (0, u, refl, found_in r u.1 e)
    by false e k ih = let p : Names us r = ih k in (suc p.0, p.1, p.2, p.3)

pub named_one : (ds : List PlainDecl) (r : Name) → is_named ds r ≡ true → IsUnnamed ds r → ⊥
named_one ds r h n = let p : Names (named_registers ds) r = names_one r (named_registers ds) h in n p.0 (p.1, p.2, p.3)

-- and one that no unit names is unnamed
in_among : (r : Name) (ns : List Name) → Contains ns r → among ns r ≡ true
in_among r [] c = absurd (omega arith)
in_among r (n ∷ ns) (zero, k, e) = or_left (same r n) (among ns r) (ap (same r) e ∙ same_self r)
  where
    same_self : (n : Name) → same n n ≡ true
    same_self n = or_nothing (same n n) (list_any-from_Contains nat_list_eq_equiv n (n ∷ []) (0, omega arith, refl))
      where
        or_nothing : (b : Bool) → (b || false) ≡ true → b ≡ true
        or_nothing true k = refl
        or_nothing false k = k
in_among r (n ∷ ns) (suc i, k, e) = or_right (same r n) (among ns r) (in_among r ns (i, omega arith, e))

names_any : (r : Name) (us : List Naming) (u : ℕ) (naming : Naming) → slice_get us u ≡ Some naming → Contains naming.1 r → list_any (λ (given : Naming). among given.1 r) us ≡ true
names_any r [] u naming e c = cc
names_any r (y ∷ us) zero naming e c = let s : y ≡ naming = cc in or_left (among y.1 r) (list_any (λ (given : Naming). among given.1 r) us) (ap (λ (z : Naming). among z.1 r) s ∙ in_among r naming.1 c)
names_any r (y ∷ us) (suc u) naming e c = or_right (among y.1 r) (list_any (λ (given : Naming). among given.1 r) us) (names_any r us u naming e c)

pub unnamed_one : (ds : List PlainDecl) (r : Name) → is_named ds r ≡ false → IsUnnamed ds r
unnamed_one ds r h u (naming, e, c) = true≢false (sym (names_any r (named_registers ds) u naming e c) ∙ h)

none_is : {A : Type 0} (o : Option A) → is_none o ≡ true → o ≡ None
none_is None h = refl
none_is (Some x) h = cc

lacks : (ds : List PlainDecl) (x : PlainDecl) → meets_main ds x ≡ true → LacksMain ds x → ⊥
lacks ds (PlainDecl.Parser name states) h b = true≢false (sym h ∙ b)
lacks ds (PlainDecl.Control name locals body) h b = true≢false (sym h ∙ b)
lacks ds (PlainDecl.Deparser name emits) h b = true≢false (sym h ∙ b)
lacks ds (PlainDecl.Main parser control deparser) h b = true≢false (sym h ∙ b)
lacks ds _ h b = b

-- and where the test doesn't pass, it lacks its main or its parts
pub lacks_main : (ds : List PlainDecl) (x : PlainDecl) → meets_main ds x ≡ false → LacksMain ds x
lacks_main ds (PlainDecl.Parser name states) h = h
lacks_main ds (PlainDecl.Control name locals body) h = h
lacks_main ds (PlainDecl.Deparser name emits) h = h
lacks_main ds (PlainDecl.Main parser control deparser) h = h
lacks_main ds other h = true≢false h

-- Each rule of the whole program is met, or it is the one that is broken.
pub record WholeBut (ds : List PlainDecl) (but : Rule) : Type 0 where
  pub loops : (loops_met ds ≡ true) ⊎ (ParserLoop ≡ but)
  pub twice : (twice_met ds ≡ true) ⊎ (RegisterTwice ≡ but)
  pub names : (names_met ds ≡ true) ⊎ (RegisterUnused ≡ but)
  pub main : (main_met ds ≡ true) ⊎ (NoMain ≡ but)

or_absurd : {A : Type 0} {B : Type 0} {C : Type 0} → A ⊎ C → (A → B → ⊥) → B → C
or_absurd (inl a) f b = absurd (f a b)
or_absurd (inr c) f b = c

pub whole_but : (ds : List PlainDecl) (but : Rule) → WholeBut ds but → (r : Rule) (d : ℕ) (x : PlainDecl) → slice_get ds d ≡ Some x → BreaksWhole ds r x → r ≡ but
whole_but ds but w ParserLoop d (PlainDecl.Parser name states) e b =
    or_absurd w.loops (λ h k. no_loop states (each (meets_loop ds) ds d (PlainDecl.Parser name states) h e) k) b
whole_but ds but w RegisterTwice d (PlainDecl.Register name width cells size) e b =
    or_absurd w.twice (λ h k. not_twice ds (none_is (conflict_of ds) h) name k) b
whole_but ds but w RegisterUnused d (PlainDecl.Register name width cells size) e b =
    or_absurd w.names (λ h k. named_one ds name (each (meets_named ds) ds d (PlainDecl.Register name width cells size) h e) k) b
whole_but ds but w NoMain d x e b = or_absurd w.main (λ h k. lacks ds x (each (meets_main ds) ds d x h e) k) b
whole_but ds but w _ d _ e b = absurd b

abbrev pub whole_met : List PlainDecl → Bool
whole_met ds = loops_met ds && (twice_met ds && (names_met ds && main_met ds))

pub whole_is_met : (ds : List PlainDecl) → whole_met ds ≡ true → (but : Rule) → WholeBut ds but
whole_is_met ds h but =
    let a = (and_parts (loops_met ds) (twice_met ds && (names_met ds && main_met ds)) h).1 in
    let b = (and_parts (twice_met ds) (names_met ds && main_met ds) a).1 in
    record {
      loops = inl ((and_parts (loops_met ds) (twice_met ds && (names_met ds && main_met ds)) h).0);
      twice = inl ((and_parts (twice_met ds) (names_met ds && main_met ds) a).0);
      names = inl ((and_parts (names_met ds) (main_met ds) b).0);
      main = inl ((and_parts (names_met ds) (main_met ds) b).1);
    }

is_loop : Rule → Bool
is_loop ParserLoop = true
is_loop _ = false

-- where all tests pass, no declaration breaks a rule of the whole program
pub meets_whole : (ds : List PlainDecl) → whole_met ds ≡ true → MeetsWhole ds
unfolding is_loop
meets_whole ds h r d x e b = differ (whole_but ds ParserLoop (whole_is_met ds h ParserLoop) r d x e b) (whole_but ds NoMain (whole_is_met ds h NoMain) r d x e b)
  where
    differ : r ≡ ParserLoop → r ≡ NoMain → ⊥
    differ p q = true≢false (ap is_loop (sym p ∙ q))
