-- Where the pass over the units finds no conflict, no register is named twice.
use Rattle.std.proofs.Common.{◌≡◌, ◌≢◌, ℕ, zero, suc, ◌+◌, ◌<◌, ◌⊎◌, inl, inr, Bool, true, false, not, ◌&&◌, ◌||◌, List, [], ◌∷◌, ◌++◌, Option, Some, None, refl, sym, ap, subst, ◌∙◌, true≢false, arith}
use Rattle.std.proofs.lemmas.Bool.{or_left}
use Rattle.std.specs.Prelude.{if◌then◌else◌, slice_get, Contains}
use Rattle.std.specs.List.{list_all}
use Rattle.std.specs.Cmp.Lexicographic.{same_text, nat_list_eq_equiv}
use Rattle.std.proofs.lemmas.List.Folds.{list_any-append}
use Rattle.std.proofs.lemmas.Map.Views.{list_any-from_Contains}
use Rattle.elastic_ast.specs.Tree.{Name, PlainDecl}
use Rattle.elastic_ast.specs.Typing.Scope.{same, among, or_else}
use Rattle.elastic_ast.specs.Typing.Conflicts.{unit_conflict, conflict}
use Rattle.elastic_ast.specs.Typing.NamedRegisters.{Naming, named_registers, is_array, NamedTwice}
use Rattle.elastic_ast.proofs.Typing.TypedLaws.{none_both}

-- what a unit without conflict has
pub record Clean (array : Name → Bool) (before : List Name) (looped : Bool) (ns : List Name) : Type 0 where
  pub one : (q r : Name) → Contains ns q → Contains ns r → q ≡ r
  pub new : (r : Name) → Contains ns r → among before r ≡ false
  pub arrayed : (r : Name) → Contains ns r → looped ≡ true → array r ≡ true

if_clean : {A : Type 0} (a b c d : Bool) (x : A) → (if not a || (b || (c && not d)) then Some x else None) ≡ None → (a ≡ true) × (b ≡ false) × (c ≡ true → d ≡ true)
if_clean true false false d x h = (refl, refl, λ e. absurd (true≢false (sym e)))
if_clean true false true true x h = (refl, refl, λ e. refl)
if_clean true false true false x h = cc
if_clean true true c d x h = cc
if_clean false b c d x h = cc

all_same : (n r : Name) (ns : List Name) → list_all (same n) ns ≡ true → Contains (n ∷ ns) r → r ≡ n
all_same n r ns h (zero, k, e) = sym e
all_same n r [] h (suc i, k, e) = absurd (omega arith)
all_same n r (m ∷ ms) h (suc zero, k, e) = sym e ∙ sym (same_text n m (sym (fst (same n m) (list_all (same n) ms) h)))
  where
    fst : (a b : Bool) → (a && b) ≡ true → a ≡ true
    fst true b h = refl
    fst false b h = cc
all_same n r (m ∷ ms) h (suc (suc i), k, e) = all_same n r ms (snd (same n m) (list_all (same n) ms) h) (suc i, omega arith, e)
  where
    snd : (a b : Bool) → (a && b) ≡ true → b ≡ true
    snd true b h = h
    snd false b h = cc

clean : (array : Name → Bool) (before : List Name) (looped : Bool) (ns : List Name) → unit_conflict array before looped ns ≡ None → Clean array before looped ns
clean array before looped [] h = record { one = λ q r c d. absurd (none q c); new = λ r c. absurd (none r c); arrayed = λ r c l. absurd (none r c) }
  where
    none : (q : Name) → Contains [] q → ⊥
    none q c = omega arith
clean array before looped (n ∷ ns) h =
    let p = if_clean (list_all (same n) ns) (among before n) looped (array n) n h in
    record {
      one = λ q r c d. all_same n q ns p.0 c ∙ sym (all_same n r ns p.0 d);
      new = λ r c. ap (among before) (all_same n r ns p.0 c) ∙ p.1;
      arrayed = λ r c l. ap array (all_same n r ns p.0 c) ∙ p.2 l;
    }

among_in : (ns : List Name) (r : Name) → Contains ns r → among ns r ≡ true
among_in ns r c = list_any-from_Contains nat_list_eq_equiv r ns c

module _ (array : Name → Bool) where
  -- the unit with this number is clean after those before it
  pub clean_at : (before : List Name) (us : List Naming) → conflict array before us ≡ None → (u : ℕ) (x : Naming) → slice_get us u ≡ Some x
      → (r : Name) → Contains x.1 r → (among before r ≡ false) × ((q : Name) → Contains x.1 q → q ≡ r) × (x.0 ≡ true → array r ≡ true)
  clean_at before [] h u x e r c = cc
  clean_at before (y ∷ us) h zero x e r c =
      let s : y ≡ x = cc in
      let k : Clean array before y.0 y.1 = clean array before y.0 y.1 (none_both (unit_conflict array before y.0 y.1) (conflict array (y.1 ++ before) us) h).0 in
      let d : Contains y.1 r = subst (λ z. Contains z.1 r) (sym s) c in
      (k.new r d, λ q g. k.one q r (subst (λ z. Contains z.1 q) (sym s) g) d, λ l. k.arrayed r d (ap (λ z. z.0) s ∙ l))
  clean_at before (y ∷ us) h (suc u) x e r c =
      let p = clean_at (y.1 ++ before) us (none_both (unit_conflict array before y.0 y.1) (conflict array (y.1 ++ before) us) h).1 u x e r c in
      (last (among y.1 r) (among before r) (sym (list_any-append (same r) y.1 before) ∙ p.0), p.1, p.2)
    where
      last : (a b : Bool) → (a || b) ≡ false → b ≡ false
      last false b h = h
      last true b h = cc

  -- no two units name one register
  pub apart : (before : List Name) (us : List Naming) → conflict array before us ≡ None → (u v : ℕ) (x y : Naming) → slice_get us u ≡ Some x → slice_get us v ≡ Some y
      → (r : Name) → Contains x.1 r → Contains y.1 r → u ≡ v
  apart before [] h u v x y e f r c d = cc
  apart before (z ∷ us) h zero zero x y e f r c d = refl
  apart before (z ∷ us) h zero (suc v) x y e f r c d =
      let s : z ≡ x = cc in
      let p = clean_at (z.1 ++ before) us (none_both (unit_conflict array before z.0 z.1) (conflict array (z.1 ++ before) us) h).1 v y f r d in
      absurd (true≢false (sym (list_any-append (same r) z.1 before ∙ or_left (among z.1 r) (among before r) (among_in z.1 r (subst (λ w. Contains w.1 r) (sym s) c))) ∙ p.0))
  apart before (z ∷ us) h (suc u) zero x y e f r c d =
      let s : z ≡ y = cc in
      let p = clean_at (z.1 ++ before) us (none_both (unit_conflict array before z.0 z.1) (conflict array (z.1 ++ before) us) h).1 u x e r c in
      absurd (true≢false (sym (list_any-append (same r) z.1 before ∙ or_left (among z.1 r) (among before r) (among_in z.1 r (subst (λ w. Contains w.1 r) (sym s) d))) ∙ p.0))
  apart before (z ∷ us) h (suc u) (suc v) x y e f r c d = ap suc (apart (z.1 ++ before) us (none_both (unit_conflict array before z.0 z.1) (conflict array (z.1 ++ before) us) h).1 u v x y e f r c d)

pub not_twice : (ds : List PlainDecl) → conflict (is_array ds) [] (named_registers ds) ≡ None → (r : Name) → NamedTwice ds r → ⊥
not_twice ds h r (inl (u, v, a, b, n)) = n (apart (is_array ds) [] (named_registers ds) h u v a.0 b.0 a.1 b.1 r a.2 b.2)
not_twice ds h r (inr (inl (u, a, l, n))) = true≢false (sym ((clean_at (is_array ds) [] (named_registers ds) h u a.0 a.1 r a.2).2 (looped a.0 l.0 (sym a.1 ∙ l.1))) ∙ n)
  where
    looped : (x : Naming) (ns : List Name) → Some x ≡ Some (true, ns) → x.0 ≡ true
    looped x ns e = let p : x ≡ (true, ns) = cc in ap (λ z. z.0) p
not_twice ds h r (inr (inr (u, q, a, b, n))) =
    let s : a.0 ≡ b.0 = cc in
    n ((clean_at (is_array ds) [] (named_registers ds) h u a.0 a.1 r a.2).1 q (subst (λ z. Contains z.1 q) (sym s) b.2))

-- And where the pass finds a conflict at a register, this register is named twice.

-- the unit of a number names the register, in a list of units
abbrev NamesIn : List Naming → ℕ → Name → Type 0
NamesIn all u r = (x : Naming) × (slice_get all u ≡ Some x) × Contains x.1 r

abbrev TwiceIn : (Name → Bool) → List Naming → Name → Type 0
TwiceIn array all r =
    ((u v : ℕ) × NamesIn all u r × NamesIn all v r × (u ≢ v))
    ⊎ ((u : ℕ) × NamesIn all u r × ((ns : List Name) × (slice_get all u ≡ Some (true, ns))) × (array r ≡ false))
    ⊎ ((u : ℕ) × (q : Name) × NamesIn all u r × NamesIn all u q × (q ≢ r))

in_list : (r : Name) (ns : List Name) → among ns r ≡ true → Contains ns r
in_list r [] h = cc
in_list r (n ∷ ns) h = by (same r n) refl h (in_list r ns)
  where
    by : (b : Bool) → same r n ≡ b → (b || among ns r) ≡ true → (among ns r ≡ true → Contains ns r) → Contains (n ∷ ns) r
    by true e k ih = (0, omega arith, sym (same_text r n (sym e)))
    by false e k ih = let c : Contains ns r = ih k in (suc c.0, omega (arith, c.1), c.2)

-- not all are the same: there is another one
other_one : (m : Name) (ns : List Name) → list_all (same m) ns ≡ false → (q : Name) × Contains ns q × (q ≢ m)
other_one m [] h = cc
other_one m (n ∷ ns) h = by (same m n) refl h (other_one m ns)
  where
    same_self : same m m ≡ true
    same_self = or_nothing (same m m) (among_in (m ∷ []) m (0, omega arith, refl))
      where
        or_nothing : (b : Bool) → (b || false) ≡ true → b ≡ true
        or_nothing true k = refl
        or_nothing false k = k

    by : (b : Bool) → same m n ≡ b → (b && list_all (same m) ns) ≡ false → (list_all (same m) ns ≡ false → (q : Name) × Contains ns q × (q ≢ m)) → (q : Name) × Contains (n ∷ ns) q × (q ≢ m)
    by true e k ih = let p = ih k in (p.0, (suc p.1.0, omega (arith, p.1.1), p.1.2), p.2)
    by false e k ih = (n, (0, omega arith, refl), λ z. true≢false (sym (ap (same m) z ∙ same_self) ∙ e))

-- what is wrong with a unit
unit_wrong : (array : Name → Bool) (before : List Name) (looped : Bool) (ns : List Name) (r : Name) → unit_conflict array before looped ns ≡ Some r
    → Contains ns r × (((q : Name) × Contains ns q × (q ≢ r)) ⊎ (among before r ≡ true) ⊎ ((looped ≡ true) × (array r ≡ false)))
unit_wrong array before looped [] r h = cc
unit_wrong array before looped (n ∷ ns) r h = by (list_all (same n) ns) (among before n) looped (array n) refl refl refl refl h
  where
    by : (a b c d : Bool) → list_all (same n) ns ≡ a → among before n ≡ b → looped ≡ c → array n ≡ d → (if not a || (b || (c && not d)) then Some n else None) ≡ Some r
        → Contains (n ∷ ns) r × (((q : Name) × Contains (n ∷ ns) q × (q ≢ r)) ⊎ (among before r ≡ true) ⊎ ((looped ≡ true) × (array r ≡ false)))
    by false b c d p q s t h =
        let e : n ≡ r = cc in
        let o = other_one n ns p in
        ((0, omega arith, e), inl (o.0, (suc o.1.0, omega (arith, o.1.1), o.1.2), λ z. o.2 (z ∙ sym e)))
    by true true c d p q s t h = let e : n ≡ r = cc in ((0, omega arith, e), inr (inl (ap (among before) (sym e) ∙ q)))
    by true false true false p q s t h = let e : n ≡ r = cc in ((0, omega arith, e), inr (inr (s, ap array (sym e) ∙ t)))
    by true false true true p q s t h = cc
    by true false false d p q s t h = cc

module _ (array : Name → Bool) (all : List Naming) where
  -- the units to come stand behind the number k, and those before it name what was named
  abbrev Named : ℕ → List Name → Type 0
  Named k before = (r : Name) → among before r ≡ true → (u : ℕ) × (u < k) × NamesIn all u r

  abbrev Behind : ℕ → List Naming → Type 0
  Behind k us = (j : ℕ) (x : Naming) → slice_get us j ≡ Some x → slice_get all (k + j) ≡ Some x

  here : (k : ℕ) (y : Naming) (us : List Naming) → Behind k (y ∷ us) → slice_get all k ≡ Some y
  here k y us behind = ap (slice_get all) (omega arith) ∙ behind 0 y refl

  named_more : (k : ℕ) (before : List Name) (y : Naming) (us : List Naming) → Behind k (y ∷ us) → Named k before → Named (suc k) (y.1 ++ before)
  named_more k before y us behind named r h = by (among y.1 r) refl (sym (list_any-append (same r) y.1 before) ∙ h)
    where
      by : (b : Bool) → among y.1 r ≡ b → (b || among before r) ≡ true → (u : ℕ) × (u < suc k) × NamesIn all u r
      by true e p = (k, omega arith, (y, here k y us behind, in_list r y.1 e))
      by false e p = let n = named r p in (n.0, omega (arith, n.1), n.2)

  wrong_here : (k : ℕ) (before : List Name) (y : Naming) (r : Name) → slice_get all k ≡ Some y → Named k before
      → Contains y.1 r × (((q : Name) × Contains y.1 q × (q ≢ r)) ⊎ (among before r ≡ true) ⊎ ((y.0 ≡ true) × (array r ≡ false))) → TwiceIn array all r
  wrong_here k before y r at named (c, inl (q, d, n)) = inr (inr (k, q, (y, at, c), (y, at, d), n))
  wrong_here k before y r at named (c, inr (inl h)) = let n = named r h in inl (n.0, k, n.2, (y, at, c), λ z. omega (arith, n.1, z))
  wrong_here k before y r at named (c, inr (inr (l, a))) = inr (inl (k, (y, at, c), (y.1, at ∙ ap (λ b. Some (b, y.1)) l), a))

  twice_in : (k : ℕ) (before : List Name) (us : List Naming) (r : Name) → Behind k us → Named k before → conflict array before us ≡ Some r → TwiceIn array all r
  twice_in k before [] r behind named h = cc
  twice_in k before (y ∷ us) r behind named h = by (unit_conflict array before y.0 y.1) refl h (λ g. twice_in (suc k) (y.1 ++ before) us r rest (named_more k before y us behind named) g)
    where
      rest : Behind (suc k) us
      rest j x e = ap (slice_get all) (omega arith) ∙ behind (suc j) x e

      by : (o : Option Name) → unit_conflict array before y.0 y.1 ≡ o → or_else o (conflict array (y.1 ++ before) us) ≡ Some r → (conflict array (y.1 ++ before) us ≡ Some r → TwiceIn array all r) → TwiceIn array all r
      by (Some n) e g ih = wrong_here k before y r (here k y us behind) named (unit_wrong array before y.0 y.1 r (e ∙ g))
      by None e g ih = ih g

-- so the pass decides whether a register is named twice
pub named_twice : (ds : List PlainDecl) (r : Name) → conflict (is_array ds) [] (named_registers ds) ≡ Some r → NamedTwice ds r
named_twice ds r h = twice_in (is_array ds) (named_registers ds) 0 [] (named_registers ds) r (λ j x e. ap (slice_get (named_registers ds)) (omega arith) ∙ e) (λ q k. absurd (true≢false (sym k))) h
