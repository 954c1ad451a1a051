-- Names no two of which are the same.
use Rattle.std.proofs.lemmas.Slice.Eq.{bytes_eq-Decides}
use Rattle.std.proofs.lemmas.Option.{get_or_from_slice_get}
use Rattle.std.proofs.lemmas.List.Quantifiers.{position-Some}
use Rattle.std.specs.Prelude.{nat_lt}
use Rattle.std.specs.List.{position_or_len}
use Rattle.program_names.specs.Named.{place_of}
use Rattle.std.proofs.lemmas.Bool.{ltb-true, lt-ltb, and_from, and_parts, not-true, or_left, or_right, or_from}
use Rattle.std.proofs.lemmas.List.{append-nil, drop_more}
use Rattle.std.proofs.lemmas.List.Folds.{list_any-append}
use Rattle.std.proofs.Common.{◌≡◌, ℕ, zero, suc, ◌+◌, ◌<◌, Bool, true, false, not, cond, ◌||◌, List, [], ◌∷◌, ◌++◌, drop, length, get_or, slice_get, Some, None, refl, sym, ap, subst, ◌∙◌, arith, true≢false, append_assoc}
use Rattle.std.specs.Cmp.Lexicographic.{same_text}
use Rattle.elastic_ast.specs.Tree.{Name}
use Rattle.elastic_ast.specs.Typing.Scope.{same, among}
use Rattle.program_names.specs.Distinct.{are_new, are_distinct}

pub among-append : (n : Name) (xs ys : List Name) → among (xs ++ ys) n ≡ (among xs n || among ys n)
among-append n xs ys = list_any-append (same n) xs ys

pub new-append : (before xs ys : List Name) → are_new before xs ≡ true → are_new (before ++ xs) ys ≡ true → are_new before (xs ++ ys) ≡ true
new-append before [] ys p q = ap (λ z. are_new z ys) (sym (append-nil before)) ∙ q
new-append before (x ∷ xs) ys p q =
    and_from (not (among before x)) (are_new (before ++ x ∷ []) (xs ++ ys)) ((and_parts (not (among before x)) (are_new (before ++ x ∷ []) xs) p).0)
    (new-append (before ++ x ∷ []) xs ys ((and_parts (not (among before x)) (are_new (before ++ x ∷ []) xs) p).1) (ap (λ z. are_new z ys) (append_assoc before (x ∷ []) xs) ∙ q))

-- one name more
pub one_more : (names : List Name) (n : Name) → are_distinct names ≡ true → among names n ≡ false → are_distinct (names ++ n ∷ []) ≡ true
one_more names n p q = new-append [] names (n ∷ []) p (and_from (not (among names n)) true (ap not q) refl)

-- a name that stands before others, no two of which are the same, is none of them
pub not_among : (n : Name) (before ns : List Name) → are_new before ns ≡ true → among before n ≡ true → among ns n ≡ false
not_among n before [] p h = refl
not_among n before (m ∷ ms) p h = by (same n m) refl (not_among n (before ++ m ∷ []) ms ((and_parts (not (among before m)) (are_new (before ++ m ∷ []) ms) p).1) (among-append n before (m ∷ []) ∙ or_left (among before n) (among (m ∷ []) n) h))
  where
    by : (b : Bool) → same n m ≡ b → among ms n ≡ false → (same n m || among ms n) ≡ false
    by true e later = absurd (true≢false (sym h ∙ ap (among before) (same_text n m (sym e)) ∙ not-true (among before m) ((and_parts (not (among before m)) (are_new (before ++ m ∷ []) ms) p).0)))
    by false e later = or_from (same n m) (among ms n) e later

-- the first of them
pub new_first : (before xs ys : List Name) → are_new before (xs ++ ys) ≡ true → are_new before xs ≡ true
new_first before [] ys p = refl
new_first before (x ∷ xs) ys p =
    and_from (not (among before x)) (are_new (before ++ x ∷ []) xs) ((and_parts (not (among before x)) (are_new (before ++ x ∷ []) (xs ++ ys)) p).0)
    (new_first (before ++ x ∷ []) xs ys ((and_parts (not (among before x)) (are_new (before ++ x ∷ []) (xs ++ ys)) p).1))

-- a name more that is among them already
pub known_again : (set : List Name) (x n : Name) → true ≡ among set x → among set n ≡ among (set ++ x ∷ []) n
known_again set x n known = by (same n x) refl ∙ sym (among-append n set (x ∷ []))
  where
    by : (b : Bool) → same n x ≡ b → among set n ≡ (among set n || (b || false))
    by true e =
        let here : among set n ≡ true = ap (among set) (same_text n x (sym e)) ∙ sym known in
        here ∙ sym (ap (λ z. z || true) here)
    by false e = sym (or_nothing (among set n))
      where
        or_nothing : (b : Bool) → (b || false) ≡ b
        or_nothing true = refl
        or_nothing false = refl

-- one name of a list more
pub name_step : (names : List Name) (i : ℕ) (x : Name) (old new : List Name) (n : Name) → i < length names → x ≡ get_or names i x → among new n ≡ among (old ++ x ∷ []) n
    → (among old n || among (drop i names) n) ≡ among names n → (among new n || among (drop (i + 1) names) n) ≡ among names n
name_step names i x old new n h e step inv =
    ap (λ z. z || among (drop (i + 1) names) n) (step ∙ among-append n old (x ∷ [])) ∙ assoc (among old n) (same n x) (among (drop (i + 1) names) n)
    ∙ sym (ap (λ z. among old n || among z n) (drop_more names i x h ∙ ap (λ z. z ∷ drop (i + 1) names) (sym e))) ∙ inv
  where
    assoc : (a b r : Bool) → ((a || (b || false)) || r) ≡ (a || (b || r))
    assoc true b r = refl
    assoc false true r = refl
    assoc false false r = refl

-- a name that stands somewhere is among the names
pub among_at : (ns : List Name) (q : ℕ) (n : Name) → slice_get ns q ≡ Some n → among ns n ≡ true
among_at [] q n e = cc
among_at (m ∷ ms) zero n e =
    let m_is : m ≡ n = cc in
    ap (λ b. b || among ms n) ((bytes_eq-Decides n m).1 (sym m_is))
among_at (m ∷ ms) (suc q) n e = or_right (same n m) (among ms n) (among_at ms q n e)

-- where names differ, a name that stands at a place stands nowhere before it
pub first_only : (before ns : List Name) (q : ℕ) (n : Name) → are_new before ns ≡ true → slice_get ns q ≡ Some n → position_or_len (same n) ns ≡ q
first_only before [] q n p e = cc
first_only before (m ∷ ms) zero n p e =
    let m_is : m ≡ n = cc in
    ap (λ b. cond (not b) (1 + position_or_len (same n) ms) 0) ((bytes_eq-Decides n m).1 (sym m_is))
first_only before (m ∷ ms) (suc q) n p e = by (same n m) refl (first_only (before ++ m ∷ []) ms q n later e)
  where
    later : are_new (before ++ m ∷ []) ms ≡ true
    later = (and_parts (not (among before m)) (are_new (before ++ m ∷ []) ms) p).1

    by : (b : Bool) → same n m ≡ b → position_or_len (same n) ms ≡ q → cond (not b) (1 + position_or_len (same n) ms) 0 ≡ suc q
    by true f ih = absurd (true≢false (sym (among_at ms q n e) ∙ not_among n (before ++ m ∷ []) ms later (among-append n before (m ∷ []) ∙ or_right (among before n) (among (m ∷ []) n) (ap (λ z. z || false) f))))
    by false f ih = omega arith

-- the one place of a name
module _ (ns : List Name) (called : Name) where
  place_cases : (k : ℕ) (b : Bool) (p : ℕ) → nat_lt k (length ns) ≡ b → Some p ≡ cond b (Some k) None → (k ≡ p) × (k < length ns)
  place_cases k true p less e =
      let same_place : p ≡ k = cc in
      (sym same_place, ltb-true k (length ns) less)
  place_cases k false p less e = cc

  pub place_within : (p : ℕ) → Some p ≡ place_of ns called → p < length ns
  place_within p e =
      let found = place_cases (position_or_len (same called) ns) (nat_lt (position_or_len (same called) ns) (length ns)) p refl e in
      subst (λ k. k < length ns) found.0 found.1

  pub place_only : (p q : ℕ) (n : Name) → are_distinct ns ≡ true → Some p ≡ place_of ns called → slice_get ns q ≡ Some n → same n called ≡ true → q ≡ p
  place_only p q n distinct e at is =
      let n_is : n ≡ called = same_text n called (sym is) in
      sym (first_only [] ns q called distinct (at ∙ ap Some n_is)) ∙ (place_cases (position_or_len (same called) ns) (nat_lt (position_or_len (same called) ns) (length ns)) p refl e).0

  pub place_holds : (p : ℕ) (n : Name) → Some p ≡ place_of ns called → slice_get ns p ≡ Some n → same n called ≡ true
  place_holds p n e at =
      let here = position-Some (same called) ns p n (sym e) in
      let n_is : called ≡ n = same_text called n (sym (ap (same called) (sym (get_or_from_slice_get ns p n n at)) ∙ here.1)) in
      (bytes_eq-Decides n called).1 (sym n_is)

  pub place_none : (q : ℕ) (n : Name) → are_distinct ns ≡ true → None ≡ place_of ns called → slice_get ns q ≡ Some n → same n called ≡ false
  place_none q n distinct e at = by (same n called) refl
    where
      by : (b : Bool) → same n called ≡ b → same n called ≡ false
      by true is =
          let n_is : n ≡ called = same_text n called (sym is) in
          let k : position_or_len (same called) ns ≡ q = first_only [] ns q called distinct (at ∙ ap Some n_is) in
          let less : nat_lt (position_or_len (same called) ns) (length ns) ≡ true = lt-ltb (position_or_len (same called) ns) (length ns) (subst (λ z. z < length ns) (sym k) (within ns q n at)) in
          absurd (some_none (e ∙ ap (λ b. cond b (Some (position_or_len (same called) ns)) None) less))
        where
          within : (ns : List Name) (q : ℕ) (n : Name) → slice_get ns q ≡ Some n → q < length ns
          within [] q n at = cc
          within (m ∷ ms) zero n at = omega arith
          within (m ∷ ms) (suc q) n at =
              let rest : q < length ms = within ms q n at in
              omega arith

          some_none : {k : ℕ} → None ≡ Some k → ⊥
          some_none h = cc
      by false is = is
