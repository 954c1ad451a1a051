-- What the first of a list is of which something doesn't hold, from the tests that look for it.
use Rattle.std.proofs.Common.{◌≡◌, ◌∙◌, ℕ, zero, suc, ◌+◌, ◌<◌, Bool, true, false, not, List, [], ◌∷◌, ◌++◌, map, nat_eq, refl, ap, subst, arith, Option, Some, None}
use Rattle.std.specs.Prelude.{nat_le, nat_lt, if◌then◌else◌, option_map}
use Rattle.std.specs.List.{AllByRecursion, find}
use Rattle.std.proofs.lemmas.Bool.{and_parts, not-true, not-false, leb-true, leb-false, ltb-true, ltb-false, eqb-true, eqb-false}
use Rattle.elastic_ast.specs.declared.flat.At.{At}
use Rattle.elastic_ast.specs.Typing.Scope.{or_else}
use Rattle.elastic_ast.specs.Units.PlainUnits.{PlainUnit}
use Rattle.elastic_ast.specs.Units.Instances.{each_turn}
use Rattle.elastic_ast.specs.Units.Order.{Relation, order_of}
use Rattle.target_desc.specs.declared.target.Target.{Target}
use Rattle.dep_graph.specs.declared.resource.Resource.{Resource}
use Rattle.dep_graph.specs.declared.resource.Resource.TheVariants as resource
use Rattle.dep_graph.specs.Laid.{Placed}
use Rattle.dep_graph.specs.Use.{use_of, limit_of}
use Rattle.dep_graph.specs.PlacementRules.{StandsSo, StandInOrder, OrderIsKept, UsesFit}
use Rattle.place_check.specs.FirstFault.{FirstWithout, Here, Later, same_pair, first_difference, each_pair, resources, stage_resources, FitsIn}
use Rattle.place_check.specs.Misplaced.{stands_so, against, first_against}
use Rattle.place_check.specs.Overfull.{used_by, is_over, over_in, NoneOver, IsFirstOver}
use Rattle.place_check.specs.Standing.{placed_at, standing}
use Rattle.place_check.specs.UseTables.{stage_use}

-- lists without a difference are equal
pair_same : (one other : ℕ × ℕ) → one.0 ≡ other.0 → one.1 ≡ other.1 → one ≡ other
pair_same one other e f = ap (λ (n : ℕ). (n, one.1)) e ∙ ap (λ (n : ℕ). (other.0, n)) f

same_by : (one other : ℕ × ℕ) → same_pair one other ≡ true → one ≡ other
same_by one other e =
    let parts = and_parts (nat_eq one.0 other.0) (nat_eq one.1 other.1) e in
    pair_same one other (eqb-true one.0 other.0 parts.0) (eqb-true one.1 other.1 parts.1)

pub no_difference : (place : ℕ) (ones others : List (ℕ × ℕ)) → first_difference place ones others ≡ None → ones ≡ others
no_difference place [] [] e = refl
no_difference place [] (other ∷ others) e = absurd (cc)
no_difference place (one ∷ ones) [] e = absurd (cc)
no_difference place (one ∷ ones) (other ∷ others) e = by (same_pair one other) refl e (no_difference (place + 1) ones others)
  where
    by : (same : Bool) → same_pair one other ≡ same → (if same then first_difference (place + 1) ones others else Some place) ≡ None → (first_difference (place + 1) ones others ≡ None → ones ≡ others) → one ∷ ones ≡ other ∷ others
    by true is none rest = ap (λ (p : ℕ × ℕ). p ∷ ones) (same_by one other is) ∙ ap (λ (ps : List (ℕ × ℕ)). other ∷ ps) (rest none)
    by false is none rest = absurd (cc)

module _ {A : Type 0} (Holds : A → Type 0) where
  pub first_left : (xs ys : List A) (x : A) → FirstWithout Holds xs x → FirstWithout Holds (xs ++ ys) x
  first_left _ ys _ (Here x rest fails) = Here x (rest ++ ys) fails
  first_left _ ys _ (Later first x rest stands more) = Later first x (rest ++ ys) stands (first_left rest ys x more)

  pub first_right : (xs ys : List A) (x : A) → AllByRecursion Holds xs → FirstWithout Holds ys x → FirstWithout Holds (xs ++ ys) x
  first_right [] ys x all more = more
  first_right (y ∷ xs) ys x all more = Later y x (xs ++ ys) all.0 (first_right xs ys x all.1 more)

  pub all_both : (xs ys : List A) → AllByRecursion Holds xs → AllByRecursion Holds ys → AllByRecursion Holds (xs ++ ys)
  all_both [] ys h g = g
  all_both (x ∷ xs) ys h g = (h.0, all_both xs ys h.1 g)

module _ {A B : Type 0} (Holds : B → Type 0) (f : A → B) where
  pub first_map : (xs : List A) (x : A) → FirstWithout (λ y. Holds (f y)) xs x → FirstWithout Holds (map f xs) (f x)
  first_map _ _ (Here x rest fails) = Here (f x) (map f rest) fails
  first_map _ _ (Later first x rest stands more) = Later (f first) (f x) (map f rest) stands (first_map rest x more)

  pub all_map : (xs : List A) → AllByRecursion (λ y. Holds (f y)) xs → AllByRecursion Holds (map f xs)
  all_map [] h = tt
  all_map (x ∷ xs) h = (h.0, all_map xs h.1)

-- a test that tells of what something doesn't hold
module _ {A : Type 0} (Holds : A → Type 0) (test : A → Bool) (fails : (x : A) → test x ≡ true → Holds x → ⊥) (holds : (x : A) → test x ≡ false → Holds x) where
  pub found_first : (xs : List A) (x : A) → find test xs ≡ Some x → FirstWithout Holds xs x
  found_first [] x e = absurd (cc)
  found_first (y ∷ ys) x e = by (test y) refl e (found_first ys x)
    where
      by : (b : Bool) → test y ≡ b → (if b then Some y else find test ys) ≡ Some x → (find test ys ≡ Some x → FirstWithout Holds ys x) → FirstWithout Holds (y ∷ ys) x
      by true is some rest = let same : y ≡ x = cc in subst (λ (z : A). FirstWithout Holds (y ∷ ys) z) same (Here y ys (fails y is))
      by false is some rest = Later y x ys (holds y is) (rest some)

  pub found_none : (xs : List A) → find test xs ≡ None → AllByRecursion Holds xs
  found_none [] e = tt
  found_none (y ∷ ys) e = by (test y) refl e (found_none ys)
    where
      by : (b : Bool) → test y ≡ b → (if b then Some y else find test ys) ≡ None → (find test ys ≡ None → AllByRecursion Holds ys) → AllByRecursion Holds (y ∷ ys)
      by true is none rest = absurd (cc)
      by false is none rest = (holds y is, rest none)

-- stages that the target doesn't have
module _ (units : List PlainUnit) (stages : ℕ) where
  abbrev Stands : At → Type 0
  Stands at = at.stage < stages

  stage_fails : (at : At) → nat_le stages at.stage ≡ true → Stands at → ⊥
  stage_fails at e h = let k = leb-true stages at.stage e in omega (arith, k, h)

  stage_holds : (at : At) → nat_le stages at.stage ≡ false → Stands at
  stage_holds at e = leb-false stages at.stage e

  pub out_first : (placement : List At) (at : At) → find (λ at. nat_le stages at.stage) placement ≡ Some at → FirstWithout (λ one. one.stage < stages) (standing units placement) (placed_at units at)
  out_first placement at e = first_map (λ (one : Placed). one.stage < stages) (placed_at units) placement at (found_first Stands (λ at. nat_le stages at.stage) stage_fails stage_holds placement at e)

  pub none_out : (placement : List At) → find (λ at. nat_le stages at.stage) placement ≡ None → AllByRecursion (λ one. one.stage < stages) (standing units placement)
  none_out placement e = all_map (λ (one : Placed). one.stage < stages) (placed_at units) placement (found_none Stands (λ at. nat_le stages at.stage) stage_fails stage_holds placement e)

-- pairs against their order
so_fails : (order : Relation) (stage later : ℕ) → not (stands_so order stage later) ≡ true → StandsSo order stage later → ⊥
so_fails Relation.Before stage later e h = let k = ltb-false stage later (not-true (nat_lt stage later) e) in omega (arith, k, h)
so_fails Relation.NotAfter stage later e h = let k = leb-false stage later (not-true (nat_le stage later) e) in omega (arith, k, h)
so_fails Relation.Free stage later e h = cc

so_holds : (order : Relation) (stage later : ℕ) → not (stands_so order stage later) ≡ false → StandsSo order stage later
so_holds Relation.Before stage later e = ltb-true stage later (not-false (nat_lt stage later) e)
so_holds Relation.NotAfter stage later e = leb-true stage later (not-false (nat_le stage later) e)
so_holds Relation.Free stage later e = tt

module _ (units : List PlainUnit) where
  abbrev InOrder : At → At → Type 0
  InOrder first later = StandInOrder (placed_at units first) (placed_at units later)

  pair_fails : (first later : At) → against units first later ≡ true → InOrder first later → ⊥
  pair_fails first later = so_fails (order_of (placed_at units first).instance (placed_at units later).instance) first.stage later.stage

  pair_holds : (first later : At) → against units first later ≡ false → InOrder first later
  pair_holds first later = so_holds (order_of (placed_at units first).instance (placed_at units later).instance) first.stage later.stage

  abbrev PairStands : Placed × Placed → Type 0
  PairStands pair = StandInOrder pair.0 pair.1

  pub none_against : (placement : List At) → first_against units placement ≡ None → OrderIsKept (standing units placement)
  none_against [] e = tt
  none_against (first ∷ rest) e = by (find (against units first) rest) refl e (none_against rest)
    where
      by : (here : Option At) → find (against units first) rest ≡ here → or_else (option_map (λ later. (first, later)) here) (first_against units rest) ≡ None → (first_against units rest ≡ None → OrderIsKept (standing units rest)) → OrderIsKept (standing units (first ∷ rest))
      by None is none more = (all_map (StandInOrder (placed_at units first)) (placed_at units) rest (found_none (InOrder first) (against units first) (pair_fails first) (pair_holds first) rest is), more none)
      by (Some later) is none more = absurd (cc)

  pub against_pair : (placement : List At) (pair : At × At) → first_against units placement ≡ Some pair → FirstWithout PairStands (each_pair (standing units placement)) (placed_at units pair.0, placed_at units pair.1)
  against_pair [] pair e = absurd (cc)
  against_pair (first ∷ rest) pair e = by (find (against units first) rest) refl e (against_pair rest pair)
    where
      here_pairs : List (Placed × Placed)
      here_pairs = map (λ later. (placed_at units first, later)) (standing units rest)

      by : (here : Option At) → find (against units first) rest ≡ here → or_else (option_map (λ later. (first, later)) here) (first_against units rest) ≡ Some pair
          → (first_against units rest ≡ Some pair → FirstWithout PairStands (each_pair (standing units rest)) (placed_at units pair.0, placed_at units pair.1))
          → FirstWithout PairStands (each_pair (standing units (first ∷ rest))) (placed_at units pair.0, placed_at units pair.1)
      by None is some more =
          first_right PairStands (map (λ later. (placed_at units first, later)) (standing units rest)) (each_pair (standing units rest)) (placed_at units pair.0, placed_at units pair.1)
          (all_map PairStands (λ (later : Placed). (placed_at units first, later)) (standing units rest) (all_map (StandInOrder (placed_at units first)) (placed_at units) rest (found_none (InOrder first) (against units first) (pair_fails first) (pair_holds first) rest is)))
          (more some)
      by (Some later) is some more =
          let same : (first, later) ≡ pair = cc in
          subst (λ (p : At × At). FirstWithout PairStands (each_pair (standing units (first ∷ rest))) (placed_at units p.0, placed_at units p.1)) same
          (first_left PairStands (map (λ later. (placed_at units first, later)) (standing units rest)) (each_pair (standing units rest)) (placed_at units first, placed_at units later)
          (first_map PairStands (λ (other : Placed). (placed_at units first, other)) (standing units rest) (placed_at units later)
          (first_map (StandInOrder (placed_at units first)) (placed_at units) rest later (found_first (InOrder first) (against units first) (pair_fails first) (pair_holds first) rest later is))))

-- stages that take too much
module _ {A : Type 0} (Holds : A → Type 0) (row : ℕ → List A) where
  pub turns_all : (n : ℕ) → ((j : ℕ) → j < n → AllByRecursion Holds (row j)) → AllByRecursion Holds (each_turn n row)
  turns_all zero h = tt
  turns_all (suc n) h = all_both Holds (each_turn n row) (row n) (turns_all n (λ j l. h j (omega (arith, l)))) (h n (omega arith))

  first_turn : (n k : ℕ) (x : A) → k < n → ((j : ℕ) → j < k → AllByRecursion Holds (row j)) → FirstWithout Holds (row k) x → FirstWithout Holds (each_turn n row) x
  first_turn zero k x l h first = absurd (omega (arith, l))
  first_turn (suc n) k x l h first = by (nat_eq k n) refl (λ less. first_turn n k x less h first)
    where
      by : (same : Bool) → nat_eq k n ≡ same → (k < n → FirstWithout Holds (each_turn n row) x) → FirstWithout Holds (each_turn n row ++ row n) x
      by true is rest =
          let e : k ≡ n = eqb-true k n is in
          first_right Holds (each_turn n row) (row n) x (turns_all n (λ j l. h j (omega (arith, l, e)))) (subst (λ (m : ℕ). FirstWithout Holds (row m) x) e first)
      by false is rest = first_left Holds (each_turn n row) (row n) x (rest (let d = eqb-false k n is in omega (arith, l, d)))

module _ (target : Target) (sizes : ℕ → ℕ) (placed : List Placed) where
  used_same : (stage : ℕ) (kind : Resource) → used_by kind (stage_use sizes placed stage) ≡ use_of kind sizes stage placed
  used_same stage resource.Stateful = refl
  used_same stage resource.Stateless = refl
  used_same stage resource.Memory = refl
  used_same stage resource.TableBits = refl
  used_same stage resource.TernaryBits = refl

  abbrev FitsAt : ℕ → Resource → Type 0
  FitsAt stage kind = FitsIn target sizes placed (stage, kind)

  over_fails : (stage : ℕ) (kind : Resource) → is_over target (stage_use sizes placed stage) kind ≡ true → FitsAt stage kind → ⊥
  over_fails stage kind e h =
      let k = ltb-true (limit_of kind target) (used_by kind (stage_use sizes placed stage)) e in
      let s = used_same stage kind in omega (arith, k, s, h)

  over_holds : (stage : ℕ) (kind : Resource) → is_over target (stage_use sizes placed stage) kind ≡ false → FitsAt stage kind
  over_holds stage kind e =
      let k = ltb-false (limit_of kind target) (used_by kind (stage_use sizes placed stage)) e in
      let s = used_same stage kind in omega (arith, k, s)

  row_fits : (stage : ℕ) → over_in target sizes placed stage ≡ None → AllByRecursion (FitsAt stage) resources
  row_fits stage = found_none (FitsAt stage) (is_over target (stage_use sizes placed stage)) (over_fails stage) (over_holds stage) resources

  abbrev row : ℕ → List (ℕ × Resource)
  row stage = map (λ kind. (stage, kind)) resources

  pub over_first : (stage : ℕ) (kind : Resource) (used : ℕ) → IsFirstOver target sizes placed stage kind used → FirstWithout (FitsIn target sizes placed) (stage_resources target.stages) (stage, kind)
  over_first stage kind used over =
      first_turn (FitsIn target sizes placed) row target.stages stage (stage, kind) over.below
      (λ j l. all_map (FitsIn target sizes placed) (λ (kind : Resource). (j, kind)) resources (row_fits j (over.before j l)))
      (first_map (FitsIn target sizes placed) (λ (kind : Resource). (stage, kind)) resources kind (found_first (FitsAt stage) (is_over target (stage_use sizes placed stage)) (over_fails stage) (over_holds stage) resources kind over.here))

  pub over_used : (stage : ℕ) (kind : Resource) (used : ℕ) → IsFirstOver target sizes placed stage kind used → used ≡ use_of kind sizes stage placed
  over_used stage kind used over = over.amount ∙ used_same stage kind

  each_kind : (P : Resource → Type 0) → AllByRecursion P resources → (kind : Resource) → P kind
  each_kind P all resource.Stateful = all.0
  each_kind P all resource.Stateless = all.1.0
  each_kind P all resource.Memory = all.1.1.0
  each_kind P all resource.TableBits = all.1.1.1.0
  each_kind P all resource.TernaryBits = all.1.1.1.1.0

  pub none_over : NoneOver target sizes placed target.stages → UsesFit target sizes placed
  none_over none stage l kind = each_kind (FitsAt stage) (row_fits stage (none stage l)) kind
