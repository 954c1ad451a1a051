-- The instances at sizes are those at greater sizes whose index is below the size.
use Rattle.std.proofs.Common.{◌≡◌, ℕ, zero, suc, ◌+◌, ◌<◌, ◌≤◌, nat_lt, Bool, true, false, cond, List, [], ◌∷◌, ◌++◌, filter, Option, Some, None, refl, sym, ap, ap₂, ◌∙◌, arith, ⊎_elim, if◌then◌else◌}
use Rattle.std.proofs.lemmas.List.{append-nil}
use Rattle.std.proofs.lemmas.Bool.{lt-ltb, le-ltb, eqb-true, cases_lt, and_parts}
use Rattle.std.proofs.lemmas.List.Elements.{filter-append}
use Rattle.elastic_ast.specs.Units.PlainUnits.{PlainUnit}
use Rattle.elastic_ast.specs.Units.Instances.{Group, same_number, joins, new_group, with_unit, groups_from, groups, at_index, each_turn, group_instances, all_instances}
use Rattle.elastic_laws.specs.Units.LiveInstances.{is_within, is_live, InstancesAreKept}
use Rattle.elastic_laws.proofs.Units.EachUnit.{AllBy, all_both}

-- a filter that keeps all, or none
kept_all : {A : Type 0} (b : A → Bool) (xs : List A) → AllBy (λ x. b x ≡ true) xs → filter b xs ≡ xs
kept_all b [] h = refl
kept_all b (x ∷ xs) h = ap (λ v. cond v (x ∷ filter b xs) (filter b xs)) h.0 ∙ ap (λ l. x ∷ l) (kept_all b xs h.1)

kept_none : {A : Type 0} (b : A → Bool) (xs : List A) → AllBy (λ x. b x ≡ false) xs → filter b xs ≡ []
kept_none b [] h = refl
kept_none b (x ∷ xs) h = ap (λ v. cond v (x ∷ filter b xs) (filter b xs)) h.0 ∙ kept_none b xs h.1

-- the units of a group have its size
abbrev IsUniform : Option ℕ → List (ℕ × PlainUnit) → Type 0
IsUniform s us = AllBy (λ u. u.1.size ≡ s) us

same_is : (a b : Option ℕ) → same_number a b ≡ true → a ≡ b
same_is (Some a) (Some b) h = ap Some (eqb-true a b h)
same_is (Some a) None h = cc
same_is None b h = cc

uniform_from : (g : Group) (n : ℕ) (us : List PlainUnit) → IsUniform g.size g.units → AllBy (λ g. IsUniform g.size g.units) (groups_from g n us)
uniform_from g n [] q = (q, tt)
uniform_from g n (u ∷ us) q = go (joins u g) refl (λ g k. uniform_from g (n + 1) us k)
  where
    go : (v : Bool) → joins u g ≡ v → ((g : Group) → IsUniform g.size g.units → AllBy (λ g. IsUniform g.size g.units) (groups_from g (n + 1) us)) → AllBy (λ g. IsUniform g.size g.units) (if v then groups_from (with_unit g n u) (n + 1) us else g ∷ groups_from (new_group n u) (n + 1) us)
    go true e ih = ih (with_unit g n u) (all_both (λ w. w.1.size ≡ g.size) g.units ((n, u) ∷ []) q (same_is u.size g.size ((and_parts (same_number u.loop_no g.loop_no) (same_number u.size g.size) e).1), tt))
    go false e ih = (q, ih (new_group n u) (refl, tt))

groups_uniform : (n : ℕ) (us : List PlainUnit) → AllBy (λ g. IsUniform g.size g.units) (groups n us)
groups_uniform n [] = tt
groups_uniform n (u ∷ us) = uniform_from (new_group n u) (n + 1) us (refl, tt)

-- the instances of one index
index_live : (z : ℕ → ℕ) (s i : ℕ) (us : List (ℕ × PlainUnit)) (v : Bool) → nat_lt i (z s) ≡ v → IsUniform (Some s) us → AllBy (λ p. is_live z p ≡ v) (at_index us i)
index_live z s i [] v e h = tt
index_live z s i (u ∷ us) v e h = (ap (λ t. is_within z t i) h.0 ∙ e, index_live z s i us v e h.1)

alone_live : (z : ℕ → ℕ) (i : ℕ) (us : List (ℕ × PlainUnit)) → IsUniform None us → AllBy (λ p. is_live z p ≡ true) (at_index us i)
alone_live z i [] h = tt
alone_live z i (u ∷ us) h = (ap (λ t. is_within z t i) h.0, alone_live z i us h.1)

front_kept : (z : ℕ → ℕ) (s : ℕ) (us : List (ℕ × PlainUnit)) → IsUniform (Some s) us → (m : ℕ) → m ≤ z s → filter (is_live z) (each_turn m (at_index us)) ≡ each_turn m (at_index us)
front_kept z s us h zero k = refl
front_kept z s us h (suc m) k =
    filter-append (is_live z) (each_turn m (at_index us)) (at_index us m)
    ∙ ap₂ (λ l r. l ++ r) (front_kept z s us h m (omega arith)) (kept_all (is_live z) (at_index us m) (index_live z s m us true (lt-ltb m (z s) (omega arith)) h))

rest_kept : (z : ℕ → ℕ) (s : ℕ) (us : List (ℕ × PlainUnit)) → IsUniform (Some s) us → (m : ℕ) → z s ≤ m → filter (is_live z) (each_turn m (at_index us)) ≡ each_turn (z s) (at_index us)
rest_kept z s us h zero k = let e : z s ≡ 0 = omega arith in sym (ap (λ m. each_turn m (at_index us)) e)
rest_kept z s us h (suc m) k = ⊎_elim full (λ le. part le (rest_kept z s us h m le)) (cases_lt m (z s))
  where
    full : m < z s → filter (is_live z) (each_turn (suc m) (at_index us)) ≡ each_turn (z s) (at_index us)
    full lt = let e : suc m ≡ z s = omega arith in front_kept z s us h (suc m) (omega arith) ∙ ap (λ m. each_turn m (at_index us)) e

    part : z s ≤ m → filter (is_live z) (each_turn m (at_index us)) ≡ each_turn (z s) (at_index us) → filter (is_live z) (each_turn (suc m) (at_index us)) ≡ each_turn (z s) (at_index us)
    part le ih =
        filter-append (is_live z) (each_turn m (at_index us)) (at_index us m)
        ∙ ap₂ (λ l r. l ++ r) ih (kept_none (is_live z) (at_index us m) (index_live z s m us false (le-ltb m (z s) le) h))
        ∙ append-nil (each_turn (z s) (at_index us))

group_kept : (z b : ℕ → ℕ) → ((s : ℕ) → z s ≤ b s) → (s : Option ℕ) (us : List (ℕ × PlainUnit)) → IsUniform s us → group_instances z s us ≡ filter (is_live z) (group_instances b s us)
group_kept z b small None us h = sym (kept_all (is_live z) (at_index us 0) (alone_live z 0 us h))
group_kept z b small (Some s) us h = sym (rest_kept z s us h (b s) (small s))

all_kept : (z b : ℕ → ℕ) → ((s : ℕ) → z s ≤ b s) → (gs : List Group) → AllBy (λ g. IsUniform g.size g.units) gs → all_instances z gs ≡ filter (is_live z) (all_instances b gs)
all_kept z b small [] h = refl
all_kept z b small (g ∷ gs) h =
    ap₂ (λ l m. l ++ m) (group_kept z b small g.size g.units h.0) (all_kept z b small gs h.1)
    ∙ sym (filter-append (is_live z) (group_instances b g.size g.units) (all_instances b gs))

pub instances_are_kept : InstancesAreKept
instances_are_kept units z b small = all_kept z b small (groups 0 units) (groups_uniform 0 units)
