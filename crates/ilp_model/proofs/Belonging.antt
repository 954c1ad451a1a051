-- Where the instances at the bounds belong, and what holds of each of them.
use Rattle.std.proofs.Common.{◌≡◌, ℕ, zero, suc, ◌+◌, ◌<◌, Bool, true, false, List, [], ◌∷◌, map, Option, Some, None, refl, sym, ap, ◌∙◌, subst, arith}
use Rattle.std.specs.Prelude.{◌||◌, if◌then◌else◌}
use Rattle.std.specs.List.{AllByRecursion}
use Rattle.std.proofs.lemmas.Bool.{eqb-true, eq-eqb, and_parts}
use Rattle.elastic_ast.specs.Meaning.Values.{bit}
use Rattle.elastic_ast.specs.Units.PlainUnits.{PlainUnit, PlainUnits}
use Rattle.elastic_ast.specs.Units.Instances.{Instance, Group, same_number, joins, new_group, with_unit, groups_from, groups, at_index, each_turn, group_instances, instances}
use Rattle.unit_flow.specs.SoundUnits.{IsLoopSize}
use Rattle.ilp_model.specs.Candidates.{candidates_from}
use Rattle.unroll_bound.specs.Counts.{is_symbolic, is_looped}
use Rattle.ilp_model.specs.Variables.{symbol_count}
use Rattle.unroll_bound.specs.SizeRules.{is_symbol}
use Rattle.ilp_model.proofs.Valuations.{Belongs}
use Rattle.ilp_model.proofs.Sums.{all_joined}
use Rattle.unroll_bound.proofs.Totals.{each_more, each_two, each_any, each_append, each_mapped}

-- what each group keeps
groups_keep : (Q : Group → Type 0) (P : PlainUnit → Type 0) → ((n : ℕ) (u : PlainUnit) → P u → Q (new_group n u)) → ((g : Group) (n : ℕ) (u : PlainUnit) → Q g → P u → joins u g ≡ true → Q (with_unit g n u)) → (g : Group) (n : ℕ) (us : List PlainUnit) → Q g → AllByRecursion P us → AllByRecursion Q (groups_from g n us)
groups_keep Q P start more g n [] q h = (q, tt)
groups_keep Q P start more g n (u ∷ us) q h = go (joins u g) refl (λ g k. groups_keep Q P start more g (n + 1) us k h.1)
  where
    go : (v : Bool) → joins u g ≡ v → ((g : Group) → Q g → AllByRecursion Q (groups_from g (n + 1) us)) → AllByRecursion Q (if v then groups_from (with_unit g n u) (n + 1) us else g ∷ groups_from (new_group n u) (n + 1) us)
    go true e ih = ih (with_unit g n u) (more g n u q h.0 e)
    go false e ih = (q, ih (new_group n u) (start n u h.0))

all_groups : (Q : Group → Type 0) (P : PlainUnit → Type 0) → ((n : ℕ) (u : PlainUnit) → P u → Q (new_group n u)) → ((g : Group) (n : ℕ) (u : PlainUnit) → Q g → P u → joins u g ≡ true → Q (with_unit g n u)) → (n : ℕ) (us : List PlainUnit) → AllByRecursion P us → AllByRecursion Q (groups n us)
all_groups Q P start more n [] h = tt
all_groups Q P start more n (u ∷ us) h = groups_keep Q P start more (new_group n u) (n + 1) us (start n u h.0) h.1

-- the units of a group have its size
abbrev IsUniform : Option ℕ → List (ℕ × PlainUnit) → Type 0
IsUniform s us = AllByRecursion (λ u. u.1.size ≡ s) us

same_is : (a b : Option ℕ) → same_number a b ≡ true → a ≡ b
same_is (Some a) (Some b) h = ap Some (eqb-true a b h)
same_is (Some a) None h = cc
same_is None b h = cc

groups_uniform : (n : ℕ) (us : List PlainUnit) → AllByRecursion (λ g. IsUniform g.size g.units) (groups n us)
groups_uniform n us =
    all_groups (λ g. IsUniform g.size g.units) (λ u. Unit {0}) (λ n u k. (refl, tt))
    (λ g n u q k e. each_append (λ w. w.1.size ≡ g.size) g.units ((n, u) ∷ []) q (same_is u.size g.size ((and_parts (same_number u.loop_no g.loop_no) (same_number u.size g.size) e).1), tt))
    n us (each_any (λ u. Unit {0}) (λ u. tt) us)

all_turns : {A : Type 0} (P : A → Type 0) (n : ℕ) (f : ℕ → List A) → ((i : ℕ) → i < n → AllByRecursion P (f i)) → AllByRecursion P (each_turn n f)
all_turns P zero f h = tt
all_turns P (suc n) f h = each_append P (each_turn n f) (f n) (all_turns P n f (λ i k. h i (omega arith))) (h n (omega arith))

-- each instance's unit is one of the program's
abbrev pub IsOne : List PlainUnit → Option ℕ → Type 0
IsOne us None = Unit {0}
IsOne us (Some s) = is_looped us s ≡ true

one_more : (u : PlainUnit) (us : List PlainUnit) (s : Option ℕ) → IsOne us s → IsOne (u ∷ us) s
one_more u us None h = tt
one_more u us (Some s) h = go (is_symbol s u.size)
  where
    go : (v : Bool) → (v || is_looped us s) ≡ true
    go true = refl
    go false = h

one_first : (u : PlainUnit) (us : List PlainUnit) (s : Option ℕ) → u.size ≡ s → IsOne (u ∷ us) s
one_first u us None h = tt
one_first u us (Some s) h = ap (λ v. v || is_looped us s) (ap (is_symbol s) h ∙ eq-eqb s s refl)

all_one : (us : List PlainUnit) → AllByRecursion (λ u. IsOne us u.size) us
all_one [] = tt
all_one (u ∷ us) = (one_first u us u.size refl, each_more (λ w. IsOne us w.size) (λ w. IsOne (u ∷ us) w.size) (λ w k. one_more u us w.size k) us (all_one us))

groups_one : (n : ℕ) (us : List PlainUnit) → AllByRecursion (λ g. AllByRecursion (λ w. IsOne us w.1.size) g.units) (groups n us)
groups_one n us =
    all_groups (λ g. AllByRecursion (λ w. IsOne us w.1.size) g.units) (λ u. IsOne us u.size) (λ n u k. (k, tt))
    (λ g n u q k e. each_append (λ w. IsOne us w.1.size) g.units ((n, u) ∷ []) q (k, tt)) n us (all_one us)

-- where the instances at the bounds belong, given that loops run over symbols
loop_belongs : (units : PlainUnits) (b : ℕ → ℕ) (s i : ℕ) → i < b s → (us : List (ℕ × PlainUnit)) → s < symbol_count units → IsUniform (Some s) us → AllByRecursion (λ w. IsOne units.list w.1.size) us → AllByRecursion (λ p. Belongs units b p.unit.size p.index) (at_index us i)
loop_belongs units b s i k [] m h o = tt
loop_belongs units b s i k (u ∷ us) m h o = (subst (λ t. Belongs units b t i) (sym h.0) (k, (m, subst (IsOne units.list) h.0 o.0)), loop_belongs units b s i k us m h.1 o.1)

alone_belongs : (units : PlainUnits) (b : ℕ → ℕ) (i : ℕ) (us : List (ℕ × PlainUnit)) → IsUniform None us → AllByRecursion (λ p. Belongs units b p.unit.size p.index) (at_index us i)
alone_belongs units b i [] h = tt
alone_belongs units b i (u ∷ us) h = (subst (λ t. Belongs units b t i) (sym h.0) tt, alone_belongs units b i us h.1)

group_belongs : (units : PlainUnits) (b : ℕ → ℕ) (s : Option ℕ) (us : List (ℕ × PlainUnit)) → IsLoopSize (symbol_count units) s → IsUniform s us → AllByRecursion (λ w. IsOne units.list w.1.size) us → AllByRecursion (λ p. Belongs units b p.unit.size p.index) (group_instances b s us)
group_belongs units b None us m h o = alone_belongs units b 0 us h
group_belongs units b (Some s) us m h o = all_turns (λ p. Belongs units b p.unit.size p.index) (b s) (at_index us) (λ i k. loop_belongs units b s i k us m h o)

groups_size : (m n : ℕ) (us : List PlainUnit) → AllByRecursion (λ u. IsLoopSize m u.size) us → AllByRecursion (λ g. IsLoopSize m g.size) (groups n us)
groups_size m n us h = all_groups (λ g. IsLoopSize m g.size) (λ u. IsLoopSize m u.size) (λ n u k. k) (λ g n u q k e. q) n us h

pub instances_belong : (units : PlainUnits) (b : ℕ → ℕ) → AllByRecursion (λ u. IsLoopSize (symbol_count units) u.size) units.list → AllByRecursion (λ p. Belongs units b p.unit.size p.index) (instances units.list b)
instances_belong units b h =
    all_joined (λ g. group_instances b g.size g.units) (λ p. Belongs units b p.unit.size p.index) (groups 0 units.list)
    (each_two (λ g. IsLoopSize (symbol_count units) g.size) (λ g. IsUniform g.size g.units × AllByRecursion (λ w. IsOne units.list w.1.size) g.units) (λ g. AllByRecursion (λ p. Belongs units b p.unit.size p.index) (group_instances b g.size g.units)) (λ g m k. group_belongs units b g.size g.units m k.0 k.1) (groups 0 units.list)
    (groups_size (symbol_count units) 0 units.list h)
    (each_two (λ g. IsUniform g.size g.units) (λ g. AllByRecursion (λ w. IsOne units.list w.1.size) g.units) (λ g. IsUniform g.size g.units × AllByRecursion (λ w. IsOne units.list w.1.size) g.units) (λ g x y. (x, y)) (groups 0 units.list) (groups_uniform 0 units.list) (groups_one 0 units.list)))

-- what holds of each unit holds of each instance's
index_units : (P : PlainUnit → Type 0) (i : ℕ) (us : List (ℕ × PlainUnit)) → AllByRecursion (λ w. P w.1) us → AllByRecursion (λ p. P p.unit) (at_index us i)
index_units P i us h = each_mapped (λ u. record { number = u.0; index = i; unit = u.1 }) (λ p. P p.unit) us h

group_units : (P : PlainUnit → Type 0) (b : ℕ → ℕ) (s : Option ℕ) (us : List (ℕ × PlainUnit)) → AllByRecursion (λ w. P w.1) us → AllByRecursion (λ p. P p.unit) (group_instances b s us)
group_units P b None us h = index_units P 0 us h
group_units P b (Some s) us h = all_turns (λ p. P p.unit) (b s) (at_index us) (λ i k. index_units P i us h)

groups_units : (P : PlainUnit → Type 0) (n : ℕ) (us : List PlainUnit) → AllByRecursion P us → AllByRecursion (λ g. AllByRecursion (λ w. P w.1) g.units) (groups n us)
groups_units P n us h = all_groups (λ g. AllByRecursion (λ w. P w.1) g.units) P (λ n u k. (k, tt)) (λ g n u q k e. each_append (λ w. P w.1) g.units ((n, u) ∷ []) q (k, tt)) n us h

pub instances_units : (P : PlainUnit → Type 0) (units : PlainUnits) (b : ℕ → ℕ) → AllByRecursion P units.list → AllByRecursion (λ p. P p.unit) (instances units.list b)
instances_units P units b h = all_joined (λ g. group_instances b g.size g.units) (λ p. P p.unit) (groups 0 units.list) (each_more (λ g. AllByRecursion (λ w. P w.1) g.units) (λ g. AllByRecursion (λ p. P p.unit) (group_instances b g.size g.units)) (λ g k. group_units P b g.size g.units k) (groups 0 units.list) (groups_units P 0 units.list h))

-- the instances are the instances
pub candidates_are : (n k : ℕ) (ps : List Instance) → map (λ p. p.instance) (candidates_from n k ps) ≡ ps
candidates_are n k [] = refl
candidates_are n k (p ∷ ps) = ap (λ l. p ∷ l) (candidates_are (n + 1) (k + bit (is_symbolic p.unit.cells)) ps)

pub all_candidates : (P : Instance → Type 0) (n k : ℕ) (ps : List Instance) → AllByRecursion P ps → AllByRecursion (λ p. P p.instance) (candidates_from n k ps)
all_candidates P n k [] h = tt
all_candidates P n k (p ∷ ps) h = (h.0, all_candidates P (n + 1) (k + bit (is_symbolic p.unit.cells)) ps h.1)
