-- A placement that lists the instances, and a stage for each instance at the bounds.
use Rattle.std.proofs.Common.{◌≡◌, ℕ, zero, suc, ◌+◌, ◌<◌, Bool, true, false, cond, ◌&&◌, List, [], ◌∷◌, map, filter, refl, sym, ap, ap₂, ◌∙◌, arith}
use Rattle.std.specs.Prelude.{nat_eq}
use Rattle.std.specs.List.{AllByRecursion}
use Rattle.elastic_ast.specs.declared.flat.At.{At}
use Rattle.elastic_ast.specs.Meaning.Values.{bit}
use Rattle.elastic_ast.specs.Units.PlainUnits.{PlainUnit}
use Rattle.elastic_ast.specs.Units.Instances.{Instance, pair_of}
use Rattle.elastic_ast.specs.Units.Order.{order_of}
use Rattle.elastic_laws.specs.Units.LiveInstances.{is_live}
use Rattle.target_desc.specs.declared.target.Target.{Target}
use Rattle.dep_graph.specs.Laid.{Placed, laid}
use Rattle.dep_graph.specs.PlacementRules.{named_pair, StagesExist, StandsSo, EachLater, OrderIsKept, UsesFit}
use Rattle.dep_graph.specs.Use.{sum_in, taken_by}
use Rattle.ilp_model.specs.Candidates.{Candidate, candidates_from}
use Rattle.unroll_bound.specs.Counts.{is_symbolic}
use Rattle.ilp_model.proofs.Totals.{total}
use Rattle.ilp_model.proofs.Valuations.{taken_in, AreLaid}
use Rattle.ilp_model.proofs.Sums.{all_unmap, total_filter, total_same}
use Rattle.unroll_bound.proofs.Totals.{each_more, each_any, each_mapped, total_map}
use Rattle.ilp_model.proofs.FromRows.{all_kept}

pub all_filter : {A : Type 0} (P : A → Type 0) (b : A → Bool) (xs : List A) → AllByRecursion (λ x. b x ≡ true → P x) xs → AllByRecursion P (filter b xs)
all_filter P b [] h = tt
all_filter {A} P b (x ∷ xs) h = go (b x) refl (all_filter P b xs h.1)
  where
    go : (v : Bool) → b x ≡ v → AllByRecursion P (filter b xs) → AllByRecursion P (cond v (x ∷ filter b xs) (filter b xs))
    go true e r = (h.0 e, r)
    go false e r = r

each_filter : {A : Type 0} (R : A → A → Type 0) (b : A → Bool) (xs : List A) → EachLater (λ x y. b x ≡ true → b y ≡ true → R x y) xs → EachLater R (filter b xs)
each_filter R b [] h = tt
each_filter {A} R b (x ∷ xs) h = go (b x) refl (each_filter R b xs h.1)
  where
    go : (v : Bool) → b x ≡ v → EachLater R (filter b xs) → EachLater R (cond v (x ∷ filter b xs) (filter b xs))
    go true e r = (all_filter (R x) b xs (each_more (λ y. b x ≡ true → b y ≡ true → R x y) (λ y. b y ≡ true → R x y) (λ y k q. k e q) xs h.0), r)
    go false e r = r

each_kept : {A : Type 0} (R : A → A → Type 0) (b : A → Bool) (xs : List A) → EachLater R (filter b xs) → EachLater (λ x y. b x ≡ true → b y ≡ true → R x y) xs
each_kept R b [] h = tt
each_kept {A} R b (x ∷ xs) h = go (b x) refl h (λ k. each_kept R b xs k)
  where
    go : (v : Bool) → b x ≡ v → EachLater R (cond v (x ∷ filter b xs) (filter b xs)) → (EachLater R (filter b xs) → EachLater (λ x y. b x ≡ true → b y ≡ true → R x y) xs) → EachLater (λ x y. b x ≡ true → b y ≡ true → R x y) (x ∷ xs)
    go true e k r = (each_more (λ y. b y ≡ true → R x y) (λ y. b x ≡ true → b y ≡ true → R x y) (λ y q u v. q v) xs (all_kept (R x) b xs k.0), r k.1)
    go false e k r = (each_any (λ y. b x ≡ true → b y ≡ true → R x y) (λ y u v. cc) xs, r k)

each_map : {A B : Type 0} (f : A → B) (R : B → B → Type 0) (xs : List A) → EachLater (λ x y. R (f x) (f y)) xs → EachLater R (map f xs)
each_map f R [] h = tt
each_map f R (x ∷ xs) h = (each_mapped f (R (f x)) xs h.0, each_map f R xs h.1)

each_unmap : {A B : Type 0} (f : A → B) (R : B → B → Type 0) (xs : List A) → EachLater R (map f xs) → EachLater (λ x y. R (f x) (f y)) xs
each_unmap f R [] h = tt
each_unmap f R (x ∷ xs) h = (all_unmap f (R (f x)) xs h.0, each_unmap f R xs h.1)

pub filter_map_is : {A B : Type 0} (f : A → B) (b : B → Bool) (xs : List A) → filter b (map f xs) ≡ map f (filter (λ x. b (f x)) xs)
filter_map_is f b [] = refl
filter_map_is {A} {B} f b (x ∷ xs) = go (b (f x)) (filter_map_is f b xs)
  where
    go : (v : Bool) → filter b (map f xs) ≡ map f (filter (λ x. b (f x)) xs) → cond v (f x ∷ filter b (map f xs)) (filter b (map f xs)) ≡ map f (cond v (x ∷ filter (λ x. b (f x)) xs) (filter (λ x. b (f x)) xs))
    go true r = ap (λ l. f x ∷ l) r
    go false r = r

-- an instance with a stage, as a placement has it
abbrev pub entry : (Candidate → ℕ) → Candidate → At
entry at p = record { unit = p.instance.number; index = p.instance.index; stage = at p }

-- and in a stage
abbrev pub put_at : (Candidate → ℕ) → Candidate → Placed
put_at at p = record { instance = p.instance; stage = at p }

abbrev pub placed_by : (ℕ → ℕ) → (Candidate → ℕ) → List Candidate → List Placed
placed_by z at ps = map (put_at at) (filter (λ p. is_live z p.instance) ps)

cond_twice : (a b : Bool) (n : ℕ) → cond a (cond b n 0) 0 ≡ cond (a && b) n 0
cond_twice true b n = refl
cond_twice false b n = refl

sum_in_is : (f : PlainUnit → ℕ) (t : ℕ) (xs : List Placed) → sum_in f t xs ≡ total (λ x. cond (nat_eq x.stage t) (f x.instance.unit) 0) xs
sum_in_is f t [] = refl
sum_in_is f t (x ∷ xs) = ap (λ v. cond (nat_eq x.stage t) (f x.instance.unit) 0 + v) (sum_in_is f t xs)

use_is : (z : ℕ → ℕ) (at : Candidate → ℕ) (f : PlainUnit → ℕ) (t : ℕ) (ps : List Candidate) → sum_in f t (placed_by z at ps) ≡ taken_in z at f t ps
use_is z at f t ps =
    sum_in_is f t (placed_by z at ps)
    ∙ total_map (λ x. cond (nat_eq x.stage t) (f x.instance.unit) 0) (put_at at) (filter (λ p. is_live z p.instance) ps)
    ∙ total_filter (λ p. cond (nat_eq (at p) t) (f p.instance.unit) 0) (λ p. is_live z p.instance) ps
    ∙ total_same (λ p. cond (is_live z p.instance) (cond (nat_eq (at p) t) (f p.instance.unit) 0) 0) (λ p. cond (is_live z p.instance && nat_eq (at p) t) (f p.instance.unit) 0) ps (each_any (λ p. cond (is_live z p.instance) (cond (nat_eq (at p) t) (f p.instance.unit) 0) 0 ≡ cond (is_live z p.instance && nat_eq (at p) t) (f p.instance.unit) 0) (λ p. cond_twice (is_live z p.instance) (nat_eq (at p) t) (f p.instance.unit)) ps)

-- the rules of a placement, of instances in stages
pub record KeepsRules (target : Target) (z : ℕ → ℕ) (xs : List Placed) : Type 0 where
  pub stages : StagesExist target xs
  pub order : OrderIsKept xs
  pub uses : UsesFit target z xs

pub rules_kept : (target : Target) (z : ℕ → ℕ) (at : Candidate → ℕ) (ps : List Candidate) → AreLaid target z at ps → KeepsRules target z (placed_by z at ps)
rules_kept target z at ps h = record {
  stages = each_mapped (put_at at) (λ x. x.stage < target.stages) (filter (λ p. is_live z p.instance) ps) (all_filter (λ p. at p < target.stages) (λ p. is_live z p.instance) ps h.stages);
  order = each_map (put_at at) (λ p q. StandsSo (order_of p.instance q.instance) p.stage q.stage) (filter (λ p. is_live z p.instance) ps) (each_filter (λ p q. StandsSo (order_of p.instance q.instance) (at p) (at q)) (λ p. is_live z p.instance) ps h.order);
  uses = λ t k kind. rw (use_is z at (taken_by kind z) t ps) (h.uses t k kind);
}

pub laid_by_rules : (target : Target) (z : ℕ → ℕ) (at : Candidate → ℕ) (ps : List Candidate) → KeepsRules target z (placed_by z at ps) → AreLaid target z at ps
laid_by_rules target z at ps h = record {
  stages = all_kept (λ p. at p < target.stages) (λ p. is_live z p.instance) ps (all_unmap (put_at at) (λ x. x.stage < target.stages) (filter (λ p. is_live z p.instance) ps) h.stages);
  order = each_kept (λ p q. StandsSo (order_of p.instance q.instance) (at p) (at q)) (λ p. is_live z p.instance) ps (each_unmap (put_at at) (λ p q. StandsSo (order_of p.instance q.instance) p.stage q.stage) (filter (λ p. is_live z p.instance) ps) h.order);
  uses = λ t k kind. rw (← use_is z at (taken_by kind z) t ps) (h.uses t k kind);
}

-- the stage that a placement gives to the instance at a place
abbrev pub first_stage : List At → ℕ
first_stage [] = 0
first_stage (a ∷ cs) = a.stage

abbrev pub rest : List At → List At
rest [] = []
rest (a ∷ cs) = cs

abbrev pub stages_of : (Instance → Bool) → List Instance → List At → ℕ → ℕ
stages_of live [] cs k = 0
stages_of live (p ∷ ps) cs zero = first_stage cs
stages_of live (p ∷ ps) cs (suc k) = stages_of live ps (cond (live p) (rest cs) cs) k

-- such a placement is the instances in their stages
pub record IsSpread (live : Instance → Bool) (f : ℕ → ℕ) (n k : ℕ) (ps : List Instance) (cs : List At) : Type 0 where
  pub placed : laid (filter live ps) cs ≡ map (put_at (λ p. f p.place)) (filter (λ p. live p.instance) (candidates_from n k ps))
  pub entries : cs ≡ map (entry (λ p. f p.place)) (filter (λ p. live p.instance) (candidates_from n k ps))

at_is : (a : At) (u i t : ℕ) → a.unit ≡ u → a.index ≡ i → a.stage ≡ t → a ≡ record { unit = u; index = i; stage = t }
at_is a u i t p q r =
    ap (λ v. record { unit = v; index = a.index; stage = a.stage }) p
    ∙ ap (λ v. record { unit = u; index = v; stage = a.stage }) q
    ∙ ap (λ v. record { unit = u; index = i; stage = v }) r

spread_one : (live : Instance → Bool) (f : ℕ → ℕ) (n k : ℕ) (p : Instance) (ps : List Instance) (a : At) (cs : List At) → f n ≡ a.stage → named_pair a ≡ pair_of p → IsSpread live f (n + 1) (k + bit (is_symbolic p.unit.cells)) ps cs → (laid (p ∷ filter live ps) (a ∷ cs) ≡ map (put_at (λ p. f p.place)) (record { place = n; rank = k; instance = p } ∷ filter (λ p. live p.instance) (candidates_from (n + 1) (k + bit (is_symbolic p.unit.cells)) ps))) × (a ∷ cs ≡ map (entry (λ p. f p.place)) (record { place = n; rank = k; instance = p } ∷ filter (λ p. live p.instance) (candidates_from (n + 1) (k + bit (is_symbolic p.unit.cells)) ps)))
spread_one live f n k p ps a cs e d ih = (
  ap₂ (λ t l. record { instance = p; stage = t } ∷ l) (sym e) ih.placed,
  ap₂ (λ x l. x ∷ l) same ih.entries,
)
  where
    same : a ≡ record { unit = p.number; index = p.index; stage = f n }
    same = at_is a p.number p.index (f n) (ap (λ (x : ℕ × ℕ). x.0) d) (ap (λ (x : ℕ × ℕ). x.1) d) (sym e)

pub spread : (live : Instance → Bool) (f : ℕ → ℕ) (n k : ℕ) (ps : List Instance) (cs : List At) → map named_pair cs ≡ map pair_of (filter live ps) → ((j : ℕ) → f (n + j) ≡ stages_of live ps cs j) → IsSpread live f n k ps cs
spread live f n k [] [] e h = record { placed = refl; entries = refl }
spread live f n k [] (a ∷ cs) e h = cc
spread live f n k (p ∷ ps) cs e h = go (live p) cs refl e h (λ ds q r. spread live f (n + 1) (k + bit (is_symbolic p.unit.cells)) ps ds q r)
  where
    go : (v : Bool) (cs : List At) → live p ≡ v → map named_pair cs ≡ map pair_of (cond v (p ∷ filter live ps) (filter live ps)) → ((j : ℕ) → f (n + j) ≡ stages_of live (p ∷ ps) cs j) → ((ds : List At) → map named_pair ds ≡ map pair_of (filter live ps) → ((j : ℕ) → f (n + 1 + j) ≡ stages_of live ps ds j) → IsSpread live f (n + 1) (k + bit (is_symbolic p.unit.cells)) ps ds) → IsSpread live f n k (p ∷ ps) cs
    go true [] l e h ih = cc
    go true (a ∷ ds) l e h ih =
        let next : (j : ℕ) → f (n + 1 + j) ≡ stages_of live ps ds j = λ j. ap f (omega arith) ∙ h (suc j) ∙ ap (λ v. stages_of live ps (cond v ds (a ∷ ds)) j) l in
        let now : f n ≡ a.stage = ap f (omega arith) ∙ h 0 in
        let both = spread_one live f n k p ps a ds now (cc) (ih ds (cc) next) in
        record {
          placed = ap (λ v. laid (cond v (p ∷ filter live ps) (filter live ps)) (a ∷ ds)) l ∙ both.0 ∙ sym (ap (λ v. map (put_at (λ p. f p.place)) (cond v (record { place = n; rank = k; instance = p } ∷ filter (λ p. live p.instance) (candidates_from (n + 1) (k + bit (is_symbolic p.unit.cells)) ps)) (filter (λ p. live p.instance) (candidates_from (n + 1) (k + bit (is_symbolic p.unit.cells)) ps)))) l);
          entries = both.1 ∙ sym (ap (λ v. map (entry (λ p. f p.place)) (cond v (record { place = n; rank = k; instance = p } ∷ filter (λ p. live p.instance) (candidates_from (n + 1) (k + bit (is_symbolic p.unit.cells)) ps)) (filter (λ p. live p.instance) (candidates_from (n + 1) (k + bit (is_symbolic p.unit.cells)) ps)))) l);
        }
    go false ds l e h ih =
        let next : (j : ℕ) → f (n + 1 + j) ≡ stages_of live ps ds j = λ j. ap f (omega arith) ∙ h (suc j) ∙ ap (λ v. stages_of live ps (cond v (rest ds) ds) j) l in
        let r = ih ds e next in
        record {
          placed = ap (λ v. laid (cond v (p ∷ filter live ps) (filter live ps)) ds) l ∙ r.placed ∙ sym (ap (λ v. map (put_at (λ p. f p.place)) (cond v (record { place = n; rank = k; instance = p } ∷ filter (λ p. live p.instance) (candidates_from (n + 1) (k + bit (is_symbolic p.unit.cells)) ps)) (filter (λ p. live p.instance) (candidates_from (n + 1) (k + bit (is_symbolic p.unit.cells)) ps)))) l);
          entries = r.entries ∙ sym (ap (λ v. map (entry (λ p. f p.place)) (cond v (record { place = n; rank = k; instance = p } ∷ filter (λ p. live p.instance) (candidates_from (n + 1) (k + bit (is_symbolic p.unit.cells)) ps)) (filter (λ p. live p.instance) (candidates_from (n + 1) (k + bit (is_symbolic p.unit.cells)) ps)))) l);
        }

-- and instances in stages are a placement
pub laid_entries : (live : Instance → Bool) (at : Candidate → ℕ) (ps : List Candidate) → laid (map (λ p. p.instance) ps) (map (entry at) ps) ≡ map (put_at at) ps
laid_entries live at [] = refl
laid_entries live at (p ∷ ps) = ap (λ l. put_at at p ∷ l) (laid_entries live at ps)

pub pairs_named : (at : Candidate → ℕ) (ps : List Candidate) → map named_pair (map (entry at) ps) ≡ map pair_of (map (λ p. p.instance) ps)
pairs_named at [] = refl
pairs_named at (p ∷ ps) = ap (λ l. pair_of p.instance ∷ l) (pairs_named at ps)
