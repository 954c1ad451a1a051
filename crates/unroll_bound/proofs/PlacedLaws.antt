-- The instances in the stages of a placement: what they take of all stages, and those of one unit.
use Rattle.std.proofs.Common.{◌≡◌, ℕ, zero, suc, ◌+◌, ◌*◌, ◌<◌, ◌≤◌, Bool, true, false, cond, nat_eq, List, [], ◌∷◌, map, length, get_or, refl, sym, ap, ◌∙◌, subst, arith}
use Rattle.std.specs.List.{AllByRecursion}
use Rattle.std.proofs.lemmas.Bool.{eq-eqb}
use Rattle.elastic_ast.specs.declared.flat.At.{At}
use Rattle.elastic_ast.specs.Units.PlainUnits.{PlainUnit}
use Rattle.elastic_ast.specs.Units.Instances.{Instance, pair_of, instances}
use Rattle.dep_graph.specs.Laid.{Placed, laid}
use Rattle.dep_graph.specs.PlacementRules.{named_pair, ListsInstances, EachLater}
use Rattle.dep_graph.specs.Use.{sum_in}
use Rattle.place_check.specs.Standing.{no_unit, placed_at}
use Rattle.place_check.specs.Walking.{turns_of}
use Rattle.place_check.proofs.KnownLaws.{stands_listed}
use Rattle.unroll_bound.proofs.Totals.{each_more, each_two, each_any, each_mapped, total, total_map, sum_below, below_plus, below_zero, one_below}
use Rattle.unroll_bound.proofs.InstanceTotals.{turned_from, instances_total}

-- what all stages together are asked for is what all instances take
pub stage_sums : (amount : PlainUnit → ℕ) (stages : ℕ) (placed : List Placed) → AllByRecursion (λ one. one.stage < stages) placed → sum_below (λ stage. sum_in amount stage placed) stages ≡ total (λ one. amount one.instance.unit) placed
stage_sums amount stages [] h = below_zero stages
stage_sums amount stages (one ∷ placed) h =
    omega (
      arith,
      below_plus (λ stage. cond (nat_eq one.stage stage) (amount one.instance.unit) 0) (λ stage. sum_in amount stage placed) stages,
      one_below one.stage (amount one.instance.unit) stages h.0,
      stage_sums amount stages placed h.1,
    )

laid_at : (ps : List Instance) (cs : List At) → map named_pair cs ≡ map pair_of ps → map (λ one. one.instance) (laid ps cs) ≡ ps
laid_at [] cs e = refl
laid_at (p ∷ ps) [] e = cc
laid_at (p ∷ ps) (c ∷ cs) e = ap (λ l. p ∷ l) (laid_at ps cs (cc))

module _ (units : List PlainUnit) (sizes : ℕ → ℕ) (placement : List At) (listed : ListsInstances units sizes placement) where
  -- an amount of each placed instance, added up: for each unit so often as it runs
  pub placed_total : (amount : ℕ → PlainUnit → ℕ) → total (λ one. amount one.instance.number one.instance.unit) (laid (instances units sizes) placement) ≡ turned_from sizes amount 0 units
  placed_total amount =
      sym (total_map (λ p. amount p.number p.unit) (λ one. one.instance) (laid (instances units sizes) placement))
      ∙ ap (total (λ p. amount p.number p.unit)) (laid_at (instances units sizes) placement listed)
      ∙ instances_total sizes amount units

  -- the unit of each placed instance is that of its number
  pub placed_units : AllByRecursion (λ one. one.instance.unit ≡ get_or units one.instance.number no_unit) (laid (instances units sizes) placement)
  placed_units =
      subst (AllByRecursion (λ one. one.instance.unit ≡ get_or units one.instance.number no_unit)) (sym (stands_listed units sizes placement listed))
      (each_mapped (placed_at units) (λ one. one.instance.unit ≡ get_or units one.instance.number no_unit) placement
      (each_any (λ at. (placed_at units at).instance.unit ≡ get_or units (placed_at units at).instance.number no_unit) (λ at. refl) placement))

-- one for each instance of the unit of a number
abbrev pub hits : ℕ → ℕ → PlainUnit → ℕ
hits unit number other = cond (nat_eq number unit) 1 0

-- a unit has so many instances as it runs, at least
pub hits_le : (sizes : ℕ → ℕ) (m n k : ℕ) (units : List PlainUnit) → m ≡ n + k → k < length units → turns_of sizes (get_or units k no_unit).size ≤ turned_from sizes (hits m) n units
hits_le sizes m n k [] e h = absurd (omega arith)
hits_le sizes m n zero (unit ∷ units) e h = let t = ap (λ (v : Bool). turns_of sizes unit.size * cond v 1 0) (eq-eqb n m (omega (arith, e))) in omega (arith, t)
hits_le sizes m n (suc k) (unit ∷ units) e h = omega (arith, hits_le sizes m (n + 1) k units (omega (arith, e)) (omega arith))

-- where there is one, what follows from each follows
pub found_one : (test : Placed → Bool) (Q : Type 0) (placed : List Placed) → AllByRecursion (λ one. test one ≡ true → Q) placed → 1 ≤ total (λ one. cond (test one) 1 0) placed → Q
found_one test Q [] h k = absurd (omega arith)
found_one test Q (one ∷ placed) h k = go (test one) refl k (λ l. found_one test Q placed h.1 l)
  where
    go : (v : Bool) → test one ≡ v → 1 ≤ cond v 1 0 + total (λ one. cond (test one) 1 0) placed → (1 ≤ total (λ one. cond (test one) 1 0) placed → Q) → Q
    go true e l ih = h.0 e
    go false e l ih = ih (omega (arith, l))

-- instances of which each stands in a later stage than the one before are no more than the stages
pub rise : (test : Placed → Bool) (low high : ℕ) (placed : List Placed) → low ≤ high → AllByRecursion (λ one. test one ≡ true → (low ≤ one.stage) × (one.stage < high)) placed
    → EachLater (λ one later. test one ≡ true → test later ≡ true → one.stage < later.stage) placed → low + total (λ one. cond (test one) 1 0) placed ≤ high
rise test low high [] l h k = omega arith
rise test low high (one ∷ placed) l h k = go (test one) refl (λ low2 l2 h2. rise test low2 high placed l2 h2 k.1)
  where
    go : (v : Bool) → test one ≡ v
        → ((low2 : ℕ) → low2 ≤ high → AllByRecursion (λ one. test one ≡ true → (low2 ≤ one.stage) × (one.stage < high)) placed → low2 + total (λ one. cond (test one) 1 0) placed ≤ high)
        → low + (cond v 1 0 + total (λ one. cond (test one) 1 0) placed) ≤ high
    go true e ih =
        let here = h.0 e in
        let rest = ih (one.stage + 1) (omega (arith, here.1))
        (each_two (λ later. test later ≡ true → (low ≤ later.stage) × (later.stage < high)) (λ later. test one ≡ true → test later ≡ true → one.stage < later.stage) (λ later. test later ≡ true → (one.stage + 1 ≤ later.stage) × (later.stage < high))
        (λ later p q f. (let a = q e f in let b = (p f).1 in (omega (arith, a), b))) placed h.1 k.0) in
        omega (arith, rest, here.0)
    go false e ih = omega (arith, ih low l h.1)

-- each instance takes no more than its stage is asked for
taken_one : (amount : PlainUnit → ℕ) (placed : List Placed) → AllByRecursion (λ one. amount one.instance.unit ≤ sum_in amount one.stage placed) placed
taken_one amount [] = tt
taken_one amount (one ∷ placed) = (
  (let e = ap (λ (v : Bool). cond v (amount one.instance.unit) 0) (eq-eqb one.stage one.stage refl) in omega (arith, e)),
  each_more (λ later. amount later.instance.unit ≤ sum_in amount later.stage placed) (λ later. amount later.instance.unit ≤ sum_in amount later.stage (one ∷ placed)) (λ later h. omega (arith, h)) placed (taken_one amount placed),
)

pub within_stage : (amount : PlainUnit → ℕ) (stages limit : ℕ) (placed : List Placed) → AllByRecursion (λ one. one.stage < stages) placed → ((stage : ℕ) → stage < stages → sum_in amount stage placed ≤ limit) → AllByRecursion (λ one. amount one.instance.unit ≤ limit) placed
within_stage amount stages limit placed h k =
    each_two (λ one. one.stage < stages) (λ one. amount one.instance.unit ≤ sum_in amount one.stage placed) (λ one. amount one.instance.unit ≤ limit) (λ one l m. (let a = k one.stage l in omega (arith, a, m))) placed h (taken_one amount placed)

-- the stages of each two, with what is known of the one and the other
pub later_known : (Known : Placed → Type 0) (Related Then : Placed → Placed → Type 0) → ((one later : Placed) → Known one → Known later → Related one later → Then one later) → (placed : List Placed) → AllByRecursion Known placed → EachLater Related placed → EachLater Then placed
later_known Known Related Then f [] h k = tt
later_known Known Related Then f (one ∷ placed) h k = (each_two Known (Related one) (Then one) (λ later a b. f one later h.0 a b) placed h.1 k.0, later_known Known Related Then f placed h.1 k.1)
