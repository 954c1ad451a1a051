-- No fault stands beside clauses that all hold.
use Rattle.std.proofs.Common.{◌≡◌, ◌∙◌, ℕ, ◌+◌, ◌<◌, Bool, true, List, [], ◌∷◌, map, nat_eq, refl, ap, arith, Some, None}
use Rattle.std.specs.Prelude.{if◌then◌else◌}
use Rattle.std.specs.List.{AllByRecursion}
use Rattle.std.proofs.lemmas.Bool.{and_from, eq-eqb}
use Rattle.elastic_ast.specs.Units.Instances.{nth_size, pair_of, instances}
use Rattle.target_desc.specs.declared.target.Target.{Target}
use Rattle.dep_graph.specs.declared.resource.Resource.TheVariants as resource
use Rattle.dep_graph.specs.Laid.{Placed}
use Rattle.dep_graph.specs.PlacementRules.{named_pair, StandInOrder, OrderIsKept, UsesFit}
use Rattle.place_check.specs.FirstFault.{placed_of, FirstWithout, Here, Later, same_pair, first_difference, each_pair, resources, stage_resources, FitsIn, Terms, Instances, StageOut, Order, Over, Header}
use Rattle.place_check.specs.OneAnswer.{FaultsExclude}
use Rattle.place_check.proofs.FaultLaws.{all_both, all_map, turns_all}

no_first : {A : Type 0} (Holds : A → Type 0) (xs : List A) (x : A) → FirstWithout Holds xs x → AllByRecursion Holds xs → ⊥
no_first Holds _ _ (Here x rest fails) all = fails all.0
no_first Holds _ _ (Later first x rest stands more) all = no_first Holds rest x more all.1

alike : (pair : ℕ × ℕ) → same_pair pair pair ≡ true
alike pair = and_from (nat_eq pair.0 pair.0) (nat_eq pair.1 pair.1) (eq-eqb pair.0 pair.0 refl) (eq-eqb pair.1 pair.1 refl)

none_alike : (place : ℕ) (pairs : List (ℕ × ℕ)) → first_difference place pairs pairs ≡ None
none_alike place [] = refl
none_alike place (pair ∷ pairs) = ap (λ (b : Bool). if b then first_difference (place + 1) pairs pairs else Some place) (alike pair) ∙ none_alike (place + 1) pairs

abbrev Pairwise : Placed × Placed → Type 0
Pairwise pair = StandInOrder pair.0 pair.1

each_stands : (placed : List Placed) → OrderIsKept placed → AllByRecursion Pairwise (each_pair placed)
each_stands [] h = tt
each_stands (first ∷ rest) h =
    all_both Pairwise (map (λ later. (first, later)) rest) (each_pair rest) (all_map Pairwise (λ (later : Placed). (first, later)) rest h.0) (each_stands rest h.1)

module _ (target : Target) (sizes : ℕ → ℕ) (placed : List Placed) where
  row_fits : UsesFit target sizes placed → (stage : ℕ) → stage < target.stages → AllByRecursion (FitsIn target sizes placed) (map (λ kind. (stage, kind)) resources)
  row_fits fit stage l = (fit stage l resource.Stateful, (fit stage l resource.Stateless, (fit stage l resource.Memory, (fit stage l resource.TableBits, (fit stage l resource.TernaryBits, tt)))))

  slots_fit : UsesFit target sizes placed → AllByRecursion (FitsIn target sizes placed) (stage_resources target.stages)
  slots_fit fit = turns_all (FitsIn target sizes placed) (λ stage. map (λ kind. (stage, kind)) resources) target.stages (row_fits fit)

pub excluded : FaultsExclude
excluded units target sizes placement _ (Terms fails) hold = fails hold.before.before.before.before.assumed
excluded units target sizes placement _ (Instances place terms differ) hold =
    let none : first_difference 0 (map named_pair placement) (map pair_of (instances units.list (nth_size sizes))) ≡ None =
    ap (λ (pairs : List (ℕ × ℕ)). first_difference 0 pairs (map pair_of (instances units.list (nth_size sizes)))) hold.before.before.before.before.listed ∙ none_alike 0 (map pair_of (instances units.list (nth_size sizes))) in
    cc
excluded units target sizes placement _ (StageOut one before first) hold =
    no_first (λ one. one.stage < target.stages) (placed_of units sizes placement) one first hold.before.before.before.staged
excluded units target sizes placement _ (Order first second before misplaced) hold =
    no_first Pairwise (each_pair (placed_of units sizes placement)) (first, second) misplaced (each_stands (placed_of units sizes placement) hold.before.before.ordered)
excluded units target sizes placement _ (Over stage kind before over) hold =
    no_first (FitsIn target (nth_size sizes) (placed_of units sizes placement)) (stage_resources target.stages) (stage, kind) over (slots_fit target (nth_size sizes) (placed_of units sizes placement) hold.before.fitting)
excluded units target sizes placement _ (Header before over) hold = let h = hold.header in absurd (omega (arith, over, h))
