-- Whether uses fit a target, by computing: stage after stage, and resource after resource.
use Rattle.std.proofs.Common.{◌≡◌, ℕ, zero, suc, ◌<◌, ◌≤◌, Bool, true, false, ◌&&◌, List, leb, nat_eq, arith, refl, subst, sym}
use Rattle.std.proofs.lemmas.Bool.{leb-true, eqb-true, eqb-false, and_parts}
use Rattle.target_desc.specs.declared.target.Target.{Target}
use Rattle.dep_graph.specs.declared.resource.Resource.{Resource}
use Rattle.dep_graph.specs.declared.resource.Resource.TheVariants as resource
use Rattle.dep_graph.specs.Laid.{Placed}
use Rattle.dep_graph.specs.Use.{use_of, limit_of}
use Rattle.dep_graph.specs.PlacementRules.{UsesFit}

abbrev fits : Target → (ℕ → ℕ) → List Placed → ℕ → Resource → Bool
fits target sizes placed stage kind = leb (use_of kind sizes stage placed) (limit_of kind target)

abbrev stage_fits : Target → (ℕ → ℕ) → List Placed → ℕ → Bool
stage_fits target sizes placed stage =
    fits target sizes placed stage resource.Stateful
    && (fits target sizes placed stage resource.Stateless
    && (fits target sizes placed stage resource.Memory
    && (fits target sizes placed stage resource.TableBits && fits target sizes placed stage resource.TernaryBits)))

abbrev stages_fit : Target → (ℕ → ℕ) → List Placed → ℕ → Bool
stages_fit target sizes placed zero = true
stages_fit target sizes placed (suc stage) = stage_fits target sizes placed stage && stages_fit target sizes placed stage

-- each resource fits in a stage
abbrev Fits : Target → (ℕ → ℕ) → List Placed → ℕ → Resource → Type 0
Fits target sizes placed stage kind = use_of kind sizes stage placed ≤ limit_of kind target

each_kind : (P : Resource → Type 0) → P resource.Stateful → P resource.Stateless → P resource.Memory → P resource.TableBits → P resource.TernaryBits → (kind : Resource) → P kind
each_kind P a b c d e resource.Stateful = a
each_kind P a b c d e resource.Stateless = b
each_kind P a b c d e resource.Memory = c
each_kind P a b c d e resource.TableBits = d
each_kind P a b c d e resource.TernaryBits = e

each : (target : Target) (sizes : ℕ → ℕ) (placed : List Placed) (stage : ℕ) → stage_fits target sizes placed stage ≡ true → (kind : Resource) → Fits target sizes placed stage kind
each target sizes placed stage e =
    let first = and_parts _ _ e in
    let second = and_parts _ _ first.1 in
    let third = and_parts _ _ second.1 in
    let last = and_parts _ _ third.1 in
    each_kind (Fits target sizes placed stage) (leb-true _ _ first.0) (leb-true _ _ second.0) (leb-true _ _ third.0) (leb-true _ _ last.0) (leb-true _ _ last.1)

below : (target : Target) (sizes : ℕ → ℕ) (placed : List Placed) (stages : ℕ) → stages_fit target sizes placed stages ≡ true → (stage : ℕ) → stage < stages → (kind : Resource) → Fits target sizes placed stage kind
below target sizes placed zero e stage lt = absurd (omega (arith, lt))
below target sizes placed (suc last) e stage lt =
    let parts = and_parts (stage_fits target sizes placed last) (stages_fit target sizes placed last) e in
    by (nat_eq stage last) refl parts.0 (λ less. below target sizes placed last parts.1 stage less)
  where
    by : (same : Bool) → nat_eq stage last ≡ same → stage_fits target sizes placed last ≡ true → (stage < last → (kind : Resource) → Fits target sizes placed stage kind) → (kind : Resource) → Fits target sizes placed stage kind
    by true same fit rest = subst (λ (s : ℕ). (kind : Resource) → Fits target sizes placed s kind) (sym (eqb-true stage last same)) (each target sizes placed last fit)
    by false same fit rest = rest (let d = eqb-false stage last same in omega (arith, lt, d))

pub fitting_by : (target : Target) (sizes : ℕ → ℕ) (placed : List Placed) → stages_fit target sizes placed target.stages ≡ true → UsesFit target sizes placed
fitting_by target sizes placed e = below target sizes placed target.stages e
