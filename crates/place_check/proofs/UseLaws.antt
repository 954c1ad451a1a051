-- What is taken of a stage, one place of a placement after the other.
use Rattle.std.proofs.Common.{◌≡◌, ◌∙◌, ℕ, zero, suc, ◌+◌, ◌<◌, List, [], ◌∷◌, drop, length, get_or, refl, ap, arith}
use Rattle.std.proofs.lemmas.List.{drop_more}
use Rattle.elastic_ast.specs.declared.flat.At.{At}
use Rattle.elastic_ast.specs.Units.PlainUnits.{PlainUnit}
use Rattle.dep_graph.specs.declared.resource.Resource.{Resource}
use Rattle.dep_graph.specs.declared.resource.Resource.TheVariants as resource
use Rattle.dep_graph.specs.Use.{use_of}
use Rattle.dep_graph.specs.HeaderBits.{weighed}
use Rattle.place_check.specs.declared.uses.StageUse.{StageUse}
use Rattle.place_check.specs.Standing.{placed_at, standing}
use Rattle.place_check.specs.Sums.{AddsUse}

-- what is taken so far, and what the places from a number on take, are together what all take
abbrev pub Remains : (ℕ → ℕ) → List PlainUnit → List At → ℕ → ℕ → Resource → ℕ → Type 0
Remains sizes units placement stage i kind used = used + use_of kind sizes stage (standing units (drop i placement)) ≡ use_of kind sizes stage (standing units placement)

pub record StillToTake (sizes : ℕ → ℕ) (units : List PlainUnit) (placement : List At) (stage i : ℕ) (used : StageUse) : Type 0 where
  pub stateful : Remains sizes units placement stage i resource.Stateful used.stateful
  pub stateless : Remains sizes units placement stage i resource.Stateless used.stateless
  pub memory : Remains sizes units placement stage i resource.Memory used.memory
  pub table_bits : Remains sizes units placement stage i resource.TableBits used.table_bits
  pub ternary_bits : Remains sizes units placement stage i resource.TernaryBits used.ternary_bits

-- what stands at a place of a placement
abbrev pub at_place : List At → ℕ → At
at_place placement i = get_or placement i record { unit = 0; index = 0; stage = 0 }

module _ (sizes : ℕ → ℕ) (units : List PlainUnit) (placement : List At) (stage i : ℕ) (h : i < length placement) where
  use_step : (kind : Resource) → use_of kind sizes stage (standing units (drop i placement)) ≡ use_of kind sizes stage (placed_at units (at_place placement i) ∷ []) + use_of kind sizes stage (standing units (drop (i + 1) placement))
  use_step kind = ap (λ z. use_of kind sizes stage (standing units z)) (drop_more placement i (record { unit = 0; index = 0; stage = 0 }) h) ∙ omega arith

  one_taken : (kind : Resource) (old new : ℕ) → new ≡ old + use_of kind sizes stage (placed_at units (at_place placement i) ∷ []) → Remains sizes units placement stage i kind old → Remains sizes units placement stage (i + 1) kind new
  one_taken kind old new step inv = let s = use_step kind in omega (arith, s, step, inv)

  pub takes_on : (old new : StageUse) → AddsUse sizes stage (placed_at units (at_place placement i)) old new → StillToTake sizes units placement stage i old → StillToTake sizes units placement stage (i + 1) new
  takes_on old new step inv = record {
    stateful = one_taken resource.Stateful old.stateful new.stateful step.stateful inv.stateful;
    stateless = one_taken resource.Stateless old.stateless new.stateless step.stateless inv.stateless;
    memory = one_taken resource.Memory old.memory new.memory step.memory inv.memory;
    table_bits = one_taken resource.TableBits old.table_bits new.table_bits step.table_bits inv.table_bits;
    ternary_bits = one_taken resource.TernaryBits old.ternary_bits new.ternary_bits step.ternary_bits inv.ternary_bits;
  }

weighed_nil : (bits : List ℕ) → weighed bits [] ≡ 0
weighed_nil [] = refl
weighed_nil (x ∷ bits) = refl

-- behind the end of one of the lists nothing is added
pub weighed_past : (bits sizes : List ℕ) (i : ℕ) → (i < length bits → i < length sizes → ⊥) → weighed (drop i bits) (drop i sizes) ≡ 0
weighed_past [] sizes zero h = refl
weighed_past [] sizes (suc i) h = refl
weighed_past (x ∷ bits) [] zero h = refl
weighed_past (x ∷ bits) [] (suc i) h = weighed_nil (drop i bits)
weighed_past (x ∷ bits) (y ∷ sizes) zero h = absurd (h (omega arith) (omega arith))
weighed_past (x ∷ bits) (y ∷ sizes) (suc i) h = weighed_past bits sizes i (λ p q. h (omega (arith, p)) (omega (arith, q)))
