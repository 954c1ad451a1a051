-- When two instances may work in either order; this project's own.
use Rattle.std.specs.Prelude.{◌≡◌, ◌≢◌, ℕ, ◌⊎◌, All, List, None}
use Rattle.elastic_ast.specs.Tree.{PlainDecl}
use Rattle.elastic_ast.specs.Meaning.Memory.{Spot, Memory, Writes, over}
use Rattle.elastic_ast.specs.Units.UnitsOf.{units_of}
use Rattle.elastic_ast.specs.Units.Instances.{Instance, instances}
use Rattle.elastic_ast.specs.Units.Order.{Relation, order_of}
use Rattle.elastic_ast.specs.Units.Work.{instance_writes, after_instance}
use Rattle.elastic_laws.specs.Units.Footprints.{TablesFit}

-- the second writes the same before and after the first
pub record Undisturbed (first second : Memory → Writes) : Type 0 where
  pub same : (memory : Memory) → second (over (first memory) memory) ≡ second memory

-- neither disturbs the other, and at each spot at most one writes
pub record AreFree (first second : Memory → Writes) : Type 0 where
  pub second_kept : Undisturbed first second
  pub first_kept : Undisturbed second first
  pub apart : (memory : Memory) (spot : Spot) → (second memory spot ≡ None) ⊎ (first memory spot ≡ None)

abbrev pub writes_of : List PlainDecl → List ℕ → Instance → Memory → Writes
writes_of decls sizes instance memory = instance_writes instance decls sizes memory

-- a relation of each two instances of a program
abbrev pub OfEachTwo : List PlainDecl → (ℕ → ℕ) → (Instance → Instance → Type 0) → Type 0
OfEachTwo decls counts Related =
    All (λ first. All (Related first) (instances (units_of decls) counts)) (instances (units_of decls) counts)

-- an instance whose order to another isn't `Before` doesn't disturb it
abbrev pub OrderIsUndisturbed : Type 0
OrderIsUndisturbed =
    (decls : List PlainDecl) → TablesFit decls → (counts : ℕ → ℕ) (sizes : List ℕ) →
    OfEachTwo decls counts (λ first second. order_of first second ≢ Relation.Before → Undisturbed (writes_of decls sizes first) (writes_of decls sizes second))

-- two instances whose order is `Free` are free
abbrev pub OrderIsFree : Type 0
OrderIsFree =
    (decls : List PlainDecl) → TablesFit decls → (counts : ℕ → ℕ) (sizes : List ℕ) →
    OfEachTwo decls counts (λ first second. order_of first second ≡ Relation.Free → AreFree (writes_of decls sizes first) (writes_of decls sizes second))

-- the memory after two instances whose order is `Free` is the same in either order
abbrev pub FreeExchange : Type 0
FreeExchange =
    (decls : List PlainDecl) → TablesFit decls → (counts : ℕ → ℕ) (sizes : List ℕ) →
    OfEachTwo decls counts (λ first second. order_of first second ≡ Relation.Free → (memory : Memory) → after_instance second decls sizes (after_instance first decls sizes memory) ≡ after_instance first decls sizes (after_instance second decls sizes memory))
