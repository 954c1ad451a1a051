-- What values of the variables mean, and the values of sizes with a stage for each instance at the bounds.
use Rattle.std.proofs.Common.{◌≡◌, ℕ, ◌<◌, ◌≤◌, true, cond, ◌&&◌, List, Option, Some, None}
use Rattle.std.specs.Prelude.{nat_eq, nat_lt, nat_le}
use Rattle.std.specs.List.{AllByRecursion}
use Rattle.elastic_ast.specs.Meaning.Values.{bit}
use Rattle.elastic_ast.specs.Units.PlainUnits.{PlainUnit, PlainUnits}
use Rattle.elastic_ast.specs.Units.Order.{order_of}
use Rattle.elastic_laws.specs.Units.LiveInstances.{is_live}
use Rattle.target_desc.specs.declared.target.Target.{Target}
use Rattle.dep_graph.specs.declared.resource.Resource.{Resource}
use Rattle.dep_graph.specs.PlacementRules.{StandsSo, EachLater}
use Rattle.dep_graph.specs.Use.{cell_count, taken_by, limit_of}
use Rattle.ilp_model.specs.Candidates.{Candidate}
use Rattle.ilp_model.specs.StepKeys.{StepKey}
use Rattle.ilp_model.specs.Variables.{Variable, symbol_count}
use Rattle.unroll_bound.specs.Counts.{is_looped}
use Rattle.ilp_model.specs.Variables.Variable.{Size, Exists, Reached, Stands, Held}
use Rattle.ilp_model.specs.PairOf.{last_one}
use Rattle.ilp_model.proofs.Totals.{total}

-- what the instances that are there take in a stage
abbrev pub taken_in : (ℕ → ℕ) → (Candidate → ℕ) → (PlainUnit → ℕ) → ℕ → List Candidate → ℕ
taken_in sizes stage_of amount stage ones = total (λ p. cond (is_live sizes p.instance && nat_eq (stage_of p) stage) (amount p.instance.unit) 0) ones

-- the rules of a placement, over all instances at the bounds, of which those that are there stand in stages
pub record AreLaid (target : Target) (sizes : ℕ → ℕ) (stage_of : Candidate → ℕ) (ones : List Candidate) : Type 0 where
  pub stages : AllByRecursion (λ p. is_live sizes p.instance ≡ true → stage_of p < target.stages) ones
  pub order : EachLater (λ p q. is_live sizes p.instance ≡ true → is_live sizes q.instance ≡ true → StandsSo (order_of p.instance q.instance) (stage_of p) (stage_of q)) ones
  pub uses : (stage : ℕ) → stage < target.stages → (kind : Resource) → taken_in sizes stage_of (taken_by kind sizes) stage ones ≤ limit_of kind target

-- how often an instance is there
abbrev pub there : (Variable → ℕ) → Option ℕ → ℕ → ℕ
there n None i = 1
there n (Some s) i = n (Exists s i)

-- the stage in which values of the variables put an instance
abbrev pub stage_at : ℕ → (Variable → ℕ) → Candidate → ℕ
stage_at stages n p = last_one (λ t. n (Stands p t)) stages

-- the values of the variables at sizes and stages
abbrev pub valued : (ℕ → ℕ) → (Candidate → ℕ) → Variable → ℕ
valued z at (Size s) = z s
valued z at (Exists s i) = bit (nat_lt i (z s))
valued z at (Reached j) = bit (nat_le j.key (z j.symbol))
valued z at (Stands p t) = bit (is_live z p.instance && nat_eq (at p) t)
valued z at (Held p t) = cond (is_live z p.instance && nat_eq (at p) t) (cell_count z p.instance.unit.cells) 0

-- a loop with units runs over a symbol of the units
abbrev pub IsLoop : PlainUnits → ℕ → Type 0
IsLoop units s = (s < symbol_count units) × (is_looped units.list s ≡ true)

-- an instance at the bounds is outside of loops, or at an index below the bound of such a symbol
abbrev pub Belongs : PlainUnits → (ℕ → ℕ) → Option ℕ → ℕ → Type 0
Belongs units b None i = Unit {0}
Belongs units b (Some s) i = (i < b s) × IsLoop units s

-- a key is above 0 and within the bound
abbrev pub IsKey : (ℕ → ℕ) → StepKey → Type 0
IsKey b j = (1 ≤ j.key) × (j.key ≤ b j.symbol)
