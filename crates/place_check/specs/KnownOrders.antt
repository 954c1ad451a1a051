-- Orders of two units that are kept at hand; this project's own.
use Rattle.std.specs.Prelude.{◌≡◌, ℕ, Bool, List, get_or, Option, IfSome, All, if◌then◌else◌}
use Rattle.elastic_ast.specs.Units.PlainUnits.{PlainUnit}
use Rattle.elastic_ast.specs.Units.Order.{Relation, order}
use Rattle.dep_graph.specs.declared.relation.Relation.{Relation as Answer}
use Rattle.dep_graph.specs.SeenRelation.{seen_relation}
use Rattle.place_check.specs.declared.order.Known.{Known}
use Rattle.place_check.specs.Standing.{no_unit}

-- the order where the indices are equal, or where they differ
abbrev pub relation_at : Known → Bool → Answer
relation_at known equal = if equal then known.equal else known.different

-- the order of an instance and a later one, each as the number of its unit and its index
abbrev pub order_at : List PlainUnit → ℕ × ℕ → ℕ × ℕ → Relation
order_at units first later = order (get_or units first.0 no_unit) (get_or units later.0 no_unit) first.1 later.1

-- what is kept of two units is their order at equal indices, and at indices that differ
pub record IsKnown (units : List PlainUnit) (known : Known) : Type 0 where
  pub equal : seen_relation known.equal ≡ order (get_or units known.first no_unit) (get_or units known.second no_unit) 0 0
  pub different : seen_relation known.different ≡ order (get_or units known.first no_unit) (get_or units known.second no_unit) 0 1

abbrev pub AreKnown : List PlainUnit → List (Option Known) → Type 0
AreKnown units kept = All (λ slot. IfSome slot (IsKnown units)) kept
