-- The order of two units at two indices hangs on whether the indices are equal.
use Rattle.std.proofs.Common.{◌≡◌, ℕ, Bool, true, false, not, ◌&&◌, ◌||◌, List, nat_eq, refl, sym, ap}
use Rattle.std.specs.List.{list_any}
use Rattle.std.proofs.lemmas.Bool.{eq-eqb, ne_eqb}
use Rattle.elastic_ast.specs.declared.flat.Location.{Location}
use Rattle.elastic_ast.specs.Units.PlainUnits.{PlainUnit}
use Rattle.elastic_ast.specs.Units.Reach.{is_own, one_thing}
use Rattle.elastic_ast.specs.Units.Order.{Relation, relation, order}
use Rattle.dep_graph.specs.OrderAtIndices.{OrderAtIndices}

-- a location of the first is one of the second, where it is told whether the indices are equal
abbrev meet_by : Bool → List Location → List Location → Bool
meet_by same ones others = list_any (λ one. list_any (λ other. one_thing one other && (not (is_own one && is_own other) || same)) others) ones

abbrev order_by : PlainUnit → PlainUnit → Bool → Relation
order_by first second same =
    relation (meet_by same second.reads first.writes) (meet_by same second.writes first.writes) (meet_by same second.writes first.reads)

by_equality : (first second : PlainUnit) (index index' : ℕ) (same : Bool) → nat_eq index' index ≡ same → order first second index index' ≡ order_by first second same
by_equality first second index index' same e = ap (order_by first second) e

pub indices : OrderAtIndices
indices = record {
  equal = λ first second index. by_equality first second index index true (eq-eqb index index refl);
  different = λ first second index index' differ. by_equality first second index index' false (ne_eqb index' index (λ e. differ (sym e)));
}
