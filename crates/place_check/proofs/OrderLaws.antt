-- The order of two instances, from what is kept of their units.
use Rattle.std.proofs.Common.{◌≡◌, ◌∙◌, ℕ, Bool, true, false, List, get_or, nat_eq, refl, sym, ap}
use Rattle.std.proofs.lemmas.Bool.{eqb-true, eqb-false}
use Rattle.elastic_ast.specs.Units.PlainUnits.{PlainUnit}
use Rattle.elastic_ast.specs.Units.Order.{order}
use Rattle.dep_graph.specs.SeenRelation.{seen_relation}
use Rattle.dep_graph.proofs.IndexLaws.{indices}
use Rattle.place_check.specs.declared.order.Known.{Known}
use Rattle.place_check.specs.KnownOrders.{relation_at, order_at, IsKnown}
use Rattle.place_check.specs.Standing.{no_unit}

module _ (units : List PlainUnit) (known : Known) (first later : ℕ × ℕ) (is : IsKnown units known) (one : known.first ≡ first.0) (other : known.second ≡ later.0) where
  abbrev OrderIs : Bool → Type 0
  OrderIs equal = seen_relation (relation_at known equal) ≡ order_at units first later

  numbered : (i j : ℕ) → order (get_or units known.first no_unit) (get_or units known.second no_unit) i j ≡ order (get_or units first.0 no_unit) (get_or units later.0 no_unit) i j
  numbered i j = ap (λ (n : ℕ). order (get_or units n no_unit) (get_or units known.second no_unit) i j) one ∙ ap (λ (n : ℕ). order (get_or units first.0 no_unit) (get_or units n no_unit) i j) other

  by : (equal : Bool) → nat_eq first.1 later.1 ≡ equal → OrderIs equal
  by true e =
      is.equal ∙ numbered 0 0 ∙ sym (indices.equal (get_or units first.0 no_unit) (get_or units later.0 no_unit) first.1)
      ∙ ap (λ (j : ℕ). order (get_or units first.0 no_unit) (get_or units later.0 no_unit) first.1 j) (eqb-true first.1 later.1 e)
  by false e = is.different ∙ numbered 0 1 ∙ sym (indices.different (get_or units first.0 no_unit) (get_or units later.0 no_unit) first.1 later.1 (eqb-false first.1 later.1 e))

  -- what is kept tells the order
  pub order_known : seen_relation (relation_at known (nat_eq first.1 later.1)) ≡ order_at units first later
  order_known = by (nat_eq first.1 later.1) refl
