-- From what the tests find to the first fault.
use Rattle.std.proofs.Common.{◌≡◌, ◌∙◌, ℕ, ◌<◌, List, sym, ap, subst, Some, None}
use Rattle.std.specs.Prelude.{nat_le}
use Rattle.std.specs.List.{AllByRecursion, find}
use Rattle.elastic_ast.specs.declared.flat.At.{At}
use Rattle.elastic_ast.specs.Units.PlainUnits.{PlainUnits}
use Rattle.elastic_ast.specs.Units.Instances.{nth_size}
use Rattle.target_desc.specs.declared.target.Target.{Target}
use Rattle.dep_graph.specs.declared.resource.Resource.{Resource}
use Rattle.dep_graph.specs.Laid.{Placed}
use Rattle.dep_graph.specs.Use.{use_of, limit_of}
use Rattle.dep_graph.specs.PlacementRules.{StandInOrder, OrderIsKept, UsesFit}
use Rattle.place_check.specs.declared.fault.PlaceFault.TheVariants as fault
use Rattle.place_check.specs.FirstFault.{placed_of, Listed, Staged, Ordered, Fitting, FirstWithout, FirstFault, StageOut, Order, Over, each_pair, stage_resources, FitsIn}
use Rattle.place_check.specs.Misplaced.{first_against}
use Rattle.place_check.specs.Overfull.{NoneOver, IsFirstOver}
use Rattle.place_check.specs.Standing.{placed_at, standing, NamesUnits}
use Rattle.place_check.proofs.KnownLaws.{stands_listed, names_listed}
use Rattle.place_check.proofs.FaultLaws.{out_first, none_out, none_against, against_pair, over_first, over_used, none_over}

module _ (units : PlainUnits) (target : Target) (sizes : List ℕ) (placement : List At) where
  abbrev Stood : List Placed
  Stood = standing units.list placement

  stood : Listed units sizes placement → Stood ≡ placed_of units sizes placement
  stood before = sym (stands_listed units.list (nth_size sizes) placement before.listed)

  pub named : Listed units sizes placement → NamesUnits units.list placement
  named before = names_listed units.list (nth_size sizes) placement before.listed

  pub stage_fault : (at : At) → Listed units sizes placement → find (λ at. nat_le target.stages at.stage) placement ≡ Some at → FirstFault units target sizes placement (fault.StageOut at.unit at.index at.stage)
  stage_fault at before e =
      StageOut (placed_at units.list at) before
      (subst (λ (z : List Placed). FirstWithout (λ one. one.stage < target.stages) z (placed_at units.list at)) (stood before) (out_first units.list target.stages placement at e))

  pub all_staged : Listed units sizes placement → find (λ at. nat_le target.stages at.stage) placement ≡ None → Staged units target sizes placement
  all_staged before e = record {
    before = before;
    staged = subst (λ (z : List Placed). AllByRecursion (λ one. one.stage < target.stages) z) (stood before) (none_out units.list target.stages placement e);
  }

  pub order_fault : (first other : At) → Staged units target sizes placement → first_against units.list placement ≡ Some (first, other) → FirstFault units target sizes placement (fault.Order first.unit first.index other.unit other.index)
  order_fault first other before e =
      Order (placed_at units.list first) (placed_at units.list other) before
      (subst (λ (z : List Placed). FirstWithout (λ pair. StandInOrder pair.0 pair.1) (each_pair z) (placed_at units.list first, placed_at units.list other)) (stood before.before) (against_pair units.list placement (first, other) e))

  pub all_ordered : Staged units target sizes placement → first_against units.list placement ≡ None → Ordered units target sizes placement
  all_ordered before e = record {
    before = before;
    ordered = subst OrderIsKept (stood before.before) (none_against units.list placement e);
  }

  pub over_fault : (stage : ℕ) (kind : Resource) (used limit : ℕ) → Ordered units target sizes placement → IsFirstOver target (nth_size sizes) (standing units.list placement) stage kind used → limit ≡ limit_of kind target → FirstFault units target sizes placement (fault.Over stage kind used limit)
  over_fault stage kind used limit before over e =
      let amount : used ≡ use_of kind (nth_size sizes) stage (placed_of units sizes placement) =
      over_used target (nth_size sizes) (standing units.list placement) stage kind used over ∙ ap (use_of kind (nth_size sizes) stage) (stood before.before.before) in
      subst (λ (n : ℕ). FirstFault units target sizes placement (fault.Over stage kind n limit)) (sym amount)
      (subst (λ (n : ℕ). FirstFault units target sizes placement (fault.Over stage kind (use_of kind (nth_size sizes) stage (placed_of units sizes placement)) n)) (sym e)
      (Over stage kind before
      (subst (λ (z : List Placed). FirstWithout (FitsIn target (nth_size sizes) z) (stage_resources target.stages) (stage, kind)) (stood before.before.before) (over_first target (nth_size sizes) (standing units.list placement) stage kind used over))))

  pub all_fitting : Ordered units target sizes placement → NoneOver target (nth_size sizes) (standing units.list placement) target.stages → Fitting units target sizes placement
  all_fitting before none = record {
    before = before;
    fitting = subst (UsesFit target (nth_size sizes)) (stood before.before.before) (none_over target (nth_size sizes) (standing units.list placement) none);
  }
