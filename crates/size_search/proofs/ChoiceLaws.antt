-- From what is found of units to what becomes of their program.
use Rattle.std.proofs.Common.{◌≡◌, ℕ, ℤ, List, Option, Some, None, refl, sym, ap, ◌∙◌, subst}
use Rattle.std.specs.Prelude.{Result, Ok, Err, IfOk, ◌<◌}
use Rattle.std.specs.Option.{ForSome}
use Rattle.elastic_ast.specs.declared.flat.At.{At}
use Rattle.elastic_ast.specs.Tree.{PlainDecl}
use Rattle.elastic_ast.specs.Sizes.SizeSums.{utility}
use Rattle.elastic_ast.specs.Units.PlainUnits.{PlainUnits}
use Rattle.elastic_ast.specs.Units.Instances.{nth_size}
use Rattle.target_desc.specs.declared.target.Target.{Target}
use Rattle.dep_graph.specs.Feasible.{Feasible}
use Rattle.dep_graph.specs.Optimum.{Best}
use Rattle.place_check.proofs.UnitLaws.{feasible_alike}
use Rattle.int_program.specs.declared.program.Ip.{Ip}
use Rattle.int_program.specs.declared.program.Point.{Point}
use Rattle.int_program.specs.declared.program.Tree.{Tree}
use Rattle.int_program.specs.Points.{IsPoint, value_of}
use Rattle.int_program.specs.Accepts.{Accepts}
use Rattle.int_program.specs.Counting.{root_points}
use Rattle.int_program.specs.FairTrees.{IsAcceptedButOpen}
use Rattle.int_program.proofs.TreeLaws.{none_above, no_point}
use Rattle.branch_bound.specs.Found.{known_by, IsSearched, IsNoPoint}
use Rattle.unroll_bound.specs.BoundAnswers.{AreBoundsWithin, IsFirstUnbounded, IsTooMuch}
use Rattle.unroll_bound.specs.ProgramUnits.{units_of_program, AreKnownUnits}
use Rattle.unroll_bound.specs.declared.unit_bounds.What.{What}
use Rattle.unroll_bound.proofs.ProgramUnitLaws.{known_are}
use Rattle.ilp_model.specs.IpOf.{ip_of}
use Rattle.ilp_model.specs.PairOf.{sizes_of, placement_of}
use Rattle.ilp_model.specs.Agreement.{GivesFeasiblePair}
use Rattle.ilp_model.proofs.PairsAndPoints.{points_are_pairs}
use Rattle.ilp_model.proofs.BestLaws.{best_of_program, infeasible_program}
use Rattle.size_search.specs.Choice.{IsUnbounded, IsLarge, AreBoundsOf, ip_of_program, IsFeasiblePair, IsBestChoice, IsInfeasibleChoice, known_of, IsUnfinishedChoice, IsChoice}
use Rattle.size_search.specs.Chosen.{IsPlacedBy, ArePlacedBy, IsBestChosen, IsUnfinishedChosen, IsChosen}
use Rattle.size_search.specs.declared.choosing.Choice.{Choice}
use Rattle.size_search.specs.declared.choosing.Choice.TheVariants as choice
use Rattle.size_search.specs.declared.choosing.Placed.{Placed}

pub unbounded_is : (decls : List PlainDecl) (units : PlainUnits) (target : Target) (symbol : ℕ) → AreKnownUnits decls units → IsFirstUnbounded units target symbol → IsUnbounded decls target symbol
unbounded_is decls units target symbol known is = subst (λ u. IsFirstUnbounded u target symbol) (known_are decls units known) is

pub large_is : (decls : List PlainDecl) (units : PlainUnits) (target : Target) (what : What) (count : ℕ) → AreKnownUnits decls units → IsTooMuch units target what count → IsLarge decls target what count
large_is decls units target what count known is = subst (λ u. IsTooMuch u target what count) (known_are decls units known) is

module _ (decls : List PlainDecl) (units : PlainUnits) (target : Target) (bounds : List ℕ) (limit : ℕ) (known : AreKnownUnits decls units) (are : AreBoundsWithin units target bounds) where
  abbrev ip : Ip
  ip = ip_of units target (nth_size bounds)

  same : units ≡ units_of_program decls
  same = known_are decls units known

  same_ip : ip ≡ ip_of_program decls target bounds
  same_ip = ap (λ u. ip_of u target (nth_size bounds)) same

  have : AreBoundsOf decls target bounds
  have = subst (λ u. AreBoundsWithin u target bounds) same are

  pair : (point : List ℤ) → IsPoint ip point → GivesFeasiblePair units target (nth_size bounds) point
  pair point is = points_are_pairs units target (nth_size bounds) point known.sound is

  -- the value of a point is the utility of its sizes
  value : (point : List ℤ) (placed : Placed) → IsPoint ip point → IsPlacedBy units target bounds point placed → value_of ip point ≡ placed.utility
  value point placed is by = (pair point is).value ∙ sym by.worth

  utility_is : (point : List ℤ) (placed : Placed) → IsPlacedBy units target bounds point placed → placed.utility ≡ utility decls placed.sizes.values
  utility_is point placed by = by.worth ∙ known.units_are.utility (sizes_of units point) ∙ ap (utility decls) (sym by.sizes)

  of_placed : (P : List ℕ → List At → Type 0) (point : List ℤ) (placed : Placed) → IsPlacedBy units target bounds point placed
      → P (sizes_of units point) (placement_of units target (nth_size bounds) point) → P placed.sizes.values placed.placement.at
  of_placed P point placed by p =
      subst (λ (g : List At). P placed.sizes.values g) (sym by.placement)
      (subst (λ (s : List ℕ). P s (placement_of units target (nth_size bounds) point)) (sym by.sizes) p)

  -- what is shown of the one integer program for one value is shown of the other for the other
  shown : (S : Ip → Option ℤ → Type 0) (v w : Option ℤ) → v ≡ w → S ip v → S (ip_of_program decls target bounds) w
  shown S v w e s = subst (λ i. S i w) same_ip (subst (λ u. S ip u) e s)

  best_is : (placed : Placed) (tree : Tree) → IsBestChosen units target bounds limit placed tree → IsBestChoice decls target limit placed tree
  best_is placed tree is =
      let x = is.point.values in
      let e : Some (value_of ip x) ≡ Some placed.utility = ap (λ (z : ℤ). Some z) (value x placed is.best.is_point is.placed_by) in
      record {
        bounds = bounds;
        are_bounds = have;
        best =
            of_placed (Best decls target) x placed is.placed_by
            (best_of_program decls units target bounds x known.units_are known.sound are.found
            record { is_point = is.best.is_point; most = λ other point. none_above ip (value_of ip x) tree is.best.accepted other point });
        value = utility_is x placed is.placed_by;
        accepted = shown (λ i v. Accepts i v tree) (Some (value_of ip x)) (Some placed.utility) e is.best.accepted;
        searched = shown (λ i v. IsSearched i limit v tree) (Some (value_of ip x)) (Some placed.utility) e is.best.searched;
      }

  infeasible_is : (tree : Tree) → IsNoPoint ip limit tree → IsInfeasibleChoice decls target limit tree
  infeasible_is tree is = record {
    bounds = bounds;
    are_bounds = have;
    none = infeasible_program decls units target bounds known.units_are known.sound are.found (no_point ip tree is.accepted);
    accepted = shown (λ i v. Accepts i v tree) None None refl is.accepted;
    searched = shown (λ i v. IsSearched i limit v tree) None None refl is.searched;
  }

  -- what was found is feasible, and has the known value
  record FoundIs (point : Option Point) (best : Option Placed) : Type 0 where
    feasible : ForSome best (IsFeasiblePair decls target)
    value : known_by ip point ≡ known_of best

  found_is : (point : Option Point) (best : Option Placed) → ForSome point (λ x. IsPoint ip x.values) → ArePlacedBy units target bounds point best → FoundIs point best
  found_is None None is by = record { feasible = λ one e. absurd (none_some e); value = refl }
    where
      none_some : {A : Type 0} {x : A} → None ≡ Some x → ⊥
      none_some e = cc
  found_is None (Some placed) is by = absurd by
  found_is (Some point) None is by = absurd by
  found_is (Some point) (Some placed) is by = record {
    feasible = here;
    value = ap (λ (z : ℤ). Some z) (value point.values placed at by);
  }
    where
      at : IsPoint ip point.values
      at = is point refl

      pair_is : IsFeasiblePair decls target placed
      pair_is = record {
        feasible = of_placed (Feasible decls target) point.values placed by ((feasible_alike decls units target (sizes_of units point.values) (placement_of units target (nth_size bounds) point.values) known.units_are).0 (pair point.values at).feasible);
        value = utility_is point.values placed by;
      }

      some_same : {one : Placed} → Some placed ≡ Some one → placed ≡ one
      some_same e = cc

      here : ForSome (Some placed) (IsFeasiblePair decls target)
      here one e = subst (IsFeasiblePair decls target) (some_same e) pair_is

  unfinished_is : (best : Option Placed) (tree : Tree) → IsUnfinishedChosen units target bounds limit best tree → IsUnfinishedChoice decls target limit best tree
  unfinished_is best tree is =
      let of = found_is is.point best is.unfinished.is_point is.placed_by in
      record {
        bounds = bounds;
        are_bounds = have;
        feasible = of.feasible;
        splits = is.unfinished.splits;
        few = subst (λ i. limit < root_points i) same_ip is.unfinished.few;
        some_open = is.unfinished.some_open;
        accepted = shown (λ i v. IsAcceptedButOpen i v tree) (known_by ip is.point) (known_of best) of.value is.unfinished.accepted;
        searched = shown (λ i v. IsSearched i limit v tree) (known_by ip is.point) (known_of best) of.value is.unfinished.searched;
      }

  choice_is : (made : Choice) → IsChosen units target bounds limit made → IsChoice decls target limit made
  choice_is (choice.Best placed tree) is = best_is placed tree is
  choice_is (choice.Infeasible tree) is = infeasible_is tree is
  choice_is (choice.Unfinished best tree) is = unfinished_is best tree is
  choice_is (choice.Unbounded symbol) is = absurd is
  choice_is (choice.Large what count) is = absurd is

  pub chosen_is : {E : Type 0} (result : Result Choice E) → IfOk result (IsChosen units target bounds limit) → IfOk result (IsChoice decls target limit)
  chosen_is (Ok made) is = choice_is made is
  chosen_is (Err e) is = tt
