-- What is feasible and best of units is what is of their program.
use Rattle.std.proofs.Common.{◌≡◌, ◌∙◌, ℕ, ◌+◌, ◌≤◌, List, length, sym, ap, ap₂, subst}
use Rattle.std.specs.Prelude.{◌≤ℤ◌, ℤ}
use Rattle.elastic_ast.specs.declared.flat.At.{At}
use Rattle.elastic_ast.specs.Tree.{PlainDecl}
use Rattle.elastic_ast.specs.Sizes.SizeSums.{utility}
use Rattle.elastic_ast.specs.Units.PlainUnits.{PlainUnit, PlainUnits}
use Rattle.elastic_ast.specs.Units.Instances.{nth_size, instances}
use Rattle.size_terms.specs.Rows.{worth}
use Rattle.target_desc.specs.declared.target.Target.{Target}
use Rattle.dep_graph.specs.Laid.{Placed, laid}
use Rattle.dep_graph.specs.HeaderBits.{weighed, header_bits}
use Rattle.dep_graph.specs.PlacementRules.{ListsInstances, StagesExist, OrderIsKept, UsesFit}
use Rattle.dep_graph.specs.Feasible.{Feasible}
use Rattle.place_check.specs.UseTables.{header_use}
use Rattle.place_check.specs.OfUnits.{FeasibleUnits, AreUnitsOf, FeasibleAlike, BestAlike, InfeasibleAlike}

module _ (decls : List PlainDecl) (units : PlainUnits) (target : Target) (sizes : List ℕ) (placement : List At) (are : AreUnitsOf decls units) where
  abbrev placed : List PlainUnit → List Placed
  placed list = laid (instances list (nth_size sizes)) placement

  header_same : header_use units sizes ≡ header_bits decls sizes
  header_same = ap₂ (λ fixed bits. fixed + weighed bits sizes) are.units_are.fixed are.units_are.symbols

  feasible_of_program : FeasibleUnits units target sizes placement → Feasible decls target sizes placement
  feasible_of_program h = record {
    sized = h.sized ∙ ap length are.symbols;
    assumed = (are.assumes sizes).0 h.holds.before.before.before.before.assumed;
    listed = subst (λ list. ListsInstances list (nth_size sizes) placement) are.units_are.list h.holds.before.before.before.before.listed;
    staged = subst (λ list. StagesExist target (placed list)) are.units_are.list h.holds.before.before.before.staged;
    ordered = subst (λ list. OrderIsKept (placed list)) are.units_are.list h.holds.before.before.ordered;
    fitting = subst (λ list. UsesFit target (nth_size sizes) (placed list)) are.units_are.list h.holds.before.fitting;
    header = subst (λ used. used ≤ target.header_bits) header_same h.holds.header;
  }

  feasible_of_units : Feasible decls target sizes placement → FeasibleUnits units target sizes placement
  feasible_of_units h = record {
    sized = h.sized ∙ ap length (sym are.symbols);
    holds = record {
      before = record {
        before = record {
          before = record {
            before = record {
              assumed = (are.assumes sizes).1 h.assumed;
              listed = subst (λ list. ListsInstances list (nth_size sizes) placement) (sym are.units_are.list) h.listed;
            };
            staged = subst (λ list. StagesExist target (placed list)) (sym are.units_are.list) h.staged;
          };
          ordered = subst (λ list. OrderIsKept (placed list)) (sym are.units_are.list) h.ordered;
        };
        fitting = subst (λ list. UsesFit target (nth_size sizes) (placed list)) (sym are.units_are.list) h.fitting;
      };
      header = subst (λ used. used ≤ target.header_bits) (sym header_same) h.header;
    };
  }

pub feasible_alike : FeasibleAlike
feasible_alike decls units target sizes placement are = (feasible_of_program decls units target sizes placement are, feasible_of_units decls units target sizes placement are)

worth_at_most : (decls : List PlainDecl) (units : PlainUnits) → AreUnitsOf decls units → (one other : List ℕ) → worth units.terms other ≤ℤ worth units.terms one → utility decls other ≤ℤ utility decls one
worth_at_most decls units are one other h = subst (λ (most : ℤ). utility decls other ≤ℤ most) (are.utility one) (subst (λ (value : ℤ). value ≤ℤ worth units.terms one) (are.utility other) h)

utility_at_most : (decls : List PlainDecl) (units : PlainUnits) → AreUnitsOf decls units → (one other : List ℕ) → utility decls other ≤ℤ utility decls one → worth units.terms other ≤ℤ worth units.terms one
utility_at_most decls units are one other h = subst (λ (most : ℤ). worth units.terms other ≤ℤ most) (sym (are.utility one)) (subst (λ (value : ℤ). value ≤ℤ utility decls one) (sym (are.utility other)) h)

pub best_alike : BestAlike
best_alike decls units target sizes placement are = (
  (λ best. record {
    feasible = feasible_of_program decls units target sizes placement are best.feasible;
    most = λ other places h. worth_at_most decls units are sizes other (best.most other places (feasible_of_units decls units target other places are h));
  }),
  (λ best. record {
    feasible = feasible_of_units decls units target sizes placement are best.feasible;
    most = λ other places h. utility_at_most decls units are sizes other (best.most other places (feasible_of_program decls units target other places are h));
  }),
)

pub infeasible_alike : InfeasibleAlike
infeasible_alike decls units target are = (
  (λ none sizes placement h. none sizes placement (feasible_of_units decls units target sizes placement are h)),
  (λ none sizes placement h. none sizes placement (feasible_of_program decls units target sizes placement are h)),
)
