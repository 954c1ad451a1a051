use Rattle.std.proofs.Common.{◌≡◌, true, take, drop}
use Rattle.std.specs.List.{list_all}
use Rattle.size_terms.specs.Building.{AddsComps, is_short}
use Rattle.size_terms.proofs.building.push_comparisons.Given as goal

abbrev pub invariant-loop-comp : goal.invariant-loop-comp
invariant-loop-comp l = record {
  adds : AddsComps l.places l.initial.rows l.rows (take l.comp-index l.comps);
  short : list_all is_short (drop l.comp-index l.comps) ≡ true;
}
