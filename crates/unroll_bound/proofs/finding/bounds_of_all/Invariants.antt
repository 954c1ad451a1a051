use Rattle.std.proofs.Common.{◌≡◌, length}
use Rattle.elastic_ast.specs.Units.SeenUnits.{seen_units}
use Rattle.unroll_bound.proofs.FindingSteps.{AreFound}
use Rattle.unroll_bound.proofs.finding.bounds_of_all.Given as goal

abbrev pub invariant-loop-symbol : goal.invariant-loop-symbol
invariant-loop-symbol l = record {
  dense : length l.most.items ≡ l.symbol;
  found : AreFound (seen_units l.units) l.target l.symbol l.most.items;
}
