use Rattle.std.proofs.Common.{◌≡◌, ◌++◌, true, drop}
use Rattle.std.specs.List.{list_all}
use Rattle.size_terms.specs.Building.{is_near_util}
use Rattle.size_terms.specs.Tables.{tables_in}
use Rattle.size_terms.proofs.tables.step_tables.Given as goal

abbrev pub invariant-loop-term : goal.invariant-loop-term
invariant-loop-term l = record {
  tables : l.tables ++ tables_in l.places (drop l.term-index l.terms) ≡ tables_in l.places l.terms;
  near : list_all (is_near_util l.places) (drop l.term-index l.terms) ≡ true;
}
