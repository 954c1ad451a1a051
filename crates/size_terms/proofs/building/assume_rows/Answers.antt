use Rattle.std.proofs.Common.{List, [], take, subst}
use Rattle.elastic_ast.specs.declared.declarations.Comp.{Comp}
use Rattle.elastic_ast.specs.Seen.{seen_decl, seen_decls}
use Rattle.elastic_ast.specs.Sizes.SizeSums.{comparisons, comps_of}
use Rattle.size_terms.specs.Building.{AddsComps}
use Rattle.size_terms.proofs.BuildLaws.{comps_taken, short_rest}
use Rattle.size_terms.proofs.RowLaws.{adds_both}
use Rattle.size_terms.proofs.building.assume_rows.Goals as goal

pub loop-decl-preserved : goal.loop-decl-preserved
loop-decl-preserved c = record {
  adds = adds_both c.args.places.now [] c.loop-decl.rows c.push_comparisons.new.rows (comparisons (seen_decls (take c.loop-decl.decl-index c.args.decls.now))) (comps_of (seen_decl c.decl-item.result)) _
      (comps_taken c.args.decls.now c.loop-decl.decl-index c.decl-item.result c.loop-decl-test.true c.decl-item.is) c.loop-decl.invariant.adds
      (subst (λ (z : List Comp). AddsComps c.args.places.now c.loop-decl.rows c.push_comparisons.new.rows z) c.comps_of.ensures c.in_ok-push_comparisons.ensures);
  short = short_rest c.args.decls.now c.loop-decl.decl-index c.decl-item.result c.loop-decl-test.true c.decl-item.is c.loop-decl.invariant.short;
}
