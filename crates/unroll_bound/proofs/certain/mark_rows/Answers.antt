use Rattle.std.proofs.Common.{length, refl, arith}
use Rattle.std.specs.Prelude.{◌||◌}
use Rattle.std.specs.List.{list_any}
use Rattle.unroll_bound.specs.SizeRules.{needs_one}
use Rattle.unroll_bound.proofs.SymbolListLaws.{walk_back}
use Rattle.unroll_bound.proofs.certain.mark_rows.Goals as goal

pub loop-i-preserved : goal.loop-i-preserved
loop-i-preserved c =
    walk_back (length c.args.marks.now) (λ rows symbol. list_any (needs_one symbol) rows) (λ row symbol mark. needs_one symbol row || mark) (λ row rows symbol. refl) c.args.rows.now c.loop-i.i c.index-rows-i.result c.loop-i.marks
    c.mark_row.new.marks (omega arith) (omega arith) c.index-rows-i.is c.loop-i.invariant c.mark_row.ensures
