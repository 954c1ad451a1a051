use Rattle.std.proofs.Common.{length, refl, arith}
use Rattle.unroll_bound.specs.SizeRules.{lesser, row_bound, rows_bound}
use Rattle.unroll_bound.proofs.SymbolListLaws.{walk_back}
use Rattle.unroll_bound.proofs.rules.lower_by_rows.Goals as goal

pub loop-i-preserved : goal.loop-i-preserved
loop-i-preserved c =
    walk_back (length c.args.found.now) (λ rows symbol. rows_bound symbol rows) (λ row symbol bound. lesser (row_bound symbol row) bound) (λ row rows symbol. refl) c.args.rows.now c.loop-i.i c.index-rows-i.result c.loop-i.found
    c.lower_by_row.new.found (omega arith) (omega arith) c.index-rows-i.is c.loop-i.invariant c.lower_by_row.ensures
