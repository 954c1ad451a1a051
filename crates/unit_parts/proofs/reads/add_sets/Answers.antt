use Rattle.std.proofs.Common.{refl}
use Rattle.std.specs.Prelude.{map}
use Rattle.elastic_ast.specs.Seen.{seen_keyset}
use Rattle.elastic_ast.specs.Units.Reach.{set_reads, sets_read}
use Rattle.unit_parts.proofs.GatheredLaws.{gather_on}
use Rattle.unit_parts.proofs.reads.add_sets.Goals as goal

pub loop-set-preserved : goal.loop-set-preserved
loop-set-preserved c =
    gather_on (λ xs. sets_read (map seen_keyset xs)) (set_reads (seen_keyset c.set-item.result)) c.args.sets.now c.loop-set.set-index c.set-item.result c.loop-set.reads c.add_set.new.reads _ refl c.loop-set-test.true
    c.set-item.is c.in_ok-add_set.ensures c.loop-set.invariant
