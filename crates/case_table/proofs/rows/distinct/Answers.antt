use Rattle.std.proofs.Common.{arith, below_more, refl}
use Rattle.std.proofs.lemmas.Bool.{false≢true}
use Rattle.case_table.proofs.rows.distinct.Goals as goal
use Rattle.case_table.proofs.RowLemmas.{apart_in_rest, range_is_apart, apart_at_any}

pub returns : goal.returns
returns c = (λ _ i j d less within. apart_in_rest _ i j d less within (c.loop-i.invariant i (omega arith) d), λ _. refl)

pub loop-i-preserved : goal.loop-i-preserved
loop-i-preserved c = below_more _ _ c.loop-i.invariant
    (apart_at_any _ c.loop-i.i c.loop-i-test.true (λ k d h. c.if-not-is_apart.ensures.0 refl k d h))

pub returns-then-not-is_apart : goal.returns-then-not-is_apart
returns-then-not-is_apart c = (
  λ none. absurd (false≢true none),
  λ apart. c.if-not-is_apart.ensures.1 (λ k d h. range_is_apart _ c.loop-i.i c.loop-i-test.true apart k d h),
)
