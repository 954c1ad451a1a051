use Rattle.std.proofs.Common.{List, ◌++◌, ◌∷◌, [], pos, sym, ap, ◌∙◌, ℤ}
use Rattle.std.proofs.lemmas.List.{map_more}
use Rattle.int_program.proofs.bounds.root.Goals as goal

pub tops-preserved : goal.tops-preserved
tops-preserved c =
    let more = map_more (λ (_ : ℤ). pos 0) c.as_slice-tops.result.now c.tops._top-index (pos 0) c.tops-test.true in
    c.in_ok-push.ensures.ok ∙ ap (λ (low : List ℤ). low ++ pos 0 ∷ []) c.tops.invariant ∙ sym more
