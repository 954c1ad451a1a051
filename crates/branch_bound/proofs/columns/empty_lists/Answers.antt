use Rattle.std.proofs.Common.{◌≡◌, [], ◌∷◌, ◌++◌, length, get_or, sym, ap, subst, ◌∙◌, arith}
use Rattle.branch_bound.specs.Columns.{AreEmpty}
use Rattle.branch_bound.proofs.ColumnLaws.{when_ok, empty_push}
use Rattle.branch_bound.proofs.columns.empty_lists.Goals as goal

pub loop-init : goal.loop-init
loop-init c = record { as_many = ap length c.new-lists.ensures.items; none = λ v. ap (λ z. get_or z v []) c.new-lists.ensures.items }

pub loop-preserved : goal.loop-preserved
loop-preserved c =
    empty_push c.loop.counter c.loop.lists.items _ c.loop.invariant
    (when_ok c.push.result _ _ _ (sym c.if-is_err.false ∙ c.is_err.ensures.value) c.push.ensures.items ∙ ap (λ z. c.loop.lists.items ++ z ∷ []) c.new.ensures)

pub returns : goal.returns
returns c =
    let all : c.loop.counter ≡ c.args.count = omega arith in
    subst (λ n. AreEmpty n c.loop.lists.items) all c.loop.invariant
