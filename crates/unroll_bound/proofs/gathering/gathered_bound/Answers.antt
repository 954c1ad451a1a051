use Rattle.std.proofs.Common.{ℕ, List, get_or, ap, ◌∙◌}
use Rattle.elastic_ast.specs.Units.SeenUnits.{seen_units}
use Rattle.unroll_bound.proofs.gathering.gathered_bound.Goals as goal

pub returns : goal.returns
returns c =
    let symbol = c.args.symbol in
    let known = c.requires.gathered in
    let within = c.requires.within in
    c.bound_at.ensures (seen_units c.args.units.now) symbol (c.index-rows.ensures ∙ known.rows.each symbol _ within) (ap (λ (xs : List ℕ). get_or xs symbol 0) c.as_slice.ensures)
    (c.index.ensures ∙ known.uses.each symbol _ within) (c.index-2.ensures ∙ known.cells.each symbol _ within)
