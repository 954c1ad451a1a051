use Rattle.std.proofs.Common.{◌≡◌, map, length, slice_get, get_or, sym, ap, ◌∙◌, arith}
use Rattle.std.proofs.lemmas.List.{length-map}
use Rattle.elastic_ast.specs.Seen.{seen_case, seen_next}
use Rattle.elastic_ast.specs.Typing.ParserLoops.{case_target, targets_of}
use Rattle.parser_loops.proofs.GraphLaws.{case_at}
use Rattle.parser_loops.proofs.graph.target_name.Goals as goal

pub returns-in-Select : goal.returns-in-Select
returns-in-Select c =
    let long : length (targets_of (seen_next c.args.next.now)) ≡ length c.as_slice.result.now =
    ap (λ next. length (targets_of (seen_next next))) c.in-Select.is ∙ length-map (map seen_case c.in-Select.cases) case_target ∙ length-map c.in-Select.cases seen_case ∙ ap length (sym c.as_slice.ensures) in
    ap (λ next. slice_get (targets_of (seen_next next)) c.args.case) c.in-Select.is ∙ ap (λ cs. slice_get (map case_target (map seen_case cs)) c.args.case) (sym c.as_slice.ensures)
    ∙ case_at c.as_slice.result.now c.args.case (get_or c.as_slice.result.now c.args.case c.index-as_slice-case.result) (omega (arith, c.requires, long)) (ap (λ x. get_or c.as_slice.result.now c.args.case x) c.index-as_slice-case.is)
