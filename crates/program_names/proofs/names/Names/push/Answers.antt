use Rattle.std.proofs.Common.{◌∷◌, [], ◌++◌, length, map, ap, ◌∙◌}
use Rattle.elastic_ast.specs.Seen.{seen_decl}
use Rattle.program_names.specs.TopNames.{controls_with, number_after}
use Rattle.program_names.proofs.TopLaws.{next_names}
use Rattle.program_names.proofs.names.Names.push.Goals as goal

pub returns-clause-next : goal.returns-clause-next
returns-clause-next c = λ decls are.
    next_names c.args.self.now _ decls (seen_decl c.args.decl.now) (length c.as_slice-number.result.now) are (ap length c.as_slice-number.ensures.value) c.in_ok-declare.ensures.top c.in_ok-declare.ensures.numbers
    (c.push_reserved.ensures.items ∙ ap (λ items. items ++ c.args.parts ∷ []) c.in_ok-reserve.ensures.items ∙ ap (λ table. c.args.self.now.parts.items ++ table ∷ []) c.requires.parts)
    (c.first_number-self.ensures ∙ ap (λ b. number_after c.args.self.now.headers b (length c.as_slice-number.result.now)) c.is_headers.ensures)
    (c.first_number-self-2.ensures ∙ ap (λ b. number_after c.args.self.now.metadata b (length c.as_slice-number.result.now)) c.is_metadata.ensures)
    (c.first_number-self-3.ensures ∙ ap (λ b. number_after c.args.self.now.main b (length c.as_slice-number.result.now)) c.is_main.ensures)
    (c.add_control.ensures ∙ ap (λ items. items ++ map (λ control. length c.as_slice-number.result.now) (controls_with (seen_decl c.args.decl.now))) c.in_ok-reserve-2.ensures.items)
