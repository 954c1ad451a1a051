use Rattle.std.proofs.Common.{Some, sym, ap, ◌∙◌}
use Rattle.std.specs.Option.{option_copied}
use Rattle.elastic_ast.specs.Tree.{PlainDecl}
use Rattle.elastic_ast.specs.Seen.{seen_decl}
use Rattle.program_names.specs.LocalParts.{seen_states}
use Rattle.expr_types.proofs.ProgramLaws.{state_found}
use Rattle.expr_types.proofs.scopes.Scope.state_in.Goals as goal

pub returns-in-Some-Parser : goal.returns-in-Some-Parser
returns-in-Some-Parser c =
    state_found c.args.self.now c.args.number c.in-Some-Parser.field-0-0 c.args.name.now c.as_slice.result.now (option_copied c.part_named.result)
    (ap (λ states. Some (PlainDecl.Parser c.in-Some-Parser.field-0-0 (seen_states states))) c.as_slice.ensures
    ∙ ap (λ decl. Some (seen_decl decl)) (sym c.in-Some-Parser.field-0-is) ∙ c.in-Some-Parser.ensures) c.part_named.ensures
