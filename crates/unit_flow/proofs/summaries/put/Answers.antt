use Rattle.std.proofs.Common.{Some, ap, ◌∙◌}
use Rattle.std.specs.Prelude.{if◌then◌else◌}
use Rattle.elastic_ast.specs.Typing.Scope.{same}
use Rattle.program_names.specs.FirstNamed.{entry_value}
use Rattle.program_names.proofs.FirstLaws.{value_insert}
use Rattle.unit_flow.proofs.summaries.put.Goals as goal

pub returns : goal.returns
returns c = λ name.
    ap (λ z. entry_value z name) c.in_ok-insert.ensures.entries
    ∙ value_insert c.args.table.now.entries c.as_slice-text.result c.args.summary name
    ∙ ap (λ z. if same name z then Some c.args.summary else entry_value c.args.table.now.entries name) c.as_slice-text.ensures
