use Rattle.std.proofs.Common.{ap, ◌∙◌}
use Rattle.program_names.specs.FirstNamed.{entry_value}
use Rattle.register_uses.proofs.LookUpLaws.{at_table}
use Rattle.register_uses.proofs.tables.LocalTable.find.Goals as goal

pub returns : goal.returns
returns c =
    at_table c.self.inside.actions c.args.self.now c.self.inside.tables.entries c.args.name.now c.self.invariant c.self.view_is c.copied.result
    (c.copied.ensures ∙ c.get.ensures.value ∙ ap (entry_value c.self.inside.tables.entries) c.as_slice.ensures)
