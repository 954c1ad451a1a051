use Rattle.std.proofs.Common.{ap, ◌∙◌}
use Rattle.program_names.specs.FirstNamed.{entry_value}
use Rattle.register_uses.proofs.LookUpLaws.{at_action}
use Rattle.register_uses.proofs.actions.ActionTable.find.Goals as goal

pub returns : goal.returns
returns c =
    at_action c.self.inside.locals.now c.args.self.now c.self.inside.table.entries c.args.name.now c.self.invariant c.self.view_is c.copied.result
    (c.copied.ensures ∙ c.get.ensures.value ∙ ap (entry_value c.self.inside.table.entries) c.as_slice.ensures)
