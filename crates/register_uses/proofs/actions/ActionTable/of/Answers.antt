use Rattle.std.proofs.Common.{map, ap}
use Rattle.std.specs.Prelude.{option_map}
use Rattle.std.proofs.lemmas.List.{at_drop_all}
use Rattle.elastic_ast.specs.Seen.{seen_local}
use Rattle.elastic_ast.specs.Typing.Scope.{or_else, found}
use Rattle.program_names.specs.FirstNamed.{entry_value}
use Rattle.register_uses.specs.LocalTables.{action_shown, action_given}
use Rattle.program_names.proofs.FirstLaws.{first_step, first_all}
use Rattle.register_uses.proofs.actions.ActionTable.of.Goals as goal

pub loop-local-init : goal.loop-local-init
loop-local-init c name = ap (λ z. or_else (option_map action_shown (entry_value z name)) (found (action_given name) (map seen_local c.args.locals.now))) c.new-table.ensures.empty

pub loop-local-preserved : goal.loop-local-preserved
loop-local-preserved c name =
    first_step action_shown action_given seen_local c.args.locals.now c.loop-local.local-index c.local-item.result c.loop-local.table.entries c.enter_action.new.table.entries name (found (action_given name) (map seen_local c.args.locals.now)) c.loop-local-test.true
    c.local-item.is (λ n. c.in_ok-enter_action.ensures n) (c.loop-local.invariant name)

pub invariant_of-result : goal.invariant_of-result
invariant_of-result c name =
    first_all action_shown action_given seen_local c.args.locals.now c.loop-local.local-index c.loop-local.table.entries name (found (action_given name) (map seen_local c.args.locals.now))
    (at_drop_all (λ z. z) c.args.locals.now c.loop-local.local-index c.loop-local-test.false) (c.loop-local.invariant name)
