use Rattle.std.proofs.Common.{◌≡◌, drop, map}
use Rattle.std.specs.Prelude.{option_map}
use Rattle.elastic_ast.specs.Tree.{Name}
use Rattle.elastic_ast.specs.Seen.{seen_local}
use Rattle.elastic_ast.specs.Typing.Scope.{or_else, found}
use Rattle.program_names.specs.FirstNamed.{entry_value}
use Rattle.register_uses.specs.LocalTables.{action_shown, action_given}
use Rattle.register_uses.proofs.actions.ActionTable.of.Given as goal

abbrev pub invariant-loop-local : goal.invariant-loop-local
invariant-loop-local l =
    (name : Name) → or_else (option_map action_shown (entry_value l.table.entries name)) (found (action_given name) (map seen_local (drop l.local-index l.locals))) ≡ found (action_given name) (map seen_local l.locals)
