use Rattle.std.proofs.Common.{◌≡◌, drop, map}
use Rattle.std.specs.Prelude.{option_map}
use Rattle.elastic_ast.specs.Tree.{Name}
use Rattle.elastic_ast.specs.Seen.{seen_local}
use Rattle.elastic_ast.specs.Typing.Scope.{or_else, found}
use Rattle.program_names.specs.FirstNamed.{entry_value}
use Rattle.register_uses.specs.LocalTables.{table_shown, table_given}
use Rattle.register_uses.proofs.tables.table_of_tables.Given as goal

abbrev pub invariant-loop-local : goal.invariant-loop-local
invariant-loop-local l =
    (name : Name) → or_else (option_map table_shown (entry_value l.tables.entries name)) (found (table_given l.actions name) (map seen_local (drop l.local-index l.locals))) ≡ found (table_given l.actions name) (map seen_local l.locals)
