use Rattle.elastic_laws.proofs.Typing.TypedTables.{entry_listed, fallback_listed, no_action_is_undeclared}
use Rattle.elastic_laws.proofs.typing_laws.tables_run_what_they_list.Goals as goal

pub returns : goal.returns
returns c allow decls typed = record {
  entries = entry_listed allow decls typed;
  fallback = fallback_listed allow decls typed;
  undeclared = no_action_is_undeclared allow decls typed;
}
