use Rattle.elastic_laws.proofs.Typing.TypedFacts.{body_unnested}
use Rattle.elastic_laws.proofs.Typing.TypedPremises.{tables_fit, extractable, loop_free}
use Rattle.elastic_laws.proofs.typing_laws.typed_programs_meet_the_premises.Goals as goal

pub returns : goal.returns
returns c allow decls typed = record {
  loops = body_unnested allow decls typed;
  tables = tables_fit allow decls typed;
  headers = extractable allow decls typed;
  states = loop_free allow decls typed;
}
