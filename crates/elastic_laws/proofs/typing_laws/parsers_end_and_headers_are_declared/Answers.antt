use Rattle.elastic_laws.proofs.Typing.TypedHeaders.{parser_ends, extracted_is_member, emitted_is_member}
use Rattle.elastic_laws.proofs.typing_laws.parsers_end_and_headers_are_declared.Goals as goal

pub returns : goal.returns
returns c allow decls typed = record {
  ends = parser_ends allow decls typed;
  extracted = extracted_is_member allow decls typed;
  emitted = emitted_is_member allow decls typed;
}
