use Rattle.std.proofs.Common.{[], map}
use Rattle.elastic_ast.specs.Seen.{seen_state}
use Rattle.elastic_ast.specs.Typing.ParserLoops.{state_names}
use Rattle.parser_loops.proofs.NameLaws.{distinct}
use Rattle.parser_loops.proofs.search.loops.Goals as goal

pub of-requires : goal.of-requires
of-requires c = distinct [] (state_names (map seen_state c.args.states.now)) c.requires
