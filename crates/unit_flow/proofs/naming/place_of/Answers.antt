use Rattle.std.proofs.Common.{ap, ◌∙◌}
use Rattle.std.specs.Prelude.{unwrap_or}
use Rattle.std.specs.List.{position_or_len}
use Rattle.elastic_ast.specs.Typing.Scope.{same}
use Rattle.unit_flow.proofs.NamingLaws.{place_told}
use Rattle.unit_flow.proofs.naming.place_of.Goals as goal

pub returns : goal.returns
returns c =
    c.unwrap_or.ensures ∙ ap (unwrap_or c.place_of.result) c.requires.count ∙ place_told (same c.args.name.now) c.args.known.now.places c.place_of.result c.place_of.ensures
    ∙ ap (position_or_len (same c.args.name.now)) c.requires.symbols
