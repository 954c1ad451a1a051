use Rattle.std.proofs.Common.{ap, ◌∙◌}
use Rattle.elastic_ast.specs.Typing.Scope.{among}
use Rattle.program_names.specs.Named.{texts}
use Rattle.program_names.proofs.Places.{known_is}
use Rattle.program_names.proofs.name_places.NamePlaces.has.Goals as goal

pub returns : goal.returns
returns c =
    c.contains_key.ensures ∙ known_is _ c.self.inside.places.entries ∙ ap (among (texts c.self.inside.places.entries)) c.as_slice.ensures
    ∙ ap (λ names. among names c.args.name.now) c.self.view_is
