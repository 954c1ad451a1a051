use Rattle.std.proofs.Common.{ap, ◌∙◌}
use Rattle.program_names.specs.Named.{place_of, texts}
use Rattle.program_names.proofs.Places.{place_is}
use Rattle.program_names.proofs.name_places.NamePlaces.find.Goals as goal

pub returns-clause-place : goal.returns-clause-place
returns-clause-place c =
    c.get_index_of.ensures.index ∙ place_is _ c.self.inside.places.entries ∙ ap (place_of (texts c.self.inside.places.entries)) c.as_slice.ensures
    ∙ ap (λ names. place_of names c.args.name.now) c.self.view_is
