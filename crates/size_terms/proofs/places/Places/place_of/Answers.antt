use Rattle.std.proofs.Common.{ap, ◌∙◌}
use Rattle.program_names.specs.FirstNamed.{entry_value}
use Rattle.size_terms.specs.Places.{place_of}
use Rattle.size_terms.proofs.places.Places.place_of.Goals as goal

pub returns : goal.returns
returns c =
    c.copied.ensures ∙ c.get.ensures.value ∙ ap (entry_value c.self.inside.table.entries) c.as_slice.ensures
    ∙ c.self.invariant c.args.name.now ∙ ap (λ z. place_of z c.args.name.now) c.self.view_is
