use Rattle.std.proofs.Common.{◌∙◌}
use Rattle.program_names.proofs.Places.{got, named_none, named_some}
use Rattle.program_names.proofs.name_places.thing_named.Goals as goal

pub returns-in-Some-clause-here : goal.returns-in-Some-clause-here
returns-in-Some-clause-here g c = λ name_of more names.
    got c.args.things.now c.in-Some.place c.get.result c.get.ensures.lookup.3 c.get.ensures.lookup.1
    ∙ named_some name_of c.args.name.now c.args.names.now c.args.things.now more c.in-Some.place c.in-Some.ensures.place names

pub returns-in-None-clause-here : goal.returns-in-None-clause-here
returns-in-None-clause-here g c = λ name_of more names. named_none name_of c.args.name.now c.args.names.now c.args.things.now more c.in-None.ensures.place names
