use Rattle.program_names.proofs.NewNames.{known_again}
use Rattle.program_names.proofs.name_places.NamePlaces.add_once.Goals as goal

pub returns-then-has : goal.returns-then-has
returns-then-has c = λ n. known_again c.args.self.now c.args.name.now n c.if-has.ensures
