use Rattle.program_names.proofs.NewNames.{name_step}
use Rattle.program_names.proofs.name_places.NamePlaces.of_all.Goals as goal

pub loop-name-preserved : goal.loop-name-preserved
loop-name-preserved c = λ n.
    name_step c.args.names.now c.loop-name.name-index c.name-item.result c.loop-name.set _ n c.loop-name-test.true c.name-item.is (c.in_ok-add_once.ensures n) (c.loop-name.invariant n)
