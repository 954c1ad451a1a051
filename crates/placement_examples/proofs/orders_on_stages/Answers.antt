use Rattle.placement_examples.proofs.OrderLaws.{orders}
use Rattle.placement_examples.proofs.orders_on_stages.Goals as goal

pub returns : goal.returns
returns c = orders
