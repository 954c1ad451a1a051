use Rattle.elastic_laws.proofs.Units.ExchangeLaws.{order_is_undisturbed, order_is_free, free_exchange}
use Rattle.elastic_laws.proofs.unit_laws.free_neighbours_exchange.Goals as goal

pub returns : goal.returns
returns c = record { exchange = free_exchange; free = order_is_free; undisturbed = order_is_undisturbed }
