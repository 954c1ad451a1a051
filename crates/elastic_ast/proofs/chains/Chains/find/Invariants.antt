use Rattle.elastic_ast.proofs.Containers.ChainWalk.{Walk, places_left}
use Rattle.elastic_ast.proofs.chains.Chains.find.Given as goal

abbrev pub invariant-places : goal.invariant-places
invariant-places g l = Walk (goal.F-post g l.fn.test) l.fn.self l.fn.hash l.next

abbrev pub decreases-places : goal.decreases-places
decreases-places g l = places_left l.next
