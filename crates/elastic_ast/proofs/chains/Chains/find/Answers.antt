use Rattle.elastic_ast.specs.Containers.LastWith.{Passes}
use Rattle.elastic_ast.proofs.Containers.ChainWalk.{walk_start, walk_step, walk_end, fewer_left}
use Rattle.elastic_ast.proofs.chains.Chains.find.Goals as goal

pub places-init : goal.places-init
places-init g c = rw c.last-next.ensures (walk_start c.args.self.now c.args.hash)

pub test-requires : goal.test-requires
test-requires g c = c.requires c.in-Some.place (c.places.invariant.at c.in-Some.place c.in-Some.is).0

pub places-smaller : goal.places-smaller
places-smaller g c = rw (c.in-Some.is, c.before-next.ensures) (fewer_left _ _ _ (c.places.invariant.at c.in-Some.place c.in-Some.is).0)

pub places-preserved : goal.places-preserved
places-preserved g c =
    let walk = rw c.in-Some.is at c.places.invariant in
    let failed = rw c.if-test.false at c.test.ensures in
    rw c.before-next.ensures (walk_step c.args.self.now c.args.hash c.in-Some.place walk failed)

pub before-next-requires : goal.before-next-requires
before-next-requires g c = (c.places.invariant.at c.in-Some.place c.in-Some.is).0

pub returns-then-test : goal.returns-then-test
returns-then-test g c = Passes c.in-Some.place (c.places.invariant.at c.in-Some.place c.in-Some.is).0 c.if-test.ensures

pub returns : goal.returns
returns g c = let walk = rw c.in_default.is at c.places.invariant in walk_end c.args.self.now c.args.hash walk
