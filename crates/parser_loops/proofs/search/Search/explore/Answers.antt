use Rattle.std.proofs.Common.{◌<◌, length, arith}
use Rattle.std.proofs.lemmas.List.{length-map}
use Rattle.elastic_ast.specs.Seen.{seen_state}
use Rattle.parser_loops.specs.Shown.{states_of}
use Rattle.parser_loops.proofs.StepLaws.{begun}
use Rattle.parser_loops.proofs.search.Search.explore.Goals as goal

pub loop-state-init : goal.loop-state-init
loop-state-init c =
    let inside : c.args.root < length (states_of c.args.graph.now) = omega (arith, c.requires.root_in, length-map c.args.graph.now.states.now seen_state) in
    let b = begun (states_of c.args.graph.now) c.args.self.now c.enter.new.self c.args.root c.requires.searched c.requires.ended inside c.requires.root_new c.in_ok-enter.ensures in
    record { searched = b.searched; kept = b.kept; known = b.known }
