use Rattle.std.proofs.Common.{ap}
use Rattle.elastic_ast.specs.Typing.Scope.{or_else}
use Rattle.program_names.specs.FirstNamed.{entry_value}
use Rattle.size_terms.specs.Places.{place_of}
use Rattle.size_terms.proofs.PlaceLaws.{enter_step}
use Rattle.size_terms.proofs.places.Places.of.Goals as goal

pub loop-place-init : goal.loop-place-init
loop-place-init c name = ap (λ z. or_else (entry_value z name) (place_of c.args.symbols.now name)) c.new-table.ensures.empty

pub loop-place-preserved : goal.loop-place-preserved
loop-place-preserved c name =
    enter_step c.args.symbols.now c.loop-place.place c.index-symbols-place.result c.as_slice.result.now c.loop-place.table.entries c.enter.new.table.entries name (place_of c.args.symbols.now name) c.loop-place-test.true c.index-symbols-place.is
    c.as_slice.ensures (λ n. c.in_ok-enter.ensures n) (c.loop-place.invariant name)
