use Rattle.std.proofs.Common.{slice_get, ap, ◌∙◌}
use Rattle.std.specs.Prelude.{option_and_then}
use Rattle.program_names.proofs.Places.{got}
use Rattle.program_names.proofs.TopLaws.{number_is}
use Rattle.program_names.proofs.names.Names.number_of.Goals as goal

pub returns-in-Some : goal.returns-in-Some
returns-in-Some c = λ decls are.
    ap (option_and_then (slice_get decls))
    (c.copied.ensures ∙ got c.deref.result.now c.in-Some.place c.get.result c.get.ensures.lookup.3 c.get.ensures.lookup.1 ∙ ap (λ z. slice_get z c.in-Some.place) c.deref.ensures.value)
    ∙ ap (λ p. option_and_then (slice_get decls) (option_and_then (slice_get c.args.self.now.numbers.items) p)) c.in-Some.ensures.place
    ∙ number_is decls c.args.self.now.top c.args.self.now.numbers.items c.args.name.now are.top are.numbers

pub returns-in-None : goal.returns-in-None
returns-in-None c = λ decls are.
    ap (λ p. option_and_then (slice_get decls) (option_and_then (slice_get c.args.self.now.numbers.items) p)) c.in-None.ensures.place
    ∙ number_is decls c.args.self.now.top c.args.self.now.numbers.items c.args.name.now are.top are.numbers
