use Rattle.std.proofs.Common.{ℕ, List, slice_get, ap, ◌∙◌}
use Rattle.std.specs.Prelude.{option_map}
use Rattle.std.specs.Option.{option_copied}
use Rattle.elastic_ast.specs.declared.declarations.Decl.{Decl}
use Rattle.program_names.specs.TopNames.{part_names}
use Rattle.expr_types.specs.Scoped.{before_of}
use Rattle.expr_types.proofs.PartLaws.{part_found}
use Rattle.expr_types.proofs.scopes.Scope.part_named.Goals as goal

pub returns-in-Some : goal.returns-in-Some
returns-in-Some g c =
    let inside : List Decl × ℕ = (c.self.inside.decls.now, c.self.inside.count) in
    part_found c.args.self.now c.args.number c.args.parts.now c.args.name.now c.in-Some.names.now (option_copied c.thing_named.result)
    (c.in-Some.ensures (before_of inside) c.self.invariant.are ∙ ap (λ place. option_map part_names (slice_get (before_of place) c.args.number)) c.self.view_is) c.thing_named.ensures.here
