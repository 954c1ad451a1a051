use Rattle.std.proofs.Common.{ℕ, List, slice_get, sym, ap, ◌∙◌, None, refl}
use Rattle.std.specs.Option.{option_copied}
use Rattle.elastic_ast.specs.declared.declarations.Decl.{Decl}
use Rattle.elastic_ast.specs.Typing.Asked.{field_name}
use Rattle.expr_types.specs.Scoped.{before_of, part_at, type_fields}
use Rattle.expr_types.proofs.PartLaws.{field_found}
use Rattle.expr_types.proofs.ScopeLaws.{stands_under}
use Rattle.expr_types.proofs.scopes.Scope.type_field.Goals as goal

pub returns-in-Some : goal.returns-in-Some
returns-in-Some c =
    let inside : List Decl × ℕ = (c.self.inside.decls.now, c.self.inside.count) in
    field_found c.args.name.now c.args.field.now c.args.self.now (slice_get (before_of inside) c.in-Some.number) (option_copied c.field_in.result)
    (stands_under c.args.name.now inside c.args.self.now (slice_get (before_of inside) c.in-Some.number) (c.in-Some.ensures (before_of inside) c.self.invariant.are) c.self.invariant.distinct c.self.view_is)
    (c.field_in.ensures ∙ ap (λ place. part_at type_fields field_name place c.in-Some.number c.args.field.now) (sym c.self.view_is))

pub returns-in-None : goal.returns-in-None
returns-in-None c =
    let inside : List Decl × ℕ = (c.self.inside.decls.now, c.self.inside.count) in
    field_found c.args.name.now c.args.field.now c.args.self.now None None
    (stands_under c.args.name.now inside c.args.self.now None (c.in-None.ensures (before_of inside) c.self.invariant.are) c.self.invariant.distinct c.self.view_is) refl
