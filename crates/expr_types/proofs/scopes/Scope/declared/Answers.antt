use Rattle.std.proofs.Common.{ℕ, List, slice_get, sym, ap, ◌∙◌, None}
use Rattle.elastic_ast.specs.declared.declarations.Decl.{Decl}
use Rattle.expr_types.specs.Scoped.{before_of}
use Rattle.expr_types.proofs.ScopeLaws.{stands_under}
use Rattle.expr_types.proofs.scopes.Scope.declared.Goals as goal

pub returns-in-Some : goal.returns-in-Some
returns-in-Some c =
    let inside : List Decl × ℕ = (c.self.inside.decls.now, c.self.inside.count) in
    stands_under c.args.name.now inside c.args.self.now _ (c.at.ensures ∙ ap (λ place. slice_get (before_of place) c.in-Some.number) (sym c.self.view_is) ∙ c.in-Some.ensures (before_of inside) c.self.invariant.are) c.self.invariant.distinct c.self.view_is

pub returns-in-None : goal.returns-in-None
returns-in-None c =
    let inside : List Decl × ℕ = (c.self.inside.decls.now, c.self.inside.count) in
    stands_under c.args.name.now inside c.args.self.now None (c.in-None.ensures (before_of inside) c.self.invariant.are) c.self.invariant.distinct c.self.view_is
