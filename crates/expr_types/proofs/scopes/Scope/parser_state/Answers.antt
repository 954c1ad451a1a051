use Rattle.std.proofs.Common.{ℕ, List, slice_get, sym, ap, ◌∙◌, None, refl}
use Rattle.elastic_ast.specs.declared.declarations.Decl.{Decl}
use Rattle.expr_types.specs.Scoped.{before_of}
use Rattle.expr_types.specs.ProgramParts.{state_at, state_shown}
use Rattle.expr_types.proofs.ProgramLaws.{parser_found}
use Rattle.expr_types.proofs.ScopeLaws.{stands_under}
use Rattle.expr_types.proofs.scopes.Scope.parser_state.Goals as goal

pub returns-in-Some : goal.returns-in-Some
returns-in-Some c =
    let inside : List Decl × ℕ = (c.self.inside.decls.now, c.self.inside.count) in
    parser_found c.args.parser.now c.args.name.now c.args.self.now (slice_get (before_of inside) c.in-Some.number) (state_shown c.state_in.result)
    (stands_under c.args.parser.now inside c.args.self.now (slice_get (before_of inside) c.in-Some.number) (c.in-Some.ensures (before_of inside) c.self.invariant.are) c.self.invariant.distinct c.self.view_is)
    (c.state_in.ensures ∙ ap (λ place. state_at place c.args.name.now c.in-Some.number) (sym c.self.view_is))

pub returns-in-None : goal.returns-in-None
returns-in-None c =
    let inside : List Decl × ℕ = (c.self.inside.decls.now, c.self.inside.count) in
    parser_found c.args.parser.now c.args.name.now c.args.self.now None None
    (stands_under c.args.parser.now inside c.args.self.now None (c.in-None.ensures (before_of inside) c.self.invariant.are) c.self.invariant.distinct c.self.view_is) refl
