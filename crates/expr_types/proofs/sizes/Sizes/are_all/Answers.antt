use Rattle.std.proofs.Common.{ap, sym, ◌∙◌, ◌&&◌}
use Rattle.elastic_ast.specs.Typing.Scope.{same}
use Rattle.expr_types.proofs.SizeLaws.{as_first}
use Rattle.expr_types.proofs.sizes.Sizes.are_all.Goals as goal

pub returns-then-self : goal.returns-then-self
returns-then-self c =
    c.eq.ensures ∙ ap (λ name. same name c.as_slice-then-self.result.now) c.as_slice.ensures ∙ ap (same c.args.name.now) c.as_slice-then-self.ensures
    ∙ sym (ap (λ b. b && same c.args.name.now c.in-Some.first.now.now) c.if-self.true)
    ∙ as_first c.args.name.now c.args.self.now.names.now c.in-Some.first.now c.args.self.now.agree c.in-Some.ensures.value c.args.self.now.agreed
