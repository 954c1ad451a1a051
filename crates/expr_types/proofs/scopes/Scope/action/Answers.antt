use Rattle.elastic_ast.specs.Typing.LookUps.{action_in}
use Rattle.expr_types.specs.Scoped.{before_of}
use Rattle.expr_types.proofs.ProgramLaws.{controls_give}
use Rattle.expr_types.proofs.scopes.Scope.action.Goals as goal

pub loop-number-init : goal.loop-number-init
loop-number-init c =
    controls_give (action_in c.args.name.now) (c.self.inside.decls.now, c.self.inside.count) c.args.self.now c.controls-numbers.result.now c.self.view_is (c.controls-numbers.ensures (before_of (c.self.inside.decls.now, c.self.inside.count)) c.self.invariant.are)
