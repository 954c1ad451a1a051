use Rattle.std.proofs.Common.{◌∙◌}
use Rattle.elastic_ast.specs.Typing.LookUps.{members_of}
use Rattle.expr_types.specs.Scoped.{before_of}
use Rattle.expr_types.proofs.PartLaws.{member_is}
use Rattle.expr_types.proofs.scopes.Scope.is_member.Goals as goal

pub returns : goal.returns
returns c = c.is_some.ensures ∙ member_is c.args.header.now (members_of (before_of c.args.self.now)) c.member.result c.member.ensures
