use Rattle.elastic_ast.specs.Seen.{seen_decl}
use Rattle.expr_types.specs.Scoped.{before_of}
use Rattle.width_check.proofs.FoundLaws.{name_fresh}
use Rattle.width_check.proofs.checking.check_next.Goals as goal

pub pass-requires-clause-fresh : goal.pass-requires-clause-fresh
pass-requires-clause-fresh c = name_fresh c.args.allow_reserved (before_of c.args.walk.now) (seen_decl c.args.decl.now) c.in-Ok.ensures.fine
