use Rattle.expr_types.specs.Scoped.{kept_shown}
use Rattle.unit_flow.specs.Knowing.{known_decls}
use Rattle.unit_flow.proofs.NamingLaws.{kept_told}
use Rattle.unit_flow.proofs.naming.kept_under.Goals as goal

pub returns : goal.returns
returns c = kept_told (known_decls c.args.known.now) c.args.name.now (kept_shown c.register-kept.result) c.in_ok-counted.counted c.register-kept.ensures c.in_ok-counted.ensures
