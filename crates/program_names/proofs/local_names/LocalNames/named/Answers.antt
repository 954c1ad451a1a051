use Rattle.std.proofs.Common.{subst}
use Rattle.std.specs.Prelude.{option_map}
use Rattle.std.specs.Option.{option_copied}
use Rattle.elastic_ast.specs.Seen.{seen_local}
use Rattle.program_names.specs.LocalParts.{seen_locals, LocalUnder}
use Rattle.program_names.proofs.LocalLaws.{local_under}
use Rattle.program_names.proofs.local_names.LocalNames.named.Goals as goal

pub returns : goal.returns
returns c =
    subst (λ locals. LocalUnder c.args.name.now (seen_locals locals) (option_map seen_local (option_copied c.thing_named.result))) c.self.view_is
    (local_under c.args.name.now c.self.inside.names.now c.self.inside.locals.now c.self.inside.count (option_copied c.thing_named.result) c.self.invariant.all c.thing_named.ensures.distinct c.thing_named.ensures.here)
