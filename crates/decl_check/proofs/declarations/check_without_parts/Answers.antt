use Rattle.std.proofs.Common.{ap, sym, ◌∙◌}
use Rattle.decl_check.specs.FirstRules.{inside_breaks}
use Rattle.decl_check.proofs.declarations.check_without_parts.Goals as goal

pub returns-in-Main : goal.returns-in-Main
returns-in-Main c = c.check_main.ensures ∙ sym (ap (λ d. inside_breaks c.args.allow_reserved c.args.scope.now d) c.in-Main.is)
