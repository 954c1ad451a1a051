use Rattle.std.proofs.Common.{[], map, sym, ap, ◌∙◌}
use Rattle.std.proofs.lemmas.List.{append-nil}
use Rattle.elastic_ast.specs.Typing.AskedInLocals.{param_name}
use Rattle.program_names.specs.Named.{first_named}
use Rattle.program_names.proofs.param_names.ParamNames.named.Goals as goal

pub returns : goal.returns
returns c =
    c.thing_named.ensures.here param_name [] (c.self.invariant ∙ ap (map param_name) (sym (append-nil c.self.inside.params.now)))
    ∙ ap (λ params. first_named param_name params c.args.name.now) c.self.view_is
