use Rattle.std.proofs.Common.{sym, ap, ◌∙◌}
use Rattle.elastic_ast.specs.Seen.{seen_decls}
use Rattle.register_uses.specs.Uses.{is_twice}
use Rattle.register_uses.proofs.NamedLaws.{named_twice}
use Rattle.register_uses.proofs.program.RegisterUses.is_named_twice.Goals as goal

pub returns : goal.returns
returns c =
    let law = named_twice (seen_decls c.args.self.now) c.args.register.now c.is_array.result c.is_array.ensures in
    let e = c.is_twice.ensures ∙ ap (is_twice c.is_array.result) c.use_of.ensures in
    (λ h. law.0 (sym e ∙ h), λ n. e ∙ law.1 n)
