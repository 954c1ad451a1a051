use Rattle.std.proofs.Common.{not, sym, ap, ◌∙◌, is_some}
use Rattle.std.proofs.lemmas.Bool.{not-false}
use Rattle.elastic_ast.specs.Seen.{seen_decls}
use Rattle.register_uses.proofs.NamedLaws.{unnamed}
use Rattle.register_uses.proofs.program.RegisterUses.is_unnamed.Goals as goal

pub returns : goal.returns
returns c =
    let law = unnamed (seen_decls c.args.self.now) c.args.register.now in
    let e = ap is_some (sym c.use_of.ensures) ∙ c.is_none.ensures in
    (λ h. law.0 (e ∙ ap not h), λ n. not-false c.is_none.result (sym e ∙ law.1 n))
