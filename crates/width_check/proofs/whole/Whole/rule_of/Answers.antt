use Rattle.std.proofs.Common.{sym, ap, subst}
use Rattle.elastic_ast.specs.Seen.{seen_decl, seen_decls}
use Rattle.elastic_ast.specs.Tree.{PlainDecl}
use Rattle.width_check.specs.WholeRules.{IsWholeRule}
use Rattle.width_check.proofs.WholeLaws.{register_rule}
use Rattle.width_check.proofs.whole.Whole.rule_of.Goals as goal

pub returns-in-Register : goal.returns-in-Register
returns-in-Register c =
    subst (λ (z : PlainDecl). IsWholeRule (seen_decls c.args.self.now.uses) z c.rule_of_register.result) (ap seen_decl (sym c.in-Register.is))
    (register_rule (seen_decls c.args.self.now.uses) c.in-Register.name c.in-Register.width c.in-Register.cells c.in-Register.size c.rule_of_register.result c.rule_of_register.ensures)
