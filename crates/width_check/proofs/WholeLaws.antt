-- Which rule of the whole program a register breaks.
use Rattle.std.proofs.Common.{ℕ, List, Option, Some, None}
use Rattle.elastic_ast.specs.declared.rule.Rule.{Rule}
use Rattle.elastic_ast.specs.declared.rule.Rule.TheVariants.{RegisterTwice, RegisterUnused, ParserLoop, NoMain}
use Rattle.elastic_ast.specs.declared.statements.Amount.{Amount}
use Rattle.elastic_ast.specs.Tree.{Name, PlainDecl}
use Rattle.elastic_ast.specs.Typing.Typed.{BreaksWhole}
use Rattle.width_check.specs.WholeRules.{IsWholeRule, IsRegisterRule}

pub register_rule : (decls : List PlainDecl) (name : Name) (width : ℕ) (cells : Amount) (size : Option Name) (rule : Option Rule) → IsRegisterRule decls name rule → IsWholeRule decls (PlainDecl.Register name width cells size) rule
register_rule decls name width cells size (Some RegisterTwice) twice = record { broken = twice; loops_first = λ b. absurd b }
register_rule decls name width cells size (Some RegisterUnused) unused = record { broken = unused; loops_first = λ b. absurd b }
register_rule decls name width cells size (Some _) none = absurd none
register_rule decls name width cells size None fine = none
  where
    none : (rule : Rule) → BreaksWhole decls rule (PlainDecl.Register name width cells size) → ⊥
    none RegisterTwice b = fine.0 b
    none RegisterUnused b = fine.1 b
    none ParserLoop b = b
    none NoMain b = b
    none _ b = b
