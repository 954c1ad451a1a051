-- The rule that is broken first by what a `select` or a table compares with; this project's own.
use Rattle.std.specs.Prelude.{ℕ, Bool, List, Option}
use Rattle.elastic_ast.specs.declared.rule.Rule.{Rule}
use Rattle.elastic_ast.specs.declared.statements.Expr.{Expr}
use Rattle.elastic_ast.specs.declared.declarations.Decl.{Decl}
use Rattle.elastic_ast.specs.declared.declarations.Keyset.{Keyset}
use Rattle.elastic_ast.specs.Tree.{Name, PlainExpr}
use Rattle.elastic_ast.specs.Seen.{seen_expr, seen_keyset}
use Rattle.elastic_ast.specs.Typing.Demand.{first_broken}
use Rattle.elastic_ast.specs.Typing.AskedInLocals.{asks_value, asks_set}
use Rattle.expr_types.specs.declared.types.Ty.{Ty}
use Rattle.expr_types.specs.Scoped.{before_of}
use Rattle.expr_types.specs.Placed.{seen_type}

-- by the name of a constant, a value and a set in a width, behind the first of some declarations
abbrev pub constant_breaks : Bool → List Decl × ℕ → Name → Ty → Option Rule
constant_breaks allow place name width = first_broken allow (asks_value (before_of place) (PlainExpr.Named name) (seen_type width))

abbrev pub value_breaks : Bool → List Decl × ℕ → Expr → Ty → Option Rule
value_breaks allow place value width = first_broken allow (asks_value (before_of place) (seen_expr value) (seen_type width))

abbrev pub set_breaks : Bool → List Decl × ℕ → Ty → Keyset → Option Rule
set_breaks allow place width set = first_broken allow (asks_set (before_of place) (seen_type width) (seen_keyset set))
