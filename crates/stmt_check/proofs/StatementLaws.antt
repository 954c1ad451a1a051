-- One step through values and their parameters, through sets and their keys, and through statements.
use Rattle.std.proofs.Common.{◌≡◌, ℕ, ◌+◌, ◌<◌, Bool, ◌||◌, List, ◌∷◌, ◌++◌, drop, length, get_or, Option, Some, None, ap, ◌∙◌}
use Rattle.elastic_ast.specs.declared.rule.Rule.{Rule}
use Rattle.elastic_ast.specs.declared.statements.Expr.{Expr}
use Rattle.elastic_ast.specs.declared.statements.Stmt.{Stmt}
use Rattle.elastic_ast.specs.declared.declarations.Param.{Param}
use Rattle.elastic_ast.specs.declared.declarations.Key.{Key}
use Rattle.elastic_ast.specs.declared.declarations.Keyset.{Keyset}
use Rattle.elastic_ast.specs.Tree.{PlainDecl, PlainExpr, PlainLocal}
use Rattle.elastic_ast.specs.Seen.{seen_keyset, seen_expr, seen_exprs, seen_stmt, seen_stmts}
use Rattle.elastic_ast.specs.Typing.Scope.{Scope, or_else}
use Rattle.elastic_ast.specs.Typing.Types.{Ty, bits_of, lval_type}
use Rattle.elastic_ast.specs.Typing.Demand.{Demand, Keyed, first_broken}
use Rattle.elastic_ast.specs.Typing.AskedInLocals.{asks_set, is_one}
use Rattle.elastic_ast.specs.Typing.AskedInStatements.{asks_stmt, asks_stmts}
use Rattle.elastic_ast.proofs.Typing.First.{first-append}
use Rattle.program_names.proofs.Items.{drop_step}
use Rattle.stmt_check.proofs.Steps.{pair_stops, pair_goes_on}

-- one value for each parameter, each in the width of its own
module _ (allow : Bool) (ask : PlainExpr → Ty → List Demand) (asks : List PlainExpr → List Param → List Demand)
    (split : (x : PlainExpr) (y : Param) (xs : List PlainExpr) (ys : List Param) → asks (x ∷ xs) (y ∷ ys) ≡ ask x (bits_of y.width) ++ asks xs ys)
    (values : List Expr) (params : List Param) (i : ℕ) (value : Expr) (param : Param) (width : Ty) where
  abbrev ask_one : Expr → Param → List Demand
  ask_one x y = ask (seen_expr x) (bits_of y.width)

  abbrev ask_all : List Expr → List Param → List Demand
  ask_all xs ys = asks (seen_exprs xs) ys

  pub value_stops : (rule : Rule) (whole : Option Rule) → i < length values → value ≡ get_or values i value → i < length params → param ≡ get_or params i param → width ≡ bits_of param.width → Some rule ≡ first_broken allow (ask (seen_expr value) width)
      → first_broken allow (asks (seen_exprs (drop i values)) (drop i params)) ≡ whole → Some rule ≡ whole
  value_stops rule whole h e k f w own = pair_stops allow ask_one ask_all (λ x y xs ys. split (seen_expr x) y (seen_exprs xs) ys) values params i value param rule whole h e k f (own ∙ ap (λ z. first_broken allow (ask (seen_expr value) z)) w)

  pub value_goes_on : (whole : Option Rule) → i < length values → value ≡ get_or values i value → i < length params → param ≡ get_or params i param → width ≡ bits_of param.width → None ≡ first_broken allow (ask (seen_expr value) width)
      → first_broken allow (asks (seen_exprs (drop i values)) (drop i params)) ≡ whole → first_broken allow (asks (seen_exprs (drop (i + 1) values)) (drop (i + 1) params)) ≡ whole
  value_goes_on whole h e k f w own = pair_goes_on allow ask_one ask_all (λ x y xs ys. split (seen_expr x) y (seen_exprs xs) ys) values params i value param whole h e k f (own ∙ ap (λ z. first_broken allow (ask (seen_expr value) z)) w)

-- what one set asks for its key
abbrev pub asks_one : List PlainDecl → Keyset → Key → List Demand
asks_one before set key = Keyed (key.ternary || is_one (seen_keyset set)) ∷ asks_set before (lval_type before key.field) (seen_keyset set)

pub stmts_step : (allow : Bool) (scope : Scope) (locals : List PlainLocal) (stmts : List Stmt) (i : ℕ) (stmt : Stmt) → i < length stmts → stmt ≡ get_or stmts i stmt
    → first_broken allow (asks_stmts scope locals (seen_stmts (drop i stmts)))
    ≡ or_else (first_broken allow (asks_stmt scope locals (seen_stmt stmt))) (first_broken allow (asks_stmts scope locals (seen_stmts (drop (i + 1) stmts))))
stmts_step allow scope locals stmts i stmt h e =
    ap (λ z. first_broken allow (asks_stmts scope locals (seen_stmts z))) (drop_step stmts i stmt h e)
    ∙ first-append allow (asks_stmt scope locals (seen_stmt stmt)) (asks_stmts scope locals (seen_stmts (drop (i + 1) stmts)))
