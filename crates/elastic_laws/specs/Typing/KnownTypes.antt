-- What is typed has a known type, this project's own: where that of an expression, of what may be assigned to or of a register
-- isn't known, a rule is broken there. So nothing is let pass by what is asked of its type alone.
use Rattle.std.specs.Prelude.{◌≡◌, ◌≢◌, ℕ, true, Bool, List, take, flat_map, None}
use Rattle.elastic_ast.specs.declared.statements.Lval.{Lval}
use Rattle.elastic_ast.specs.declared.statements.RegRef.{RegRef}
use Rattle.elastic_ast.specs.Tree.{PlainDecl, PlainExpr}
use Rattle.elastic_ast.specs.Typing.Scope.{Scope}
use Rattle.elastic_ast.specs.Typing.Types.{Ty, Bits, Unknown, Names, is_width, lval_type, type_of}
use Rattle.elastic_ast.specs.Typing.Demand.{first_broken}
use Rattle.elastic_ast.specs.Typing.AskedInExpressions.{names_at, asks_lval, asks_expr}
use Rattle.elastic_ast.specs.Typing.AskedInStatements.{asks_register_of, register_type}
use Rattle.elastic_ast.specs.Typing.AskedInLocals.{asks_param}
use Rattle.elastic_ast.specs.Typing.Typed.{Typed}

-- a scope behind some of the declarations, whose parameters ask nothing that isn't so
pub record IsScopeOf (allow : Bool) (decls : List PlainDecl) (scope : Scope) : Type 0 where
  pub number : ℕ
  pub before : scope.before ≡ take number decls
  pub params : first_broken allow (flat_map asks_param scope.params) ≡ None

pub record HasKnownTypes (allow : Bool) (scope : Scope) : Type 0 where
  pub expressions : (expression : PlainExpr) (giver : Ty) → first_broken allow (asks_expr scope expression giver) ≡ None → type_of (names_at scope) expression ≢ Unknown
  pub places : (place : Lval) → first_broken allow (asks_lval scope place) ≡ None → lval_type scope.before place ≢ Unknown
  pub registers : (register : RegRef) → first_broken allow (asks_register_of scope register) ≡ None → register_type scope register ≢ Unknown

-- in each scope of a typed program; and bits of any expression, typed or not, have a width from 1 to 128
pub record TypesAreKnownAndWide : Type 0 where
  pub known : (allow : Bool) (decls : List PlainDecl) → Typed allow decls → (scope : Scope) → IsScopeOf allow decls scope → HasKnownTypes allow scope
  pub wide : (names : Names) (expression : PlainExpr) (width : ℕ) → type_of names expression ≡ Bits width → is_width width ≡ true
