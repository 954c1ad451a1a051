-- What is typed in a scope of a typed program has a known type.
use Rattle.std.proofs.Common.{◌≡◌, ◌≢◌, ℕ, Bool, true, List, sym, ap, subst, ◌∙◌, true≢false}
use Rattle.elastic_ast.specs.Tree.{PlainDecl, PlainExpr}
use Rattle.elastic_ast.specs.Typing.Scope.{Scope}
use Rattle.elastic_ast.specs.Typing.Types.{Ty, Bits, Unknown, Names, is_width, lval_type, type_of}
use Rattle.elastic_ast.specs.Typing.AskedInExpressions.{names_at}
use Rattle.elastic_ast.specs.Typing.AskedInStatements.{register_type}
use Rattle.elastic_ast.specs.Typing.Typed.{Typed}
use Rattle.elastic_laws.specs.Typing.KnownTypes.{IsScopeOf, HasKnownTypes}
use Rattle.elastic_laws.proofs.Typing.TypedFacts.{IsMet, typed_asks, front_met}
use Rattle.elastic_laws.proofs.Typing.TypedSides.{is_known, IsKnown}
use Rattle.elastic_laws.proofs.Typing.TypedWidths.{wide, GoodScope, place_known, cells_known, typed_known, all_wide}

not_unknown : (t : Ty) → IsKnown t → t ≢ Unknown
not_unknown t known e = true≢false (sym known ∙ ap is_known e)

pub scope_good : (allow : Bool) (ds : List PlainDecl) → Typed allow ds → (s : Scope) → IsScopeOf allow ds s → GoodScope allow s
scope_good allow ds t s is = record { before = subst (IsMet allow) (sym is.before) (front_met allow ds (typed_asks allow ds t) is.number); params = is.params }

pub types_known : (allow : Bool) (ds : List PlainDecl) → Typed allow ds → (s : Scope) → IsScopeOf allow ds s → HasKnownTypes allow s
types_known allow ds t s is =
    let good : GoodScope allow s = scope_good allow ds t s is in
    record {
      expressions = λ e giver h. not_unknown (type_of (names_at s) e) (typed_known allow s good e giver h);
      places = λ place h. not_unknown (lval_type s.before place) (place_known allow s good place h);
      registers = λ register h. not_unknown (register_type s register) (cells_known allow s good register h);
    }

pub types_wide : (names : Names) (e : PlainExpr) (width : ℕ) → type_of names e ≡ Bits width → is_width width ≡ true
types_wide names e width h = sym (ap wide h) ∙ all_wide names e
