-- A refusal for operators that are too many, and small facts about the forms and levels that a reader goes by.
use Rattle.std.proofs.Common.{◌≡◌, ℕ, List, sym, subst}
use Rattle.elastic_ast.specs.Tree.{PlainExpr}
use Rattle.spelling.specs.Words.{Word}
use Rattle.spelling.specs.Reading.{MayTake, WantsOr}
use Rattle.spelling.specs.declared.error.SyntaxError.{SyntaxError}
use Rattle.spelling.specs.declared.error.SyntaxError.TheVariants as error
use Rattle.p4_expr.specs.Expressions.{SpellsLevel, SpellsPrefixed}
use Rattle.p4_expr.specs.Bases.{form_of}
use Rattle.p4_expr.specs.declared.forms.Form.TheVariants as form

pub too_deep_or : (Few : Type 0) (e : SyntaxError) (at : ℕ) → e ≡ error.TooDeep at → (Few → ⊥) → WantsOr Few e
too_deep_or Few e at is many = subst (WantsOr Few) (sym is) many

-- what is spelled by words of its own has no form of brackets
pub none_bracketed : (e : PlainExpr) → form.Bracketed ≡ form_of e → ⊥
none_bracketed (PlainExpr.Num width value) is = cc
none_bracketed _ is = cc

pub hash_not_bracketed : form.Hash ≡ form.Bracketed → ⊥
hash_not_bracketed is = cc

level_zero : {depth : ℕ} {e : PlainExpr} {ws : List Word} → SpellsLevel depth 0 e ws → SpellsPrefixed depth e ws
level_zero (SpellsLevel.prefixed h) = h

-- at level 0
zero_may : (depth : ℕ) (e : PlainExpr) {a b : List Word} → MayTake (SpellsLevel depth 0 e) a b → MayTake (SpellsPrefixed depth e) a b
zero_may depth e m = record { front = m.front; joined = m.joined; spelled = level_zero m.spelled }

pub zero_ahead : (depth level : ℕ) (e : PlainExpr) {a b : List Word} → level ≡ 0 → MayTake (SpellsLevel depth level e) a b → MayTake (SpellsPrefixed depth e) a b
zero_ahead depth level e {a = a} {b = b} is m = zero_may depth e (subst (λ l. MayTake (SpellsLevel depth l e) a b) is m)
