-- What stands between and behind the expressions of a call.
use Rattle.spelling.specs.Readers.{InRound}
use Rattle.p4_expr.proofs.PartSpelling.{ends_index}
use Rattle.p4_statements.specs.Reading.{SpellsArguments, SpellsExprList}
use Rattle.std.proofs.Common.{◌≡◌, ℕ, List, [], ◌∷◌, ◌++◌, All, codes, refl, subst, sym}
use Rattle.std.proofs.lemmas.List.Elements.{All-head}
use Rattle.elastic_ast.specs.Tree.{PlainExpr}
use Rattle.spelling.specs.Words.{Word}
use Rattle.spelling.specs.Grammar.{Grammar, ◌⨟◌, Commas, Each, Separated, Sign, Begins, IsSign}
use Rattle.spelling.specs.Reading.{Ends, MayTake, Takes}
use Rattle.spelling.proofs.Only.{begins_first, empty_same, ends_sign, no_sign, regroup, begins_bracketed, split}
use Rattle.spelling.proofs.Taking.{may, takes_as}
use Rattle.p4_expr.specs.Expressions.{HasFewOperators, SpellsExpr}
use Rattle.p4_expr.specs.GoesOn.{expression_signs, EndsIndex}
use Rattle.p4_statements.proofs.ExprFirst.{expr_first, no_closing}
use Rattle.spelling.proofs.AllOf.{all_back}

pub no_comma : (ws : List Word) → Begins (IsSign (codes ")")) ws → Begins (IsSign (codes ",")) ws → ⊥
no_comma ws closing comma = no_sign (codes ")") (codes ",") ws refl closing comma

pub args_follow : (more : ℕ) (later : List PlainExpr) {a rest : List Word} → MayTake (Each (λ e. Sign (codes ",") ⨟ SpellsExpr more e) later) a rest → Begins (IsSign (codes ")")) rest → Ends expression_signs a
args_follow more [] {a = a} m ends = ends_sign expression_signs (codes ")") a refl (subst (Begins (IsSign (codes ")"))) (sym (empty_same m)) ends)
args_follow more (e ∷ later) {a = a} m ends = ends_sign expression_signs (codes ",") a refl (begins_first (regroup m))

pub few_at : (read : List PlainExpr) (one : PlainExpr) (later all : List PlainExpr) → all ≡ read ++ one ∷ later → All HasFewOperators all → HasFewOperators one
few_at read one later all e h = All-head HasFewOperators one later (all_back HasFewOperators read (one ∷ later) (subst (All HasFewOperators) e h))

-- a closing bracket stands where no expression is left
pub no_args : (more : ℕ) (args : List PlainExpr) {a c : List Word} → MayTake (SpellsArguments more args) a c → Begins (IsSign (codes ")")) a → ([] ≡ args) × (a ≡ c)
no_args more [] m at = (refl, empty_same m)
no_args more (e ∷ args) m at = absurd (expr_first more e (codes ")") no_closing m at)

pub some_args : (more : ℕ) (args : List PlainExpr) {a c : List Word} → MayTake (SpellsArguments more args) a c → Begins (IsSign (codes ")")) c → (Begins (IsSign (codes ")")) a → ⊥) → MayTake (SpellsExprList more args) a c
some_args more [] m at none = absurd (none (subst (Begins (IsSign (codes ")"))) (sym (empty_same m)) at))
some_args more (e ∷ args) m at none = m

separated_commas : (depth : ℕ) (args : List PlainExpr) (ws : List Word) → Separated (Sign (codes ",")) (SpellsExpr depth) args ws → Commas (SpellsExpr depth) args ws
separated_commas depth [] ws h = absurd h
separated_commas depth (e ∷ args) ws h = h

pub take_commas : (depth : ℕ) (args : List PlainExpr) {a b : List Word} → Takes (Separated (Sign (codes ",")) (SpellsExpr depth) args) a b → MayTake (Commas (SpellsExpr depth) args) a b
take_commas depth args t = may (takes_as (separated_commas depth args) t)

-- an expression after the first of a list
abbrev pub LaterExpr : ℕ → PlainExpr → Grammar
LaterExpr more e = Sign (codes ",") ⨟ SpellsExpr more e

-- the arguments of a call stand behind its index
pub arguments_end : (more : ℕ) (args : List PlainExpr) {Q : Grammar} {a c : List Word} → MayTake (InRound SpellsArguments more args ⨟ Q) a c → EndsIndex a
arguments_end more args {a = a} m = ends_index (codes "(") a refl (begins_bracketed (codes "(") (codes ")") more (λ inner. SpellsArguments inner args) (split m).first)
