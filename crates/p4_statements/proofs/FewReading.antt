-- Readers with bounds, by their parts.
use Rattle.p4_expr.specs.Expressions.{HasFewOperators, SpellsExpr, most_operators}
use Rattle.elastic_ast.specs.Seen.{seen_expr}
use Rattle.p4_expr.specs.GoesOn.{expression_signs}
use Rattle.std.proofs.Common.{◌≡◌, ℕ, ◌+◌, ◌≤◌, true, List, [], Result, refl, subst, sym, arith, inl, codes}
use Rattle.std.specs.Result.{IsErrAnd}
use Rattle.elastic_ast.specs.declared.statements.Expr.{Expr}
use Rattle.elastic_ast.specs.declared.statements.Stmt.{Stmt}
use Rattle.elastic_ast.specs.declared.statements.Lval.{Lval}
use Rattle.elastic_ast.specs.declared.statements.RegRef.{RegRef}
use Rattle.elastic_ast.specs.Tree.{PlainExpr}
use Rattle.spelling.specs.Words.{Word}
use Rattle.spelling.specs.Grammar.{Grammar, ◌⨟◌, Begins, IsSign, Sign}
use Rattle.spelling.specs.Brackets.{is_opening}
use Rattle.spelling.specs.Bounds.{IfTooDeep, Opens, Line}
use Rattle.spelling.specs.Reading.{ahead, IsReading, MayTake, WantsOr, Ends}
use Rattle.spelling.specs.Readers.{ReadsFew, ReadsFewBefore, ReadsFewMade, ReadsFewUpTo}
use Rattle.spelling.specs.declared.error.SyntaxError.{SyntaxError}
use Rattle.spelling.specs.declared.reader.Reader.{Reader}
use Rattle.spelling.proofs.Bounds.{one_open, opens_none, InLine, deep_as, line_none, line_open}
use Rattle.spelling.proofs.ByParts.{PassesIn, taken_may}
use Rattle.spelling.proofs.Only.{ends_sign}
use Rattle.spelling.proofs.Refusals.{of_refusal}
use Rattle.p4_expr.specs.Passing.{BoundPassed, ExprPassed}
use Rattle.p4_expr.proofs.Bound.{bound_opens, bound_line, expr_bound}
use Rattle.p4_statements.specs.Reading.{LinePassed, ReadsAssign, ReadsRead, SpellsReadOf}

-- how the bounds are passed in brackets
pub passes_opens : (opening : List ℕ) (depth enclosed whole : ℕ) → is_opening opening ≡ true → whole ≤ 1 + enclosed → PassesIn opening depth (BoundPassed (Opens depth) whole) (λ inner. BoundPassed (Opens inner) enclosed)
passes_opens opening depth enclosed whole is le =
    record {
      stops = λ a next e. inl record { front = []; joined = refl; begun = subst (λ n. Opens n []) (sym e) opens_none; next = next };
      grows = λ inner a b c e m p. bound_opens depth 1 inner enclosed whole (omega (arith, e)) le (one_open opening is m) p;
    }

-- the bound of expressions in brackets, within one statement
pub passes_line : (opening : List ℕ) (depth : ℕ) → is_opening opening ≡ true → InLine (Sign opening) → PassesIn opening depth (BoundPassed (Line depth) 0) (λ inner. BoundPassed (Line inner) 0)
passes_line opening depth is in_it =
    record {
      stops = λ a next e. inl record { front = []; joined = refl; begun = subst (λ n. Line n []) (sym e) line_none; next = next };
      grows = λ inner a b c e m p. bound_line depth 1 inner (omega (arith, e)) (line_open opening is in_it m) p;
    }

-- an expression up to a closing bracket
pub expr_up_to : {depth : ℕ} {before after : Reader} {result : Result Expr SyntaxError} → ReadsFewBefore (Ends expression_signs) SpellsExpr seen_expr HasFewOperators (ExprPassed depth most_operators) depth before after result → ReadsFewUpTo (Begins (IsSign (codes ")"))) SpellsExpr seen_expr HasFewOperators (BoundPassed (Line depth) 0) depth before after result
expr_up_to {depth = depth} {before = before} {after = end} {result = result} r =
    record {
      taken = taken_may (SpellsExpr depth) seen_expr (ahead before) (ahead end) result r.taken;
      few = r.few;
      only = λ more e rest m at. r.only more e rest m (ends_sign expression_signs (codes ")") rest refl at);
      deep = deep_as result (λ p. expr_bound p) r.deep;
    }

-- the end of a `?` in a reader of what stands behind `=`
pub refused_read : {depth : ℕ} {to : Lval} {before after : Reader} {result : Result Stmt SyntaxError} (e : SyntaxError) → IsErrAnd result (λ d. d ≡ e) → ((more : ℕ) (register : RegRef) (cell : PlainExpr) (rest : List Word) → MayTake (SpellsReadOf more register cell) (ahead before) rest → WantsOr ((more ≤ depth) × HasFewOperators cell) e) → IfTooDeep (LinePassed depth (ahead before) (ahead after)) e → ReadsRead depth to before after result
refused_read {depth = depth} {to = to} {before = before} {after = end} e is want deep = of_refusal (λ r. ReadsRead depth to before end r) is record { taken = tt; only = want; deep = deep }

pub refused_assign : {depth : ℕ} {to : Lval} {before after : Reader} {result : Result Stmt SyntaxError} (e : SyntaxError) → IsErrAnd result (λ d. d ≡ e) → ((more : ℕ) (value : PlainExpr) (rest : List Word) → MayTake (SpellsExpr more value ⨟ Sign (codes ";")) (ahead before) rest → WantsOr ((more ≤ depth) × HasFewOperators value) e) → IfTooDeep (LinePassed depth (ahead before) (ahead after)) e → ReadsAssign depth to before after result
refused_assign {depth = depth} {to = to} {before = before} {after = end} e is want deep = of_refusal (λ r. ReadsAssign depth to before end r) is record { taken = tt; only = want; deep = deep }

-- a reader of one form reads each thing, where all that are spelled are of this form
pub any_form : {A B I : Type 0} {Of : ℕ → B → Grammar} {seen : A → B} (made : I → B) {Few : B → Type 0} {Passed : List Word → List Word → Type 0} {depth : ℕ} {before after : Reader} {result : Result A SyntaxError} → ReadsFewMade Of seen made Few Passed depth before after result → ((more : ℕ) (x : B) (rest : List Word) → MayTake (Of more x) (ahead before) rest → (of : I) × (made of ≡ x)) → ReadsFew Of seen Few Passed depth before after result
any_form {Of = Of} {seen = seen} made {Few = Few} {depth = depth} {before = before} {after = end} {result = result} r all =
    record {
      taken = r.taken;
      few = r.few;
      only = λ more x rest m.
          let f = all more x rest m in
          subst (λ y. IsReading ((more ≤ depth) × Few y) seen y rest (ahead end) result) f.1 (r.only more f.0 rest (subst (λ y. MayTake (Of more y) (ahead before) rest) (sym f.1) m));
      deep = r.deep;
    }
