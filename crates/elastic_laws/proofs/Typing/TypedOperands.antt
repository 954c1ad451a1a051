-- What a typed expression or statement hands to its parts, in the form that the goals of a recursion under a typed argument
-- take.
use Rattle.std.proofs.Common.{◌≡◌, ℕ, Bool, List, [], ◌∷◌, ◌++◌, Option, None, subst}
use Rattle.elastic_ast.specs.declared.statements.Amount.{Amount}
use Rattle.elastic_ast.specs.declared.statements.Lval.{Lval}
use Rattle.elastic_ast.specs.Tree.{Name, PlainExpr, PlainStmt, PlainStmts, PlainLocal}
use Rattle.elastic_ast.specs.Typing.Scope.{Scope}
use Rattle.elastic_ast.specs.OperatorSorts.{operator_of, sort_of}
use Rattle.elastic_ast.specs.Typing.Types.{Ty, Bare, bits_of, left_giver, right_giver, lval_type, type_of}
use Rattle.elastic_ast.specs.Typing.Demand.{Alike, HasWidth, Number, Wide, Cut, Boolean, first_broken}
use Rattle.elastic_ast.specs.Typing.AskedOfNames.{asks_amount}
use Rattle.elastic_ast.specs.Typing.AskedInExpressions.{names_at, turned_giver, asks_turned, asks_cast, asks_count, asks_expr, asks_bits, asks_truth, asks_lval}
use Rattle.elastic_ast.specs.Typing.AskedInStatements.{asks_loop, in_loop, asks_stmt, asks_stmts}
use Rattle.elastic_laws.proofs.Typing.TypedFacts.{parts, head_met}
use Rattle.elastic_laws.proofs.Typing.TypedStays.{operands}

-- the expression asks nothing that isn't so at a place that gives it a width
abbrev pub IsTypedExpr : Bool → Scope → PlainExpr → Ty → Type 0
IsTypedExpr allow s e giver = first_broken allow (asks_expr s e giver) ≡ None

abbrev pub IsTypedStmt : Bool → Scope → List PlainLocal → PlainStmt → Type 0
IsTypedStmt allow s locals x = first_broken allow (asks_stmt s locals x) ≡ None

abbrev pub AreTyped : Bool → Scope → List PlainLocal → PlainStmts → Type 0
AreTyped allow s locals xs = first_broken allow (asks_stmts s locals xs) ≡ None

pub typed-of : (allow : Bool) (s : Scope) (op : ℕ) (a x : PlainExpr) (giver : Ty) → x ≡ PlainExpr.Unary op a → first_broken allow (asks_expr s x giver) ≡ None → first_broken allow (asks_expr s a (turned_giver (sort_of (operator_of op)) giver)) ≡ None
typed-of allow s op a x giver e h =
    (parts allow (asks_expr s a (turned_giver (sort_of (operator_of op)) giver)) (asks_turned (sort_of (operator_of op)) (type_of (names_at s) a)) (subst (λ z. IsTypedExpr allow s z giver) e h)).0

pub typed-left : (allow : Bool) (s : Scope) (op : ℕ) (a b x : PlainExpr) (giver : Ty) → x ≡ PlainExpr.Binary op a b → first_broken allow (asks_expr s x giver) ≡ None → first_broken allow (asks_expr s a (left_giver (sort_of (operator_of op)) (type_of (names_at s) a) (type_of (names_at s) b))) ≡ None
typed-left allow s op a b x giver e h = (operands allow s op a b giver (subst (λ z. IsTypedExpr allow s z giver) e h)).0

pub typed-right : (allow : Bool) (s : Scope) (op : ℕ) (a b x : PlainExpr) (giver : Ty) → x ≡ PlainExpr.Binary op a b → first_broken allow (asks_expr s x giver) ≡ None → first_broken allow (asks_expr s b (right_giver (sort_of (operator_of op)) (type_of (names_at s) a) (type_of (names_at s) b))) ≡ None
typed-right allow s op a b x giver e h = (operands allow s op a b giver (subst (λ z. IsTypedExpr allow s z giver) e h)).1

pub typed-cast : (allow : Bool) (s : Scope) (w : ℕ) (a x : PlainExpr) (giver : Ty) → x ≡ PlainExpr.Cast w a → first_broken allow (asks_expr s x giver) ≡ None → first_broken allow (asks_expr s a (bits_of w)) ≡ None
typed-cast allow s w a x giver e h =
    let operand = asks_expr s a (bits_of w) in
    let own = asks_cast w (type_of (names_at s) a) in
    (parts allow operand own (head_met allow (Wide w) (operand ++ own) (subst (λ z. IsTypedExpr allow s z giver) e h)).1).0

pub typed-slice : (allow : Bool) (s : Scope) (high low : ℕ) (a x : PlainExpr) (giver : Ty) → x ≡ PlainExpr.Slice a high low → first_broken allow (asks_expr s x giver) ≡ None → first_broken allow (asks_expr s a Bare) ≡ None
typed-slice allow s high low a x giver e h =
    let t = type_of (names_at s) a in (parts allow (asks_expr s a Bare) (Number t ∷ HasWidth t ∷ Cut high low t ∷ []) (subst (λ z. IsTypedExpr allow s z giver) e h)).0

pub typed-hash : (allow : Bool) (s : Scope) (k m : Amount) (a x : PlainExpr) (giver : Ty) → x ≡ PlainExpr.Hash k a m → first_broken allow (asks_expr s x giver) ≡ None → first_broken allow (asks_expr s a Bare) ≡ None
typed-hash allow s k m a x giver e h =
    let t = type_of (names_at s) a in
    (parts allow (asks_expr s a Bare) (asks_count s k ++ (asks_amount s.before m ++ (Number t ∷ HasWidth t ∷ []))) (subst (λ z. IsTypedExpr allow s z giver) e h)).0

pub ruleset typed = (typed-of, typed-left, typed-right, typed-cast, typed-slice, typed-hash)

-- statements
pub typed-block : (allow : Bool) (s : Scope) (locals : List PlainLocal) (stage : Option ℕ) (xs : PlainStmts) (x : PlainStmt) → x ≡ PlainStmt.Block stage xs → first_broken allow (asks_stmt s locals x) ≡ None → first_broken allow (asks_stmts s locals xs) ≡ None
typed-block allow s locals stage xs x e h = subst (λ z. IsTypedStmt allow s locals z) e h

pub typed-if : (allow : Bool) (s : Scope) (locals : List PlainLocal) (c : PlainExpr) (xs : PlainStmts) (x : PlainStmt) → x ≡ PlainStmt.If c xs → first_broken allow (asks_stmt s locals x) ≡ None → first_broken allow (asks_stmts s locals xs) ≡ None
typed-if allow s locals c xs x e h = (parts allow (asks_truth s c) (asks_stmts s locals xs) (subst (λ z. IsTypedStmt allow s locals z) e h)).1

pub typed-if-condition : (allow : Bool) (s : Scope) (locals : List PlainLocal) (c : PlainExpr) (xs : PlainStmts) (x : PlainStmt) → x ≡ PlainStmt.If c xs → first_broken allow (asks_stmt s locals x) ≡ None → first_broken allow (asks_expr s c Bare) ≡ None
typed-if-condition allow s locals c xs x e h =
    (parts allow (asks_expr s c Bare) (Boolean (type_of (names_at s) c) ∷ []) (parts allow (asks_truth s c) (asks_stmts s locals xs) (subst (λ z. IsTypedStmt allow s locals z) e h)).0).0

if_else_parts : (allow : Bool) (s : Scope) (locals : List PlainLocal) (c : PlainExpr) (xs ys : PlainStmts) (x : PlainStmt) → x ≡ PlainStmt.IfElse c xs ys → first_broken allow (asks_stmt s locals x) ≡ None
    → (first_broken allow (asks_expr s c Bare) ≡ None) × (first_broken allow (asks_stmts s locals xs) ≡ None) × (first_broken allow (asks_stmts s locals ys) ≡ None)
if_else_parts allow s locals c xs ys x e h =
    let p = parts allow (asks_truth s c) (asks_stmts s locals xs ++ asks_stmts s locals ys) (subst (λ z. IsTypedStmt allow s locals z) e h) in
    let q = parts allow (asks_stmts s locals xs) (asks_stmts s locals ys) p.1 in
    ((parts allow (asks_expr s c Bare) (Boolean (type_of (names_at s) c) ∷ []) p.0).0, q.0, q.1)

pub typed-if_else-condition : (allow : Bool) (s : Scope) (locals : List PlainLocal) (c : PlainExpr) (xs ys : PlainStmts) (x : PlainStmt) → x ≡ PlainStmt.IfElse c xs ys → first_broken allow (asks_stmt s locals x) ≡ None → first_broken allow (asks_expr s c Bare) ≡ None
typed-if_else-condition allow s locals c xs ys x e h = (if_else_parts allow s locals c xs ys x e h).0

pub typed-yes : (allow : Bool) (s : Scope) (locals : List PlainLocal) (c : PlainExpr) (xs ys : PlainStmts) (x : PlainStmt) → x ≡ PlainStmt.IfElse c xs ys → first_broken allow (asks_stmt s locals x) ≡ None → first_broken allow (asks_stmts s locals xs) ≡ None
typed-yes allow s locals c xs ys x e h = (if_else_parts allow s locals c xs ys x e h).1

pub typed-no : (allow : Bool) (s : Scope) (locals : List PlainLocal) (c : PlainExpr) (xs ys : PlainStmts) (x : PlainStmt) → x ≡ PlainStmt.IfElse c xs ys → first_broken allow (asks_stmt s locals x) ≡ None → first_broken allow (asks_stmts s locals ys) ≡ None
typed-no allow s locals c xs ys x e h = (if_else_parts allow s locals c xs ys x e h).2

pub typed-for : (allow : Bool) (s : Scope) (locals : List PlainLocal) (i n : Name) (xs : PlainStmts) (x : PlainStmt) → x ≡ PlainStmt.For i n xs → first_broken allow (asks_stmt s locals x) ≡ None → first_broken allow (asks_stmts (in_loop s i n) locals xs) ≡ None
typed-for allow s locals i n xs x e h = (parts allow (asks_loop s i n) (asks_stmts (in_loop s i n) locals xs) (subst (λ z. IsTypedStmt allow s locals z) e h)).1

pub typed-assigned : (allow : Bool) (s : Scope) (locals : List PlainLocal) (to : Lval) (a : PlainExpr) (x : PlainStmt) → x ≡ PlainStmt.Assign to a → first_broken allow (asks_stmt s locals x) ≡ None → first_broken allow (asks_expr s a (lval_type s.before to)) ≡ None
typed-assigned allow s locals to a x e h =
    let t = type_of (names_at s) a in
    (parts allow (asks_expr s a (lval_type s.before to)) (Number t ∷ Alike t (lval_type s.before to) ∷ []) (parts allow (asks_lval s to) (asks_bits s a (lval_type s.before to)) (subst (λ z. IsTypedStmt allow s locals z) e h)).1).0

pub typed-first : (allow : Bool) (s : Scope) (locals : List PlainLocal) (x : PlainStmt) (xs ys : PlainStmts) → ys ≡ PlainStmts.cons x xs → first_broken allow (asks_stmts s locals ys) ≡ None → first_broken allow (asks_stmt s locals x) ≡ None
typed-first allow s locals x xs ys e h = (parts allow (asks_stmt s locals x) (asks_stmts s locals xs) (subst (λ z. AreTyped allow s locals z) e h)).0

pub typed-rest : (allow : Bool) (s : Scope) (locals : List PlainLocal) (x : PlainStmt) (xs ys : PlainStmts) → ys ≡ PlainStmts.cons x xs → first_broken allow (asks_stmts s locals ys) ≡ None → first_broken allow (asks_stmts s locals xs) ≡ None
typed-rest allow s locals x xs ys e h = (parts allow (asks_stmt s locals x) (asks_stmts s locals xs) (subst (λ z. AreTyped allow s locals z) e h)).1

pub ruleset typed_stmts = (typed-block, typed-if, typed-if-condition, typed-if_else-condition, typed-yes, typed-no, typed-for, typed-assigned, typed-first, typed-rest)
