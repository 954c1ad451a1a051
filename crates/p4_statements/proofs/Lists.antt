-- A list of statements as a list of the library, and how few operators the expressions of its statements have.
use Rattle.spelling.proofs.Limits.{or_as}
use Rattle.std.proofs.Common.{◌≡◌, ℕ, Bool, List, [], ◌∷◌, ◌++◌, codes, refl, ap, sym, subst, Result, map, ◌∙◌, ◌≤◌, Ok, Err}
use Rattle.std.proofs.lemmas.List.Elements.{All-append, All-head, All-nil, All-tail}
use Rattle.elastic_ast.specs.Tree.{PlainExpr, PlainStmt, PlainStmts}
use denote.Ref.{MutBor}
use Rattle.std.specs.Prelude.{OnOk}
use Rattle.elastic_ast.specs.declared.statements.Stmt.{Stmt}
use Rattle.elastic_ast.specs.Seen.{joined, seen_stmt, seen_stmts}
use Rattle.spelling.specs.Readers.{Until, Ended, Refused, Wanting}
use Rattle.spelling.specs.declared.error.SyntaxError.{SyntaxError}
use Rattle.spelling.specs.declared.reader.Reader.{Reader}
use Rattle.spelling.proofs.AllOf.{all_back, all_front}
use Rattle.spelling.proofs.ByParts.{EachFew}
use Rattle.spelling.specs.Words.{Word}
use Rattle.spelling.specs.Grammar.{Grammar, Begins, Each, IsReserved, IsSign}
use Rattle.spelling.specs.Reading.{MayTake, IsReading, ahead}
use Rattle.spelling.proofs.Only.{empty_same, not_sign, reserved_no_sign, split}
use Rattle.p4_expr.specs.Expressions.{HasFewOperators}
use Rattle.p4_statements.specs.ExpressionsIn.{expressions_of, expressions_of_all}
use Rattle.p4_statements.specs.Reading.{HasFew, HaveFew, TakesToEnd}
use Rattle.p4_statements.specs.Statements.{SpellsPlain, SpellsPlains, SpellsStmt, SpellsStmts, no_more, one_more}
use Rattle.p4_statements.proofs.Forms.{stmt_no_else}

abbrev pub listed : PlainStmts → List PlainStmt
listed PlainStmts.nil = []
listed (PlainStmts.cons s ss) = s ∷ listed ss

pub joined_listed : (ss : PlainStmts) → joined (listed ss) ≡ ss
joined_listed PlainStmts.nil = refl
joined_listed (PlainStmts.cons s ss) = ap (PlainStmts.cons s) (joined_listed ss)

pub few_push : (xs : List PlainStmt) (x : PlainStmt) → HaveFew (joined xs) → HasFew x → HaveFew (joined (xs ++ x ∷ []))
few_push [] x a b = All-append HasFewOperators (expressions_of x) [] b (All-nil HasFewOperators)
few_push (y ∷ ys) x a b =
    let front = all_front HasFewOperators (expressions_of y) (expressions_of_all (joined ys)) a in
    let back = all_back HasFewOperators (expressions_of y) (expressions_of_all (joined ys)) a in
    All-append HasFewOperators (expressions_of y) (expressions_of_all (joined (ys ++ x ∷ []))) front (few_push ys x back b)

few_one : (xs : List PlainStmt) (one : PlainStmt) (later : List PlainStmt) → HaveFew (joined (xs ++ one ∷ later)) → HasFew one
few_one [] one later h = all_front HasFewOperators (expressions_of one) (expressions_of_all (joined later)) h
few_one (x ∷ xs) one later h = few_one xs one later (all_back HasFewOperators (expressions_of x) (expressions_of_all (joined (xs ++ one ∷ later))) h)

pub few_next : (read : List PlainStmt) (one : PlainStmt) (later all : List PlainStmt) → all ≡ read ++ one ∷ later → HaveFew (joined all) → HasFew one
few_next read one later all e h = few_one read one later (subst (λ xs. HaveFew (joined xs)) e h)

plains_each : (depth : ℕ) (ss : PlainStmts) (ws : List Word) → SpellsPlains depth ss ws → Each (SpellsPlain depth) (listed ss) ws
plains_each depth PlainStmts.nil ws h = h
plains_each depth (PlainStmts.cons s ss) ws h = record { front = h.front; back = h.back; joined = h.joined; first = h.first; second = plains_each depth ss h.back h.second }

each_plains : (depth : ℕ) (ss : List PlainStmt) (ws : List Word) → Each (SpellsPlain depth) ss ws → SpellsPlains depth (joined ss) ws
each_plains depth [] ws h = h
each_plains depth (s ∷ ss) ws h = record { front = h.front; back = h.back; joined = h.joined; first = h.first; second = each_plains depth ss h.back h.second }

pub take_plains : (depth : ℕ) (ss : List PlainStmt) {a c : List Word} → MayTake (Each (SpellsPlain depth) ss) a c → MayTake (SpellsPlains depth (joined ss)) a c
take_plains depth ss m = record { front = m.front; joined = m.joined; spelled = each_plains depth ss m.front m.spelled }

pub take_listed : (depth : ℕ) (ss : PlainStmts) {a c : List Word} → MayTake (SpellsPlains depth ss) a c → MayTake (Each (SpellsPlain depth) (listed ss)) a c
take_listed depth ss m = record { front = m.front; joined = m.joined; spelled = plains_each depth ss m.front m.spelled }

-- a statement whose end is open or not
abbrev pub SpellsAny : ℕ → PlainStmt → Grammar
SpellsAny depth stmt ws = (open_end : Bool) × SpellsStmt depth open_end stmt ws

stmts_each : (depth : ℕ) (ss : PlainStmts) (ws : List Word) → SpellsStmts depth ss ws → Each (SpellsAny depth) (listed ss) ws
stmts_each depth PlainStmts.nil ws no_more = refl
stmts_each depth (PlainStmts.cons s ss) ws (one_more {open_end = open_end} front back h k j) = record { front = front; back = back; joined = j; first = (open_end, h); second = stmts_each depth ss back k }

each_stmts : (depth : ℕ) (ss : List PlainStmt) (ws : List Word) → Each (SpellsAny depth) ss ws → SpellsStmts depth (joined ss) ws
each_stmts depth [] ws h = subst (SpellsStmts depth PlainStmts.nil) (sym h) no_more
each_stmts depth (s ∷ ss) ws h = one_more h.front h.back h.first.1 (each_stmts depth ss h.back h.second) h.joined

pub take_stmts : (depth : ℕ) (ss : List PlainStmt) {a c : List Word} → MayTake (Each (SpellsAny depth) ss) a c → MayTake (SpellsStmts depth (joined ss)) a c
take_stmts depth ss m = record { front = m.front; joined = m.joined; spelled = each_stmts depth ss m.front m.spelled }

pub list_stmts : (depth : ℕ) (ss : PlainStmts) {a c : List Word} → MayTake (SpellsStmts depth ss) a c → MayTake (Each (SpellsAny depth) (listed ss)) a c
list_stmts depth ss m = record { front = m.front; joined = m.joined; spelled = stmts_each depth ss m.front m.spelled }

pub any_end : {depth : ℕ} {stmt : PlainStmt} {a b : List Word} → TakesToEnd (λ open_end. SpellsStmt depth open_end stmt) a b → MayTake (SpellsAny depth stmt) a b
any_end t = record { front = t.taken.front; joined = t.taken.joined; spelled = (t.open_end, t.taken.spelled) }

pub of_any : {depth : ℕ} {stmt : PlainStmt} {a b : List Word} (m : MayTake (SpellsAny depth stmt) a b) → MayTake (SpellsStmt depth m.spelled.0 stmt) a b
of_any m = record { front = m.front; joined = m.joined; spelled = m.spelled.1 }

-- no `else` follows a statement that others follow up to a closing bracket
pub no_else_follows : (more : ℕ) (later : List PlainStmt) {a rest : List Word} → MayTake (Each (SpellsAny more) later) a rest → Begins (IsSign (codes "}")) rest → Begins (IsReserved (codes "else")) a → ⊥
no_else_follows more [] {a = a} {rest = rest} m ends at = not_sign (codes "}") rest (λ word h. reserved_no_sign word.kind h.0) (subst (Begins (IsReserved (codes "else"))) (empty_same m) at) ends
no_else_follows more (s ∷ later) m ends at = let f = (split m).first in stmt_no_else more f.spelled.0 s (of_any f) at

-- what a statement has few of, its parts have
pub if_few : (stmt : PlainStmt) (condition : PlainExpr) (body : PlainStmts) → stmt ≡ PlainStmt.If condition body → HasFew stmt → HasFewOperators condition × HaveFew body
if_few stmt condition body e few =
    let f = subst HasFew e few in
    (All-head HasFewOperators condition (expressions_of_all body) f, All-tail HasFewOperators condition (expressions_of_all body) f)

pub else_few : (stmt : PlainStmt) (condition : PlainExpr) (body other : PlainStmts) → stmt ≡ PlainStmt.IfElse condition body other → HasFew stmt → HasFewOperators condition × HaveFew body × HaveFew other
else_few stmt condition body other e few =
    let f = subst HasFew e few in
    let t = All-tail HasFewOperators condition (expressions_of_all body ++ expressions_of_all other) f in
    (All-head HasFewOperators condition (expressions_of_all body ++ expressions_of_all other) f, all_front HasFewOperators (expressions_of_all body) (expressions_of_all other) t, all_back HasFewOperators (expressions_of_all body) (expressions_of_all other) t)

-- few operators are used in a list of statements as in each of them
pub few_listed : EachFew HasFew (λ ss. HaveFew (joined ss))
few_listed = record { nothing = All-nil HasFewOperators; push = few_push; next = few_one }

-- what is read as a list, as statements
pub reading_joined : (more depth : ℕ) (stmts : PlainStmts) (rest now : List Word) (r : Result (List Stmt) SyntaxError) → IsReading ((more ≤ depth) × HaveFew (joined (listed stmts))) (map seen_stmt) (listed stmts) rest now r → IsReading ((more ≤ depth) × HaveFew stmts) seen_stmts stmts rest now r
reading_joined more depth stmts rest now (Ok read) r = (ap joined r.0 ∙ joined_listed stmts, r.1)
reading_joined more depth stmts rest now (Err e) r = or_as _ _ e (λ few. (few.0, subst HaveFew (sym (joined_listed stmts)) few.1)) r

pub ends_there : {A : Type 0} {Stop : Grammar} {Calls : MutBor Reader → Result A SyntaxError → MutBor Reader → Type 0} {before after : Reader} {result : Result (List A) SyntaxError} → Until Stop Calls before after result → OnOk result (Stop (ahead after))
ends_there (Ended xs o at) = at
ends_there (Refused xs old new e o not_at call same) = tt
ends_there (Wanting e want) = tt
