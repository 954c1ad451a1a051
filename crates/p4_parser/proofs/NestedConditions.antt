-- So many conditions, each within the one before, need so great a depth and no greater one.
use Rattle.std.proofs.Common.{◌≡◌, ℕ, zero, suc, ◌+◌, ◌-◌, ◌≤◌, max, Bool, true, false, List, [], ◌∷◌, ◌++◌, codes, refl, sym, subst, append-nil, append_assoc, None, arith, lit<}
use Rattle.elastic_ast.specs.Tree.{PlainExpr, PlainStmt, PlainStmts}
use Rattle.spelling.specs.Words.{Word}
use Rattle.spelling.specs.Brackets.{most_open_from, most_open}
use Rattle.spelling.proofs.Balance.{most_within}
use Rattle.p4_expr.proofs.Building.{sign_first, sign_last, name_first, name_last, one_number, from_none}
use Rattle.p4_statements.specs.Statements.{SpellsPlain, SpellsStmt, SpellsStmts, SpellsBranch, is_bare_block}
use Rattle.p4_parser.specs.Examples.{only, conditions, drop_words, condition_words, opening_word, closing_word, bracketed_conditions, bare_conditions}
use Rattle.p4_parser.proofs.StatementTrees.{condition_of_name}
use Rattle.p4_statements.proofs.StatementsWithin.{stmts_within}

drop_spelled : (depth : ℕ) → SpellsStmt depth false (conditions zero) drop_words
drop_spelled depth = SpellsStmt.simple
    record {
      front = _ ∷ _ ∷ _ ∷ [];
      back = _ ∷ _ ∷ _ ∷ [];
      joined = refl;
      first = name_first (codes "std") _ _ refl refl (sign_first (codes ".") 11 _ _ refl refl (name_last (codes "drop") _ refl refl));
      second = sign_first (codes "=") 12 _ _ refl refl
          record {
            front = _ ∷ [];
            back = _ ∷ [];
            joined = refl;
            first = from_none depth (PlainExpr.Num None 1) _ (one_number depth 1 _ (lit< tt) refl);
            second = sign_last (codes ";") 8 _ refl refl;
          };
    }

alone_in_list : (depth : ℕ) (open_end : Bool) (stmt : PlainStmt) (ws : List Word) → SpellsStmt depth open_end stmt ws → SpellsStmts depth (only stmt) ws
alone_in_list depth open_end stmt ws h = SpellsStmts.one_more ws [] h SpellsStmts.no_more (sym (append-nil ws))

pub bracketed_spelled : (n : ℕ) → SpellsStmts n (only (conditions n)) (bracketed_conditions n)
bracketed_spelled zero = alone_in_list 0 false (conditions zero) drop_words (drop_spelled 0)
bracketed_spelled (suc n) =
    alone_in_list (suc n) true (conditions (suc n)) (bracketed_conditions (suc n))
    (SpellsStmt.without_else {open_end = false} condition_words (opening_word ++ bracketed_conditions n ++ closing_word)
    (condition_of_name n (codes "a") _ _ _ _ refl refl refl refl refl refl refl refl)
    (SpellsBranch.in_brackets opening_word (bracketed_conditions n) closing_word (sign_last (codes "{") 0 _ refl refl) (bracketed_spelled n) (sign_last (codes "}") 1 _ refl refl) refl)
    refl)

-- conditions end in an `if` without `else`
ends_open : ℕ → Bool
ends_open zero = false
ends_open (suc n) = true

no_block : (n : ℕ) → is_bare_block (conditions n) ≡ false
no_block zero = refl
no_block (suc n) = refl

bare_one_spelled : (n : ℕ) → SpellsStmt n (ends_open n) (conditions n) (bare_conditions n)
unfolding ends_open
bare_one_spelled zero = drop_spelled 0
bare_one_spelled (suc n) =
    SpellsStmt.without_else {open_end = ends_open n} condition_words (bare_conditions n)
    (condition_of_name n (codes "a") _ _ _ _ refl refl refl refl refl refl refl refl)
    (SpellsBranch.alone (no_block n) (bare_one_spelled n))
    refl

pub bare_spelled : (n : ℕ) → SpellsStmts n (only (conditions n)) (bare_conditions n)
bare_spelled n = alone_in_list n (ends_open n) (conditions n) (bare_conditions n) (bare_one_spelled n)

-- how deep blocks, loops and branches lie within one another
abbrev mutual
  pub levels : PlainStmt → ℕ
  levels (PlainStmt.Block stage body) = suc (levels_of body)
  levels (PlainStmt.If condition then_stmts) = suc (levels_of then_stmts)
  levels (PlainStmt.IfElse condition then_stmts else_stmts) = suc (max (levels_of then_stmts) (levels_of else_stmts))
  levels (PlainStmt.For index size body) = suc (levels_of body)
  levels other = 0

  pub levels_of : PlainStmts → ℕ
  levels_of PlainStmts.nil = 0
  levels_of (PlainStmts.cons stmt stmts) = max (levels stmt) (levels_of stmts)

plain_levels : (depth : ℕ) (stmt : PlainStmt) (ws : List Word) → SpellsPlain depth stmt ws → levels stmt ≤ depth
plain_levels depth (PlainStmt.Assign to value) ws h = omega arith
plain_levels depth (PlainStmt.Read to register cell) ws h = omega arith
plain_levels depth (PlainStmt.Write register cell value) ws h = omega arith
plain_levels depth (PlainStmt.Valid header on) ws h = omega arith
plain_levels depth other ws h = absurd h

-- whatever the words are, they need so great a depth
mutual
  pub stmt_levels : {depth : ℕ} {open_end : Bool} {stmt : PlainStmt} {ws : List Word} → SpellsStmt depth open_end stmt ws → levels stmt ≤ depth
  stmt_levels (SpellsStmt.block front opening inside closing s o h c e) = let le = stmts_levels h in omega (arith, le)
  stmt_levels (SpellsStmt.without_else front back c b e) = branch_levels b
  stmt_levels (SpellsStmt.with_else front first between second c f i s e) = let le = branch_levels f in let also = branch_levels s in omega (arith, le, also)
  stmt_levels (SpellsStmt.repeated front opening inside closing t o h c e) = let le = stmts_levels h in omega (arith, le)
  stmt_levels (SpellsStmt.called h) = omega arith
  stmt_levels (SpellsStmt.applied h) = omega arith
  stmt_levels {depth = depth} {stmt = stmt} {ws = ws} (SpellsStmt.simple h) = plain_levels depth stmt ws h

  pub stmts_levels : {depth : ℕ} {stmts : PlainStmts} {ws : List Word} → SpellsStmts depth stmts ws → levels_of stmts ≤ depth
  stmts_levels SpellsStmts.no_more = omega arith
  stmts_levels (SpellsStmts.one_more front back f b e) = let le = stmt_levels f in let also = stmts_levels b in omega (arith, le, also)

  pub branch_levels : {depth : ℕ} {open_end : Bool} {stmts : PlainStmts} {ws : List Word} → SpellsBranch depth open_end stmts ws → suc (levels_of stmts) ≤ depth
  branch_levels (SpellsBranch.in_brackets opening inside closing o h c e) = let le = stmts_levels h in omega (arith, le)
  branch_levels (SpellsBranch.alone other h) = let le = stmt_levels h in omega (arith, le)

conditions_levels : (n : ℕ) → levels (conditions n) ≡ n
conditions_levels zero = refl
conditions_levels (suc n) = let e = conditions_levels n in omega (arith, e)

pub tree_needs : (n depth : ℕ) (ws : List Word) → SpellsStmts depth (only (conditions n)) ws → n ≤ depth
tree_needs n depth ws h = let le = stmts_levels h in let e = conditions_levels n in omega (arith, le, e)

-- whatever tree they spell, the words with brackets have so many open
pub many_open : (n k : ℕ) (rest : List Word) → k + n ≤ most_open_from k (bracketed_conditions n ++ rest)
many_open zero k rest = omega arith
many_open (suc n) k rest =
    let inside = k + 1 - 1 + 1 in
    let h : inside + n ≤ most_open_from inside (bracketed_conditions n ++ closing_word ++ rest) = subst (λ ws. inside + n ≤ most_open_from inside ws) (sym (append_assoc (bracketed_conditions n) closing_word rest)) (many_open n inside (closing_word ++ rest)) in
    omega (arith, h)

pub words_need : (n depth : ℕ) (stmts : PlainStmts) → SpellsStmts depth stmts (bracketed_conditions n) → n ≤ depth
words_need n depth stmts h =
    let most = most_within (stmts_within h) in
    let some : 0 + n ≤ most_open (bracketed_conditions n) = subst (λ ws. 0 + n ≤ most_open ws) (append-nil (bracketed_conditions n)) (many_open n 0 []) in
    omega (arith, most, some)
