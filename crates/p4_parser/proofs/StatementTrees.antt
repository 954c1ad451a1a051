-- The trees of the examples of statements, and that an `if` without `else` is open.
use Rattle.std.proofs.Common.{◌≡◌, ℕ, suc, Bool, true, false, List, [], ◌∷◌, ◌++◌, codes, refl, sym, subst, None, Some, lit<}
use Rattle.p4_lexer.specs.declared.token.Kind.TheVariants as kind
use Rattle.elastic_ast.specs.Tree.{Name, PlainExpr, PlainStmt, PlainStmts}
use Rattle.spelling.specs.Grammar.{Begins, IsNamed, IsSign}
use Rattle.spelling.specs.Words.{Word}
use Rattle.p4_expr.specs.Expressions.{SpellsExpr}
use Rattle.p4_expr.proofs.Building.{sign_first, sign_last, reserved_first, reserved_last, name_first, word_last, one_name, from_none}
use Rattle.p4_statements.specs.Statements.{SpellsCondition, SpellsCall, SpellsStmt, SpellsStmts, SpellsBranch}
use Rattle.p4_parser.specs.Examples.{inner_else, branch_of_a_stage, only, bare_call}

pub name_alone : (depth : ℕ) (name : Name) (w : Word) → IsNamed name w → SpellsExpr depth (PlainExpr.Named name) (w ∷ [])
name_alone depth name w h = from_none depth (PlainExpr.Named name) (w ∷ []) (one_name depth name w h.0 h.1)

pub condition_of_name : (depth : ℕ) (name : Name) (head opening w closing : Word) → head.kind ≡ kind.Reserved 9 → head.piece ≡ codes "if" → opening.kind ≡ kind.Sign 2 → opening.piece ≡ codes "(" → w.kind ≡ kind.Name → w.piece ≡ name → closing.kind ≡ kind.Sign 3 → closing.piece ≡ codes ")" → SpellsCondition (suc depth) (PlainExpr.Named name) (head ∷ opening ∷ w ∷ closing ∷ [])
condition_of_name depth name head opening w closing a1 a2 b1 b2 c1 c2 d1 d2 =
    reserved_first (codes "if") 9 head _ a1 a2 (sign_first (codes "(") 2 opening _ b1 b2
    record { front = w ∷ []; back = closing ∷ []; joined = refl; first = name_alone depth name w (c1, c2); second = sign_last (codes ")") 3 closing d1 d2 })

pub call_of_name : (depth : ℕ) (name : Name) (w opening closing end : Word) → w.kind ≡ kind.Name → w.piece ≡ name → opening.kind ≡ kind.Sign 2 → opening.piece ≡ codes "(" → closing.kind ≡ kind.Sign 3 → closing.piece ≡ codes ")" → end.kind ≡ kind.Sign 8 → end.piece ≡ codes ";" → SpellsCall (suc depth) name None [] (w ∷ opening ∷ closing ∷ end ∷ [])
call_of_name depth name w opening closing end a1 a2 b1 b2 c1 c2 d1 d2 =
    name_first name w _ a1 a2
    record {
      front = [];
      back = opening ∷ closing ∷ end ∷ [];
      joined = refl;
      first = refl;
      second = record {
        front = opening ∷ closing ∷ [];
        back = end ∷ [];
        joined = refl;
        first = sign_first (codes "(") 2 opening _ b1 b2 record { front = []; back = closing ∷ []; joined = refl; first = refl; second = sign_last (codes ")") 3 closing c1 c2 };
        second = sign_last (codes ";") 8 end d1 d2;
      };
    }

pub call_alone : (depth : ℕ) (name : Name) (w opening closing end : Word) → w.kind ≡ kind.Name → w.piece ≡ name → opening.kind ≡ kind.Sign 2 → opening.piece ≡ codes "(" → closing.kind ≡ kind.Sign 3 → closing.piece ≡ codes ")" → end.kind ≡ kind.Sign 8 → end.piece ≡ codes ";" → SpellsBranch (suc (suc depth)) false (only (bare_call name)) (w ∷ opening ∷ closing ∷ end ∷ [])
call_alone depth name w opening closing end a1 a2 b1 b2 c1 c2 d1 d2 = SpellsBranch.alone refl (SpellsStmt.called (call_of_name depth name w opening closing end a1 a2 b1 b2 c1 c2 d1 d2))

pub inner_else_tree : SpellsStmt 3 true (PlainStmt.If (PlainExpr.Named (codes "a")) (only (PlainStmt.IfElse (PlainExpr.Named (codes "b")) (only (bare_call (codes "x"))) (only (bare_call (codes "y")))))) inner_else
inner_else_tree =
    SpellsStmt.without_else {open_end = false} _ _
    (condition_of_name 2 (codes "a") _ _ _ _ refl refl refl refl refl refl refl refl)
    (SpellsBranch.alone refl
    (SpellsStmt.with_else _ _ _ _
    (condition_of_name 1 (codes "b") _ _ _ _ refl refl refl refl refl refl refl refl)
    (call_alone 0 (codes "x") _ _ _ _ refl refl refl refl refl refl refl refl)
    (reserved_last (codes "else") 5 _ refl refl)
    (call_alone 0 (codes "y") _ _ _ _ refl refl refl refl refl refl refl refl)
    refl))
    refl

pub stage_branch_tree : SpellsStmt 3 true (PlainStmt.If (PlainExpr.Named (codes "a")) (only (PlainStmt.Block (Some 0) (only (bare_call (codes "x")))))) branch_of_a_stage
stage_branch_tree =
    SpellsStmt.without_else {open_end = false} _ _
    (condition_of_name 2 (codes "a") _ _ _ _ refl refl refl refl refl refl refl refl)
    (SpellsBranch.alone refl
    (SpellsStmt.block (_ ∷ _ ∷ _ ∷ _ ∷ _ ∷ []) _ (_ ∷ _ ∷ _ ∷ _ ∷ []) _ (
      lit< tt,
      sign_first (codes "@") 30 _ _ refl refl
          (name_first (codes "stage") _ _ refl refl
          (sign_first (codes "(") 2 _ _ refl refl record { front = _ ∷ []; back = _ ∷ []; joined = refl; first = word_last _ refl; second = sign_last (codes ")") 3 _ refl refl })),
    )
    (sign_last (codes "{") 0 _ refl refl)
    (SpellsStmts.one_more {open_end = false} _ [] (SpellsStmt.called (call_of_name 0 (codes "x") _ _ _ _ refl refl refl refl refl refl refl refl)) SpellsStmts.no_more refl)
    (sign_last (codes "}") 1 _ refl refl)
    refl))
    refl

pub if_is_open : (depth : ℕ) (open_end : Bool) (condition : PlainExpr) (then_stmts : PlainStmts) (ws : List Word) → SpellsStmt depth open_end (PlainStmt.If condition then_stmts) ws → open_end ≡ true
if_is_open depth open_end condition then_stmts ws (SpellsStmt.without_else front back a b c) = refl
if_is_open depth open_end condition then_stmts ws (SpellsStmt.simple h) = absurd h

-- its condition stands in brackets
pub no_depth_no_if : (open_end : Bool) (condition : PlainExpr) (then_stmts : PlainStmts) (ws : List Word) → SpellsStmt 0 open_end (PlainStmt.If condition then_stmts) ws → ⊥
no_depth_no_if open_end condition then_stmts ws (SpellsStmt.without_else front back c b e) = c.second
no_depth_no_if open_end condition then_stmts ws (SpellsStmt.simple h) = h

pub no_depth_no_else : (open_end : Bool) (condition : PlainExpr) (then_stmts else_stmts : PlainStmts) (ws : List Word) → SpellsStmt 0 open_end (PlainStmt.IfElse condition then_stmts else_stmts) ws → ⊥
no_depth_no_else open_end condition then_stmts else_stmts ws (SpellsStmt.with_else front first between second c f i s e) = c.second
no_depth_no_else open_end condition then_stmts else_stmts ws (SpellsStmt.simple h) = h

-- so an open branch before an `else` is in brackets
pub open_branch_in_brackets : (depth : ℕ) (condition : PlainExpr) (then_stmts : PlainStmts) (ws : List Word) → SpellsBranch depth false (PlainStmts.cons (PlainStmt.If condition then_stmts) PlainStmts.nil) ws → Begins (IsSign (codes "{")) ws
open_branch_in_brackets depth condition then_stmts ws (SpellsBranch.in_brackets opening inside closing o h c e) =
    let Opens : List Word → Type 0 = λ l. Begins (IsSign (codes "{")) (l ++ inside ++ closing) in
    let first : Opens (o.word ∷ []) = o.is_this in
    subst (Begins (IsSign (codes "{"))) (sym e) (subst Opens (sym o.alone) first)
open_branch_in_brackets depth condition then_stmts ws (SpellsBranch.alone {depth = inner} other h) = let e : false ≡ true = if_is_open inner false condition then_stmts ws h in absurd cc
