-- The body of an action that is spelled has plain statements alone.
use Rattle.std.proofs.Common.{◌≡◌, ℕ, zero, suc, true, List, refl}
use Rattle.std.proofs.lemmas.Bool.{and_from}
use Rattle.elastic_ast.specs.Tree.{PlainAction, PlainStmt, PlainStmts}
use Rattle.spelling.specs.Words.{Word}
use Rattle.spelling.specs.Readers.{InCurly}
use Rattle.p4_statements.specs.Statements.{SpellsPlain, SpellsPlains}
use Rattle.p4_parser.specs.Declarations.{SpellsAction}
use Rattle.p4_parser.specs.Laws.{is_plain, are_plain}

stmt_plain : (depth : ℕ) (stmt : PlainStmt) (ws : List Word) → SpellsPlain depth stmt ws → is_plain stmt ≡ true
stmt_plain depth (PlainStmt.Assign to value) ws s = refl
stmt_plain depth (PlainStmt.Read to register cell) ws s = refl
stmt_plain depth (PlainStmt.Write register cell value) ws s = refl
stmt_plain depth (PlainStmt.Valid header on) ws s = refl
stmt_plain depth other ws s = absurd s

stmts_plain : (depth : ℕ) (stmts : PlainStmts) (ws : List Word) → SpellsPlains depth stmts ws → are_plain stmts ≡ true
stmts_plain depth PlainStmts.nil ws s = refl
stmts_plain depth (PlainStmts.cons first rest) ws s = and_from (is_plain first) (are_plain rest) (stmt_plain depth first s.front s.first) (stmts_plain depth rest s.back s.second)

body_plain : (depth : ℕ) (body : PlainStmts) (ws : List Word) → InCurly SpellsPlains depth body ws → are_plain body ≡ true
body_plain zero body ws s = absurd s
body_plain (suc depth) body ws s = stmts_plain depth body s.second.front s.second.first

pub actions_plain : (depth : ℕ) (action : PlainAction) (ws : List Word) → SpellsAction depth action ws → are_plain action.body ≡ true
actions_plain depth action ws s = body_plain depth action.body s.second.second.second.back s.second.second.second.second
