-- Laws of the grammar of whole programs, this project's own.
use Rattle.std.specs.Prelude.{length, ◌≡◌, ℕ, ◌+◌, ◌≤◌, ◌&&◌, Bool, true, false, List, ◌∷◌, ◌++◌, codes}
use Rattle.elastic_ast.specs.Tree.{PlainExpr, PlainStmt, PlainStmts, PlainAction, PlainTable, PlainProgram}
use Rattle.elastic_ast.specs.declared.declarations.Key.{Key}
use Rattle.spelling.specs.Words.{Word}
use Rattle.spelling.specs.Grammar.{Begins, IsReserved, IsSign}
use Rattle.spelling.specs.Brackets.{most_open, open_behind}
use Rattle.spelling.specs.Bounds.{Opens}
use Rattle.p4_tables.specs.Tables.{Property, SpellsTable}
use Rattle.p4_statements.specs.Statements.{SpellsStmt, SpellsStmts, SpellsBranch}
use Rattle.p4_statements.specs.Begun.{StmtsBegun}
use Rattle.p4_parser.specs.Declarations.{SpellsAction, SpellsProgram}

-- an `if` without `else` is spelled as the first branch of another only with brackets around it
abbrev pub BranchesHaveBrackets : Type 0
BranchesHaveBrackets = (depth : ℕ) (condition : PlainExpr) (then_stmts : PlainStmts) (ws : List Word) → SpellsBranch depth false (PlainStmts.cons (PlainStmt.If condition then_stmts) PlainStmts.nil) ws → Begins (IsSign (codes "{")) ws

-- an `if` without `else` is always open
abbrev pub IfsAreOpen : Type 0
IfsAreOpen = (depth : ℕ) (open_end : Bool) (condition : PlainExpr) (then_stmts : PlainStmts) (ws : List Word) → SpellsStmt depth open_end (PlainStmt.If condition then_stmts) ws → open_end ≡ true

-- no table is spelled with a key property behind a key property
abbrev pub NoTableHasTwoKeys : Type 0
NoTableHasTwoKeys = (depth : ℕ) (table : PlainTable) (ws : List Word) (spelled : SpellsTable depth table ws) (one other : List Key) (rest : List Property) → spelled.properties ≡ Property.Keys one ∷ Property.Keys other ∷ rest → ⊥

-- statements that are spelled within a depth are spelled within each greater one
abbrev pub StatementsDeeper : Type 0
StatementsDeeper = (depth more : ℕ) (stmts : PlainStmts) (ws : List Word) → depth ≤ more → SpellsStmts depth stmts ws → SpellsStmts more stmts ws

-- programs too
abbrev pub ProgramsDeeper : Type 0
ProgramsDeeper = (depth more : ℕ) (program : PlainProgram) (ws : List Word) → depth ≤ more → SpellsProgram depth program ws → SpellsProgram more program ws

-- no more brackets are open at a word of statements than the depth under which they are spelled
abbrev pub StatementsOpen : Type 0
StatementsOpen = (depth : ℕ) (stmts : PlainStmts) (ws : List Word) → SpellsStmts depth stmts ws → most_open ws ≤ depth

-- and at a word of a program
abbrev pub ProgramsOpen : Type 0
ProgramsOpen = (depth : ℕ) (program : PlainProgram) (ws : List Word) → SpellsProgram depth program ws → most_open ws ≤ depth

-- what is begun of statements has no more brackets open than it counts
abbrev pub BegunOpens : Type 0
BegunOpens = (after ws : List Word) (count before : ℕ) → StmtsBegun after count ws → open_behind before ws ≤ before + count

-- and just as many where no `if` stands in it
abbrev pub BegunOpensJust : Type 0
BegunOpensJust = (after ws : List Word) (count : ℕ) → ((front back : List Word) → ws ≡ front ++ back → Begins (IsReserved (codes "if")) back → ⊥) → StmtsBegun after count ws → Opens count ws

-- a program has at most as many declarations as words
abbrev pub DeclarationsAreFew : Type 0
DeclarationsAreFew = (depth : ℕ) (program : PlainProgram) (ws : List Word) → SpellsProgram depth program ws → length program ≤ length ws

-- a statement that has no others in it, and is no call and no application
abbrev pub is_plain : PlainStmt → Bool
is_plain (PlainStmt.Assign to value) = true
is_plain (PlainStmt.Read to register cell) = true
is_plain (PlainStmt.Write register cell value) = true
is_plain (PlainStmt.Valid header on) = true
is_plain _ = false

abbrev pub are_plain : PlainStmts → Bool
are_plain PlainStmts.nil = true
are_plain (PlainStmts.cons first rest) = is_plain first && are_plain rest

-- the body of an action that is spelled has plain statements alone
abbrev pub ActionsArePlain : Type 0
ActionsArePlain = (depth : ℕ) (action : PlainAction) (ws : List Word) → SpellsAction depth action ws → are_plain action.body ≡ true
