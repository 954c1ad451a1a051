-- What the readers of declarations and programs take, this project's own.
use Rattle.std.specs.Prelude.{ℕ, ◌++◌, ◌⊎◌, List, All, Result, codes, flat_map, map}
use Rattle.elastic_ast.specs.declared.declarations.Decl.{Decl}
use Rattle.elastic_ast.specs.declared.declarations.Keyset.{Keyset}
use Rattle.elastic_ast.specs.declared.declarations.Local.{Local}
use Rattle.elastic_ast.specs.declared.declarations.Next.{Next}
use Rattle.elastic_ast.specs.declared.declarations.State.{State}
use Rattle.elastic_ast.specs.declared.statements.Stmt.{Stmt}
use Rattle.elastic_ast.specs.Seen.{seen_case, seen_decl, seen_local, seen_next, seen_state, seen_stmts}
use Rattle.elastic_ast.specs.Tree.{Name, PlainAction, PlainDecl, PlainExpr, PlainKeyset, PlainLocal, PlainNext, PlainProgram, PlainState, PlainStmts}
use Rattle.spelling.specs.Words.{Word}
use Rattle.spelling.specs.Grammar.{Grammar, Begins, IsNamed, IsReserved, IsSign}
use Rattle.spelling.specs.Bounds.{Opens}
use Rattle.spelling.specs.Readers.{ClosesNext, InCurly, ReadsFew, ReadsFewMade, ReadsFewUpTo}
use Rattle.spelling.specs.declared.error.SyntaxError.{SyntaxError}
use Rattle.spelling.specs.declared.reader.Reader.{Reader}
use Rattle.p4_expr.specs.Passing.{BoundPassed}
use Rattle.p4_statements.specs.ExpressionsIn.{expressions_of_all}
use Rattle.p4_statements.specs.Reading.{HaveFew}
use Rattle.p4_parser.specs.Declarations.{SpellsApplyBlock, SpellsContents, SpellsDeclaration, SpellsLocals, SpellsNext, SpellsStateBody}
use Rattle.p4_parser.specs.Reaching.{ProgramPassed, Reaches}
use Rattle.p4_expr.specs.Expressions.{HasFewOperators}
use Rattle.p4_parser.specs.ExpressionsIn.{expressions_in, expressions_of_decl, expressions_of_local, expressions_of_next, expressions_of_state}

-- no expression of a part of a program has too many operators
abbrev pub NextHasFew : PlainNext → Type 0
NextHasFew next = All HasFewOperators (expressions_of_next next)

abbrev pub StateHasFew : PlainState → Type 0
StateHasFew state = All HasFewOperators (expressions_of_state state)

abbrev pub FewInStates : List PlainState → Type 0
FewInStates states = All HasFewOperators (flat_map expressions_of_state states)

abbrev pub BodyHasFew : List Name × PlainNext → Type 0
BodyHasFew body = NextHasFew body.1

abbrev pub ActionHasFew : PlainAction → Type 0
ActionHasFew action = HaveFew action.body

abbrev pub LocalHasFew : PlainLocal → Type 0
LocalHasFew local = All HasFewOperators (expressions_of_local local)

abbrev pub ContentsHaveFew : List PlainLocal × PlainStmts → Type 0
ContentsHaveFew contents = All HasFewOperators (flat_map expressions_of_local contents.0 ++ expressions_of_all contents.1)

abbrev pub DeclHasFew : PlainDecl → Type 0
DeclHasFew decl = All HasFewOperators (expressions_of_decl decl)

abbrev pub ProgramHasFew : PlainProgram → Type 0
ProgramHasFew program = All HasFewOperators (expressions_in program)

-- what is read, on the plain tree
abbrev pub seen_cases : List (Keyset × Name) → List (PlainKeyset × Name)
seen_cases = map seen_case

abbrev pub seen_states : List State → List PlainState
seen_states = map seen_state

abbrev pub seen_body : List Name × Next → List Name × PlainNext
seen_body body = (body.0, seen_next body.1)

abbrev pub seen_contents : List Local × List Stmt → List PlainLocal × PlainStmts
seen_contents contents = (map seen_local contents.0, seen_stmts contents.1)

-- what is made of what is read
abbrev pub a_select : PlainExpr × List (PlainKeyset × Name) → PlainNext
a_select of = PlainNext.Select of.0 of.1

abbrev pub a_parser : Name × List PlainState → PlainDecl
a_parser of = PlainDecl.Parser of.0 of.1

abbrev pub a_control : Name × (List PlainLocal × PlainStmts) → PlainDecl
a_control of = PlainDecl.Control of.0 of.1.0 of.1.1

-- an action or a table stands first
abbrev pub BeginsLocal : List Word → Type 0
BeginsLocal ws = Begins (IsReserved (codes "action")) ws ⊎ Begins (IsReserved (codes "table")) ws

-- the bracket of the parameters of an action stands first
abbrev pub OpensNextRound : Grammar
OpensNextRound = Begins (IsSign (codes "("))

-- `transition` stands first
abbrev pub TransitionNext : Grammar
TransitionNext = Begins (IsReserved (codes "transition"))

-- A reader of a part of a program, whose expressions stand within so many brackets at least.
abbrev pub ReadsPart : {A B : Type 0} → (ℕ → B → Grammar) → (A → B) → (B → Type 0) → (enclosed depth : ℕ) → (before after : Reader) → Result A SyntaxError → Type 0
ReadsPart Of seen Few enclosed depth = ReadsFew Of seen Few (BoundPassed (Opens depth) enclosed) depth

-- The same in a pair of brackets.
abbrev pub ReadsBlock : {A B : Type 0} → (ℕ → B → Grammar) → (A → B) → (B → Type 0) → (enclosed depth : ℕ) → (before after : Reader) → Result A SyntaxError → Type 0
ReadsBlock Of = ReadsPart (InCurly Of)

-- The same of several of them, up to a closing bracket.
abbrev pub ReadsParts : {A B : Type 0} → (ℕ → B → Grammar) → (A → B) → (B → Type 0) → (enclosed depth : ℕ) → (before after : Reader) → Result A SyntaxError → Type 0
ReadsParts Of seen Few enclosed depth = ReadsFewUpTo ClosesNext Of seen Few (BoundPassed (Opens depth) enclosed) depth

-- A reader of what stands in the brackets of a state.
abbrev pub ReadsBodyParts : (depth : ℕ) → (before after : Reader) → Result (List Name × Next) SyntaxError → Type 0
ReadsBodyParts = ReadsPart SpellsStateBody seen_body BodyHasFew 0

-- A reader of a `select`, and of a parser.
abbrev pub ReadsSelect : (depth : ℕ) → (before after : Reader) → Result Next SyntaxError → Type 0
ReadsSelect depth = ReadsFewMade SpellsNext seen_next a_select NextHasFew (BoundPassed (Opens depth) 0) depth

abbrev pub ReadsParser : (depth : ℕ) → (before after : Reader) → Result Decl SyntaxError → Type 0
ReadsParser depth = ReadsFewMade SpellsDeclaration seen_decl a_parser DeclHasFew (BoundPassed (Opens depth) 2) depth

-- Of a control, what stands in its brackets, what it applies and its locals.
abbrev pub ReadsControl : (depth : ℕ) → (before after : Reader) → Result Decl SyntaxError → Type 0
ReadsControl depth = ReadsFewMade SpellsDeclaration seen_decl a_control DeclHasFew (ProgramPassed depth) depth

abbrev pub AppliesPassed : ℕ → List Word → List Word → Type 0
AppliesPassed depth before after = BoundPassed (Reaches after depth) 1 before after

abbrev pub ReadsContents : (depth : ℕ) → (before after : Reader) → Result (List Local × List Stmt) SyntaxError → Type 0
ReadsContents depth = ReadsFew (InCurly SpellsContents) seen_contents ContentsHaveFew (ProgramPassed depth) depth

abbrev pub ReadsContentParts : (depth : ℕ) → (before after : Reader) → Result (List Local × List Stmt) SyntaxError → Type 0
ReadsContentParts depth = ReadsFew SpellsContents seen_contents ContentsHaveFew (AppliesPassed depth) depth

abbrev pub ReadsApplyBlock : (depth : ℕ) → (before after : Reader) → Result (List Stmt) SyntaxError → Type 0
ReadsApplyBlock depth = ReadsFew SpellsApplyBlock seen_stmts HaveFew (AppliesPassed depth) depth

abbrev pub AppliesNext : Grammar
AppliesNext = Begins (IsNamed (codes "apply"))

abbrev pub ReadsLocals : (depth : ℕ) → (before after : Reader) → Result (List Local) SyntaxError → Type 0
ReadsLocals depth = ReadsFewUpTo AppliesNext SpellsLocals (map seen_local) (λ locals. All HasFewOperators (flat_map expressions_of_local locals)) (BoundPassed (Opens depth) 1) depth

-- A reader of any declaration.
abbrev pub ReadsDecl : (depth : ℕ) → (before after : Reader) → Result Decl SyntaxError → Type 0
ReadsDecl depth = ReadsFew SpellsDeclaration seen_decl DeclHasFew (ProgramPassed depth) depth
