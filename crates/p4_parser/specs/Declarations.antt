-- Which words spell a parser, a control, each other declaration and a whole program, in the manner of the grammar of the
-- P4-16 language specification 1.2.3; actions with an index and the fixed parameters are this project's own.
use Rattle.std.specs.Prelude.{◌≡◌, ℕ, List, Option, None, Some, codes}
use Rattle.elastic_ast.specs.declared.declarations.Param.{Param}
use Rattle.elastic_ast.specs.Tree.{Name, PlainAction, PlainKeyset, PlainLocal, PlainNext, PlainState, PlainStmts, PlainDecl, PlainProgram}
use Rattle.spelling.specs.Grammar.{Grammar, Empty, ◌⨟◌, Either, Where, Each, Commas, Sign, Reserved, Named}
use Rattle.p4_expr.specs.Parts.{SpellsBits}
use Rattle.p4_expr.specs.Expressions.{SpellsExpr}
use Rattle.spelling.specs.Readers.{InCurly, InRound, InSquare}
use Rattle.p4_declarations.specs.Flat.{SpellsFlat, SpellsOfPacket}
use Rattle.p4_tables.specs.Tables.{SpellsSet, SpellsTable}
use Rattle.p4_statements.specs.Statements.{SpellsPlains, SpellsStmts}
use Rattle.p4_parser.specs.declared.parameters.Owner.{Owner}
use Rattle.p4_parser.specs.declared.parameters.Owner.TheVariants as owner

-- 'int' N
abbrev pub SpellsIndexName : Name → Grammar
SpellsIndexName name = Reserved (codes "int") ⨟ Named name

-- ['[' 'int' N ']']
abbrev pub SpellsActionIndex : ℕ → Option Name → Grammar
SpellsActionIndex depth None = Empty
SpellsActionIndex depth (Some index) = InSquare (λ _. SpellsIndexName) depth index

-- bits N
abbrev pub SpellsParam : Param → Grammar
SpellsParam param = SpellsBits param.width ⨟ Named param.name

-- (bits N),*
abbrev pub SpellsParamList : List Param → Grammar
SpellsParamList params = Commas SpellsParam params

-- '(' (bits N),* ')'
abbrev pub SpellsParams : ℕ → List Param → Grammar
SpellsParams depth params = InRound (λ _. SpellsParamList) depth params

-- 'action' N ['[' 'int' N ']'] '(' (bits N),* ')' '{' plain* '}'
abbrev pub SpellsAction : ℕ → PlainAction → Grammar
SpellsAction depth action = Reserved (codes "action") ⨟ Named action.name ⨟ SpellsActionIndex depth action.index ⨟ SpellsParams depth action.params ⨟ InCurly SpellsPlains depth action.body

-- local := action | 'table' N '{' prop* '}'
abbrev pub SpellsLocal : ℕ → PlainLocal → Grammar
SpellsLocal depth (PlainLocal.OfAction action) = SpellsAction depth action
SpellsLocal depth (PlainLocal.OfTable table) = SpellsTable depth table

-- 'pkt' '.' 'extract' '(' 'hdr' '.' N ')' ';'
abbrev pub SpellsExtract : ℕ → Name → Grammar
SpellsExtract = SpellsOfPacket (codes "extract")

-- set | 'default', which is the set of anything too
abbrev pub SpellsCaseSet : PlainKeyset → Grammar
SpellsCaseSet set = Either (SpellsSet set) (Where (set ≡ PlainKeyset.Any) (Reserved (codes "default")))

-- (set | 'default') ':' N ';'
abbrev pub SpellsCase : PlainKeyset × Name → Grammar
SpellsCase chosen = SpellsCaseSet chosen.0 ⨟ Sign (codes ":") ⨟ Named chosen.1 ⨟ Sign (codes ";")

abbrev pub SpellsCases : List (PlainKeyset × Name) → Grammar
SpellsCases cases = Each SpellsCase cases

abbrev pub CasesIn : ℕ → List (PlainKeyset × Name) → Grammar
CasesIn depth cases = SpellsCases cases

abbrev pub SpellsExtracts : ℕ → List Name → Grammar
SpellsExtracts depth headers = Each (SpellsExtract depth) headers

-- next := N ';'
--   | 'select' '(' expr ')' '{' ((set | 'default') ':' N ';')* '}'
abbrev pub SpellsNext : ℕ → PlainNext → Grammar
SpellsNext depth (PlainNext.To state) = Named state ⨟ Sign (codes ";")
SpellsNext depth (PlainNext.Select of cases) = Reserved (codes "select") ⨟ InRound SpellsExpr depth of ⨟ InCurly CasesIn depth cases

-- ('pkt' '.' 'extract' '(' 'hdr' '.' N ')' ';')* 'transition' next
abbrev pub SpellsStateBody : ℕ → List Name × PlainNext → Grammar
SpellsStateBody depth body = SpellsExtracts depth body.0 ⨟ Reserved (codes "transition") ⨟ SpellsNext depth body.1

-- state := 'state' N '{' ('pkt' '.' 'extract' '(' 'hdr' '.' N ')' ';')* 'transition' next '}'
abbrev pub SpellsState : ℕ → PlainState → Grammar
SpellsState depth state = Reserved (codes "state") ⨟ Named state.name ⨟ InCurly SpellsStateBody depth (state.extracts, state.next)

abbrev pub SpellsStates : ℕ → List PlainState → Grammar
SpellsStates depth states = Each (SpellsState depth) states

-- last, of a parser and of a control: 'headers_t' 'hdr' ',' 'inout' 'meta_t' 'meta' ',' 'inout' 'std_t' 'std'
abbrev pub SpellsLastParameters : Grammar
SpellsLastParameters = Named (codes "headers_t") ⨟ Named (codes "hdr") ⨟ Sign (codes ",") ⨟ Reserved (codes "inout") ⨟ Named (codes "meta_t") ⨟ Named (codes "meta") ⨟ Sign (codes ",") ⨟ Reserved (codes "inout") ⨟ Named (codes "std_t") ⨟ Named (codes "std")

-- 'packet_in' 'pkt' ',' 'out' last
abbrev pub SpellsParserParameters : Grammar
SpellsParserParameters = Named (codes "packet_in") ⨟ Named (codes "pkt") ⨟ Sign (codes ",") ⨟ Reserved (codes "out") ⨟ SpellsLastParameters

-- 'inout' last
abbrev pub SpellsControlParameters : Grammar
SpellsControlParameters = Reserved (codes "inout") ⨟ SpellsLastParameters

-- 'apply' '{' stmt* '}'
abbrev pub SpellsApplyBlock : ℕ → PlainStmts → Grammar
SpellsApplyBlock depth body = Named (codes "apply") ⨟ InCurly SpellsStmts depth body

abbrev pub SpellsLocals : ℕ → List PlainLocal → Grammar
SpellsLocals depth locals = Each (SpellsLocal depth) locals

-- local* 'apply' '{' stmt* '}'
abbrev pub SpellsContents : ℕ → List PlainLocal × PlainStmts → Grammar
SpellsContents depth contents = SpellsLocals depth contents.0 ⨟ SpellsApplyBlock depth contents.1

-- the parameters of a parser and of a control
abbrev pub SpellsParameters : Owner → Grammar
SpellsParameters owner.Parser = SpellsParserParameters
SpellsParameters owner.Control = SpellsControlParameters

-- the same between brackets
abbrev pub InParameters : Owner → ℕ → Unit {0} → Grammar
InParameters of depth none = SpellsParameters of

-- A declaration; one that is flat, or
--   'parser' N '(' parameters ')' '{' state* '}'
--   | 'control' N '(' parameters ')' '{' local* 'apply' '{' stmt* '}' '}'
abbrev pub SpellsDeclaration : ℕ → PlainDecl → Grammar
SpellsDeclaration depth (PlainDecl.Parser name states) = Reserved (codes "parser") ⨟ Named name ⨟ InRound (InParameters owner.Parser) depth tt ⨟ InCurly SpellsStates depth states
SpellsDeclaration depth (PlainDecl.Control name locals body) = Reserved (codes "control") ⨟ Named name ⨟ InRound (InParameters owner.Control) depth tt ⨟ InCurly SpellsContents depth (locals, body)
SpellsDeclaration depth decl = SpellsFlat depth decl

-- program := decl*
abbrev pub SpellsProgram : ℕ → PlainProgram → Grammar
SpellsProgram depth = Each (SpellsDeclaration depth)
