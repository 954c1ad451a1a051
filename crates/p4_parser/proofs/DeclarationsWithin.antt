-- A declaration and a program open no more brackets than their depth allows, and close those that they open.
use Rattle.std.proofs.Common.{ℕ, List, Option, None, Some, codes, refl}
use Rattle.elastic_ast.specs.declared.declarations.Param.{Param}
use Rattle.elastic_ast.specs.Tree.{Name, PlainKeyset, PlainLocal, PlainNext, PlainState, PlainDecl, PlainProgram}
use Rattle.spelling.specs.Grammar.{◌⨟◌, Each, Commas, Reserved, Named, Bracketed}
use Rattle.spelling.proofs.Balance.{Stays, stays_empty, stays_sign, stays_reserved, stays_named, stays_both, stays_either, stays_where, stays_each, stays_commas, stays_round, stays_square, stays_curly}
use Rattle.p4_expr.specs.Parts.{SpellsHeader}
use Rattle.p4_expr.specs.Expressions.{SpellsExpr}
use Rattle.p4_expr.proofs.PartsWithin.{bits_stays, header_stays}
use Rattle.p4_expr.proofs.ExprWithin.{expr_within}
use Rattle.p4_declarations.proofs.FlatWithin.{flat_stays}
use Rattle.p4_statements.specs.Statements.{SpellsPlains, SpellsStmts}
use Rattle.p4_parser.specs.Declarations.{SpellsActionIndex, SpellsParam, SpellsLocal, SpellsExtract, SpellsCase, SpellsNext, SpellsState, SpellsLastParameters, SpellsParserParameters, SpellsControlParameters, SpellsDeclaration, SpellsProgram}
use Rattle.p4_statements.proofs.StatementsWithin.{plains_stay, stmts_within}
use Rattle.p4_tables.proofs.TablesWithin.{set_stays, table_stays}

pub action_index_stays : (depth : ℕ) (index : Option Name) → Stays depth (SpellsActionIndex depth index)
action_index_stays depth None = stays_empty
action_index_stays depth (Some index) = stays_square depth (λ _. Reserved (codes "int") ⨟ Named index) (λ _. stays_both (stays_reserved (codes "int")) (stays_named index))

pub param_stays : {depth : ℕ} (param : Param) → Stays depth (SpellsParam param)
param_stays param = stays_both (bits_stays param.width) (stays_named param.name)

pub params_stay : (depth : ℕ) (params : List Param) → Stays depth (Bracketed (codes "(") (codes ")") depth (λ _. Commas SpellsParam params))
params_stay depth params = stays_round depth (λ _. Commas SpellsParam params) (λ _. stays_commas SpellsParam (λ param. param_stays param) params)

pub local_stays : (depth : ℕ) (part : PlainLocal) → Stays depth (SpellsLocal depth part)
local_stays depth (PlainLocal.OfAction action) = stays_both (stays_reserved (codes "action")) (stays_both (stays_named action.name) (stays_both (action_index_stays depth action.index) (stays_both (params_stay depth action.params) (stays_curly depth (λ inner. SpellsPlains inner action.body) (λ inner. plains_stay inner action.body)))))
local_stays depth (PlainLocal.OfTable table) = table_stays depth table

pub extract_stays : (depth : ℕ) (header : Name) → Stays depth (SpellsExtract depth header)
extract_stays depth header = stays_both (stays_named (codes "pkt")) (stays_both (stays_sign (codes ".") refl refl) (stays_both (stays_named (codes "extract")) (stays_both (stays_round depth (λ _. SpellsHeader header) (λ _. header_stays header)) (stays_sign (codes ";") refl refl))))

pub case_stays : {depth : ℕ} (chosen : PlainKeyset × Name) → Stays depth (SpellsCase chosen)
case_stays chosen = stays_both (stays_either (set_stays chosen.0) (stays_where (stays_reserved (codes "default")))) (stays_both (stays_sign (codes ":") refl refl) (stays_both (stays_named chosen.1) (stays_sign (codes ";") refl refl)))

pub next_stays : (depth : ℕ) (next : PlainNext) → Stays depth (SpellsNext depth next)
next_stays depth (PlainNext.To state) = stays_both (stays_named state) (stays_sign (codes ";") refl refl)
next_stays depth (PlainNext.Select of cases) = stays_both (stays_reserved (codes "select")) (stays_both (stays_round depth (λ inner. SpellsExpr inner of) (λ inner. expr_within)) (stays_curly depth (λ _. Each SpellsCase cases) (λ _. stays_each SpellsCase (λ chosen. case_stays chosen) cases)))

pub state_stays : (depth : ℕ) (state : PlainState) → Stays depth (SpellsState depth state)
state_stays depth state = stays_both (stays_reserved (codes "state")) (stays_both (stays_named state.name) (stays_curly depth (λ inner. Each (SpellsExtract inner) state.extracts ⨟ Reserved (codes "transition") ⨟ SpellsNext inner state.next) (λ inner. stays_both (stays_each (SpellsExtract inner) (extract_stays inner) state.extracts) (stays_both (stays_reserved (codes "transition")) (next_stays inner state.next)))))

last_parameters_stay : {depth : ℕ} → Stays depth SpellsLastParameters
last_parameters_stay = stays_both (stays_named (codes "headers_t")) (stays_both (stays_named (codes "hdr")) (stays_both (stays_sign (codes ",") refl refl) (stays_both (stays_reserved (codes "inout")) (stays_both (stays_named (codes "meta_t")) (stays_both (stays_named (codes "meta")) (stays_both (stays_sign (codes ",") refl refl) (stays_both (stays_reserved (codes "inout")) (stays_both (stays_named (codes "std_t")) (stays_named (codes "std"))))))))))

pub parser_parameters_stay : {depth : ℕ} → Stays depth SpellsParserParameters
parser_parameters_stay = stays_both (stays_named (codes "packet_in")) (stays_both (stays_named (codes "pkt")) (stays_both (stays_sign (codes ",") refl refl) (stays_both (stays_reserved (codes "out")) last_parameters_stay)))

pub control_parameters_stay : {depth : ℕ} → Stays depth SpellsControlParameters
control_parameters_stay = stays_both (stays_reserved (codes "inout")) last_parameters_stay

pub declaration_stays : (depth : ℕ) (decl : PlainDecl) → Stays depth (SpellsDeclaration depth decl)
declaration_stays depth (PlainDecl.Parser name states) = stays_both (stays_reserved (codes "parser")) (stays_both (stays_named name) (stays_both (stays_round depth (λ _. SpellsParserParameters) (λ _. parser_parameters_stay)) (stays_curly depth (λ inner. Each (SpellsState inner) states) (λ inner. stays_each (SpellsState inner) (state_stays inner) states))))
declaration_stays depth (PlainDecl.Control name locals body) = stays_both (stays_reserved (codes "control")) (stays_both (stays_named name) (stays_both (stays_round depth (λ _. SpellsControlParameters) (λ _. control_parameters_stay)) (stays_curly depth (λ inner. Each (SpellsLocal inner) locals ⨟ Named (codes "apply") ⨟ Bracketed (codes "{") (codes "}") inner (λ innermost. SpellsStmts innermost body)) (λ inner. stays_both (stays_each (SpellsLocal inner) (local_stays inner) locals) (stays_both (stays_named (codes "apply")) (stays_curly inner (λ innermost. SpellsStmts innermost body) (λ innermost ws h. stmts_within h)))))))
declaration_stays depth (PlainDecl.Include file) = flat_stays depth (PlainDecl.Include file)
declaration_stays depth (PlainDecl.Symbol symbol) = flat_stays depth (PlainDecl.Symbol symbol)
declaration_stays depth (PlainDecl.Assume comps) = flat_stays depth (PlainDecl.Assume comps)
declaration_stays depth (PlainDecl.Maximize terms) = flat_stays depth (PlainDecl.Maximize terms)
declaration_stays depth (PlainDecl.Const name width value) = flat_stays depth (PlainDecl.Const name width value)
declaration_stays depth (PlainDecl.Header name fields) = flat_stays depth (PlainDecl.Header name fields)
declaration_stays depth (PlainDecl.Headers members) = flat_stays depth (PlainDecl.Headers members)
declaration_stays depth (PlainDecl.Meta fields) = flat_stays depth (PlainDecl.Meta fields)
declaration_stays depth (PlainDecl.Register name width cells size) = flat_stays depth (PlainDecl.Register name width cells size)
declaration_stays depth (PlainDecl.Deparser name emits) = flat_stays depth (PlainDecl.Deparser name emits)
declaration_stays depth (PlainDecl.Main parser control deparser) = flat_stays depth (PlainDecl.Main parser control deparser)

pub program_stays : (depth : ℕ) (decls : PlainProgram) → Stays depth (SpellsProgram depth decls)
program_stays depth decls = stays_each (SpellsDeclaration depth) (declaration_stays depth) decls
